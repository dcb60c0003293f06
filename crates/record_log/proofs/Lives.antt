-- What the calls of a life add to the records, one after another.
use Rattle.std.proofs.Common.{◌≡◌, ◌⊎◌, inl, inr, ℕ, List, [], ◌∷◌, ◌++◌, length, Result, Err, refl, sym, ◌∙◌, ap, subst}
use Rattle.std.proofs.lemmas.Bool.{cases_lt}
use Rattle.std.proofs.lemmas.List.{append_assoc, append-nil}
use Rattle.leaf_ledger.specs.Device.{Disk, History, MayLeave, Leaves, Throughout, LeftDuring, at_rest, started, synced}
use Rattle.leaf_ledger.specs.Moments.{rest_only, stayed, at_end, left_has}
use Rattle.record_log.specs.Records.{Record, Tells, TellsWithOrWithout, IsNew, KeepsLog, MayBeLeft}
use Rattle.record_log.specs.Life.{Addition, Nothing, Appended, Tried, addition_of, cut_short, MayAdd, IsPossible, Follows, Call, Event, Called, Crashed, IsLife, end_of, additions}
use Rattle.record_log.specs.Places.{KeepsRecords}
use Rattle.record_log.proofs.Opened.{both_new}

-- ---- one after another

one_after : (adds : Addition) (calls : List Addition) (x y : List Record) → MayAdd (adds ∷ []) x → MayAdd calls y → MayAdd (adds ∷ calls) (x ++ y)
one_after Nothing calls x y first then = subst (λ (l : List Record). MayAdd calls (l ++ y)) (sym first) then
one_after (Appended r) calls x y first then = (y, ap (λ (l : List Record). l ++ y) (first.1 ∙ ap (λ (l : List Record). r ++ l) first.2 ∙ append-nil r), then)
one_after (Tried r) calls x y (inl none) then = inl (subst (λ (l : List Record). MayAdd calls (l ++ y)) (sym none) then)
one_after (Tried r) calls x y (inr first) then = inr (y, ap (λ (l : List Record). l ++ y) (first.1 ∙ ap (λ (l : List Record). r ++ l) first.2 ∙ append-nil r), then)

one_call_more : (adds : Addition) (calls : List Addition) (old mid : History) (file : List ℕ) (then : Follows calls mid file) → Follows (adds ∷ []) old then.before → Follows (adds ∷ calls) old file
one_call_more adds calls old mid file then first = record {
  before = first.before;
  possible = first.possible;
  tells = λ rs told.
      let x = first.tells rs told in
      let y = then.tells (rs ++ x.0) x.2 in
      (x.0 ++ y.0, one_after adds calls x.0 y.0 x.1 y.1, subst (λ (l : List Record). Tells l file) (append_assoc rs x.0 y.0) y.2);
}

only : (left file : List ℕ) → IsPossible (started left) file → file ≡ left
only left file (inl same) = same
only left file (inr may) = rest_only left file may

pub all_follow : (h : History) (events : List Event) → IsLife h events → (file : List ℕ) → IsPossible (end_of h events) file → Follows (additions events) h file
all_follow h [] life file here = record { before = file; possible = here; tells = λ rs told. ([], refl, subst (λ (l : List Record). Tells l file) (sym (append-nil rs)) told) }
all_follow h (Called adds new ∷ events) life file here =
    let then = all_follow new events life.1 file here in one_call_more adds (additions events) h new file then (life.0.after then.before then.possible)
all_follow h (Crashed adds new left ∷ events) life file here =
    let then = all_follow (started left) events life.2 file here in
    one_call_more (cut_short adds) (additions events) h (started left) file then
    (subst (λ (l : List ℕ). Follows (cut_short adds ∷ []) h l) (sym (only left then.before then.possible)) (life.0.inside left life.1))

-- ---- a call that adds nothing

none_added : (old : History) (file : List ℕ) → MayBeLeft old file → Follows (Nothing ∷ []) old file
none_added old file (inl may) = record { before = file; possible = inr may; tells = λ rs told. ([], refl, subst (λ (l : List Record). Tells l file) (sym (append-nil rs)) told) }
none_added old file (inr (inl same)) = record {
  before = old.now.text;
  possible = inl refl;
  tells = λ rs told. ([], refl, subst (λ (l : List Record). Tells l file) (sym (append-nil rs)) (subst (λ (f : List ℕ). Tells rs f) (sym same) told));
}
none_added old file (inr (inr new)) = record {
  before = old.now.text;
  possible = inl refl;
  tells = λ rs told. ([], refl, subst (λ (l : List Record). Tells l file) (sym (append-nil rs)) (both_new old.now.text file rs new.0 new.1 told));
}

module _ (old new : History) (all : Throughout (MayBeLeft old) old new) where
  pub opening : MayBeLeft old new.now.text → Call Nothing old new
  opening reads = record { after = after; inside = λ left during. none_added old left (left_has (MayBeLeft old) old new left all during) }
    where
      after : (file : List ℕ) → IsPossible new file → Follows (Nothing ∷ []) old file
      after file (inl same) = none_added old file (subst (λ (f : List ℕ). MayBeLeft old f) (sym same) reads)
      after file (inr may) = none_added old file (at_end (MayBeLeft old) old new all file may)

  reads_of : KeepsLog old new → (IsNew old.now.text → IsNew new.now.text) → MayBeLeft old new.now.text
  reads_of kept new_one = elim (cases_lt 1 (length old.now.text)) [
    | inl long ↦ from (kept long)
    | inr few ↦ inr (inr (few, new_one few))
  ]
    where
      from : (new ≡ old) ⊎ (new ≡ synced old) → MayBeLeft old new.now.text
      from (inl same) = inr (inl (ap (λ (h : History). h.now.text) same))
      from (inr after) = inr (inl (ap (λ (h : History). h.now.text) after))

  -- a log that was opened, or refused
  pub open_call : KeepsLog old new → (IsNew old.now.text → IsNew new.now.text) → Call Nothing old new
  open_call kept new_one = opening (reads_of kept new_one)

pub no_call : (h : History) → Call Nothing h h
no_call h = opening h h (stayed (MayBeLeft h) h (λ left may. inl may)) (inr (inl refl))

pub same_call : (old new : History) → new ≡ old → Call Nothing old new
same_call old new same = subst (λ (h : History). Call Nothing old h) (sym same) (no_call old)

-- whatever a call does that leaves the records
pub kept_call : (old new : History) → KeepsRecords old new → Call Nothing old new
kept_call old new kept = record { after = after; inside = inside }
  where
    follows : (file : List ℕ) → ((rs : List Record) → Tells rs old.now.text → Tells rs file) → Follows (Nothing ∷ []) old file
    follows file tells = record {
      before = old.now.text;
      possible = inl refl;
      tells = λ rs told. ([], refl, subst (λ (l : List Record). Tells l file) (sym (append-nil rs)) (tells rs told));
    }

    after : (file : List ℕ) → IsPossible new file → Follows (Nothing ∷ []) old file
    after file (inl same) = follows file (λ rs told. subst (λ (f : List ℕ). Tells rs f) (sym same) (kept.reads rs told))
    after file (inr may) = follows file (λ rs told. at_end (Tells rs) old new (kept.any_moment rs told) file may)

    inside : (left : List ℕ) → LeftDuring old new left → Follows (Nothing ∷ []) old left
    inside left during = follows left (λ rs told. left_has (Tells rs) old new left (kept.any_moment rs told) during)

-- ---- an append

module _ (old new : History) (r : List Record) (all : (rs : List Record) → Tells rs old.now.text → Throughout (TellsWithOrWithout rs r) old new) where
  with_or_without : (file : List ℕ) → ((rs : List Record) → Tells rs old.now.text → TellsWithOrWithout rs r file) → Follows (Tried r ∷ []) old file
  with_or_without file tells = record { before = old.now.text; possible = inl refl; tells = λ rs told. each rs (tells rs told) }
    where
      each : (rs : List Record) → TellsWithOrWithout rs r file → (added : List Record) × MayAdd (Tried r ∷ []) added × Tells (rs ++ added) file
      each rs (inl without) = ([], inl refl, subst (λ (l : List Record). Tells l file) (sym (append-nil rs)) without)
      each rs (inr with) = (r, inr ([], sym (append-nil r), refl), with)

  inside : (left : List ℕ) → LeftDuring old new left → Follows (Tried r ∷ []) old left
  inside left during = with_or_without left (λ rs told. left_has (TellsWithOrWithout rs r) old new left (all rs told) during)

  pub tried : ((rs : List Record) → Tells rs old.now.text → TellsWithOrWithout rs r new.now.text) → Call (Tried r) old new
  tried reads = record { after = after; inside = inside }
    where
      after : (file : List ℕ) → IsPossible new file → Follows (Tried r ∷ []) old file
      after file (inl same) = with_or_without file (λ rs told. subst (λ (f : List ℕ). TellsWithOrWithout rs r f) (sym same) (reads rs told))
      after file (inr may) = with_or_without file (λ rs told. at_end (TellsWithOrWithout rs r) old new (all rs told) file may)

  pub answered : (text : List ℕ) → new.now ≡ at_rest text → ((rs : List Record) → Tells rs old.now.text → Tells (rs ++ r) new.now.text) → Call (Appended r) old new
  answered text rest appended = record { after = λ file possible. with_it file (the_text file possible); inside = inside }
    where
      the_text : (file : List ℕ) → IsPossible new file → file ≡ new.now.text
      the_text file (inl same) = same
      the_text file (inr may) = rest_only text file (subst (λ (d : Disk). MayLeave d file) rest may) ∙ sym (ap (λ (d : Disk). d.text) rest)

      with_it : (file : List ℕ) → file ≡ new.now.text → Follows (Appended r ∷ []) old file
      with_it file same = record {
        before = old.now.text;
        possible = inl refl;
        tells = λ rs told. (r, ([], sym (append-nil r), refl), subst (λ (f : List ℕ). Tells (rs ++ r) f) (sym same) (appended rs told));
      }

-- an append that gave an error
pub refused : {T E : Type 0} (result : Result T E) (e : E) → result ≡ Err e → (old new : History) (r : List Record) → Call (Tried r) old new → Call (addition_of r result) old new
refused result e is old new r call = subst (λ x. Call (addition_of r x) old new) (sym is) call

-- ---- the law

pub records_stay : (start : History) (rs : List Record) → Tells rs start.now.text → Leaves (Tells rs) start.now → (events : List Event) → IsLife start events
    → (file : List ℕ) → IsPossible (end_of start events) file → (added : List Record) × MayAdd (additions events) added × Tells (rs ++ added) file
records_stay start rs read crash events life file here =
    let all = all_follow start events life file here in all.tells rs (told all.before all.possible)
  where
    told : (before : List ℕ) → IsPossible start before → Tells rs before
    told before (inl same) = subst (λ (f : List ℕ). Tells rs f) (sym same) read
    told before (inr may) = crash before may
