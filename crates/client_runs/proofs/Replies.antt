-- Replies that a client has under check or accepted: they were shown to it, and break no rule that was tried.
use Rattle.std.proofs.Common.{◌≡◌, List, ◌∷◌, Option, Some, None, Result, Ok, Err, IfSome, IsSomeAnd, refl, sym, ap, ◌∙◌, subst, inl, inr}
use Rattle.std.specs.Prelude.{is_ok, if◌then◌else◌}
use Rattle.std.specs.List.{flat_map}
use Rattle.std.specs.Option.{option_and_then}
use Rattle.std.specs.Result.{result_ok}
use Rattle.layout.specs.declared.error.ReadError.{ReadError}
use Rattle.layout.specs.Format.{IsBytes, whole}
use Rattle.layout.specs.Laws.{is_found}
use Rattle.layout.specs.Types.{Bytes}
use Rattle.principals.specs.Table.{Table}
use Rattle.pending_list.specs.Reply.{PendingItem, Reply, reply}
use Rattle.pending_list.specs.ReplyLaws.{lawful_reply}
use Rattle.reply_rules.specs.Lists.{Lists, items, lists_of}
use Rattle.reply_rules.specs.ListsLaws.{lists_are, no_lists}
use Rattle.reply_rules.specs.declared.rule.Rule.TheVariants as rule
use Rattle.client_releases.specs.Told.{Released}
use Rattle.client_verify.specs.declared.step.Step.{Step}
use Rattle.client_verify.specs.declared.step.Step.TheVariants.{Need, Store, Broken}
use Rattle.reply_check.specs.FirstBroken.{Known, lists_break, of_reply, reply_breaks}
use Rattle.reply_check.specs.Good.{Good}
use Rattle.reply_check.specs.declared.asked.Asked.{Asked}
use Rattle.agreement.proofs.Members.{In, in-left, in-right, last_or_nil}
use Rattle.checked_blocks.specs.CheckedBlocks.{CheckedBlocks}
use Rattle.client_verify.specs.State.{Checked, Reading, Ready, State, Writing, holding, known, released}
use Rattle.client_verify.specs.Judged.{AsksOrAccepts, GoesOn, Handed, Judged, Taken}
use Rattle.client_runs.specs.Runs.{Event}
use Rattle.client_runs.specs.Released.{Shown, hashed_at, hashed_by, reply_texts, shown_by, shown_in}

-- the reply with these lists
abbrev pub of_lists : Lists → Reply
of_lists x = record { structures = x.structures; pending = items x }

-- all texts that are shown in a run with a signature
abbrev pub shown : List Event → List Shown
shown run = flat_map (λ e. shown_by e.call) run

-- It was read from bytes that were shown in the run, and breaks no rule on itself.
pub record IsJudged (run : List Event) (k : Known) (r : Reply) : Type 0 where
  pub fits : reply.Fits r
  pub unbroken : of_reply k r ≡ None
  pub was_shown : (t : Shown) → In t (shown_in r) → In t (shown run)
  pub was_hashed : (t : Bytes) → In t (reply_texts r) → In t (flat_map hashed_at run)

-- nor one by this table
pub record IsGoodBy (run : List Event) (k : Known) (x : Lists) (t : Table) : Type 0 where
  pub judged : IsJudged run k (of_lists x)
  pub by_table : lists_break t x ≡ None

abbrev pub IsUnder : List Event → Known → Checked → Type 0
IsUnder run k (Reading r a) = IsJudged run k r
IsUnder run k (Writing x a) = IsGoodBy run k x.lists x.table

-- so it is with what is under check, and accepted
pub record AreSound (run : List Event) (s : State) : Type 0 where
  pub checked : IfSome s.checked (IsUnder run (known s))
  pub accepted : IfSome s.accepted (λ y. IsGoodBy run (known s) y.lists y.table)

-- what these depend on, with what was released
abbrev pub Kept : Type 0
Kept = Released × Bytes × Option Checked × Option Ready

abbrev pub kept : State → Kept
kept s = (released s, s.pinned, s.checked, s.accepted)

abbrev known_of : Kept → Known
known_of k = record { user = k.0.user; pinned = k.1; last = k.0.last; declared = k.0.text }

pub kept_sound : (run : List Event) (s new : State) → kept new ≡ kept s → AreSound run s → AreSound run new
kept_sound run s new same a = record {
  checked = subst (λ (k : Kept). IfSome k.2 (IsUnder run (known_of k))) (sym same) a.checked;
  accepted = subst (λ (k : Kept). IfSome k.3 (λ y. IsGoodBy run (known_of k) y.lists y.table)) (sym same) a.accepted;
}

-- what a call leaves that releases nothing
pub record IsQuiet (s new : State) : Type 0 where
  pub devices : new.devices ≡ s.devices
  pub user : new.user ≡ s.user
  pub secrets : new.secrets ≡ s.secrets
  pub pinned : new.pinned ≡ s.pinned
  pub number : new.number ≡ s.number
  pub last : new.last ≡ s.last
  pub text : new.text ≡ s.text
  pub phase : new.phase ≡ s.phase

pub still : (s : State) → IsQuiet s s
still s = record { devices = refl; user = refl; secrets = refl; pinned = refl; number = refl; last = refl; text = refl; phase = refl }

-- ---- later

pub judged_later : (e : Event) (run : List Event) (k : Known) (r : Reply) → IsJudged run k r → IsJudged (e ∷ run) k r
judged_later e run k r j = record {
  fits = j.fits;
  unbroken = j.unbroken;
  was_shown = λ t i. in-right t (shown_by e.call) (shown run) (j.was_shown t i);
  was_hashed = λ t i. in-right t (hashed_at e) (flat_map hashed_at run) (j.was_hashed t i);
}

pub good_later : (e : Event) (run : List Event) (k : Known) (x : Lists) (t : Table) → IsGoodBy run k x t → IsGoodBy (e ∷ run) k x t
good_later e run k x t g = record { judged = judged_later e run k (of_lists x) g.judged; by_table = g.by_table }

under_later : (e : Event) (run : List Event) (k : Known) (c : Checked) → IsUnder run k c → IsUnder (e ∷ run) k c
under_later e run k (Reading r a) u = judged_later e run k r u
under_later e run k (Writing x a) u = good_later e run k x.lists x.table u

checked_later : (e : Event) (run : List Event) (k : Known) (c : Option Checked) → IfSome c (IsUnder run k) → IfSome c (IsUnder (e ∷ run) k)
checked_later e run k None u = u
checked_later e run k (Some c) u = under_later e run k c u

accepted_later : (e : Event) (run : List Event) (k : Known) (y : Option Ready) → IfSome y (λ y. IsGoodBy run k y.lists y.table) → IfSome y (λ y. IsGoodBy (e ∷ run) k y.lists y.table)
accepted_later e run k None g = g
accepted_later e run k (Some y) g = good_later e run k y.lists y.table g

pub sound_later : (e : Event) (run : List Event) (s : State) → AreSound run s → AreSound (e ∷ run) s
sound_later e run s a = record { checked = checked_later e run (known s) s.checked a.checked; accepted = accepted_later e run (known s) s.accepted a.accepted }

-- where nothing is under check or accepted
pub none_sound : (run : List Event) (s : State) → s.checked ≡ None → s.accepted ≡ None → AreSound run s
none_sound run s c y = record {
  checked = subst (λ (o : Option Checked). IfSome o (IsUnder run (known s))) (sym c) tt;
  accepted = subst (λ (o : Option Ready). IfSome o (λ y. IsGoodBy run (known s) y.lists y.table)) (sym y) tt;
}

-- ---- the lists of a reply

pub lists_back : (r : Reply) (x : Lists) → lists_of r ≡ Some x → of_lists x ≡ r
lists_back r x e =
    elim (last_or_nil r.pending) [
      | inl none ↦ absurd (let n = no_lists r none in let two : None ≡ Some x = sym n ∙ e in cc two)
      | inr l ↦ (
          let is = lists_are r l.0 l.1 l.2 in
          let same : x ≡ record { structures = r.structures; others = l.0; own = l.1 } = cc (e, is) in
          ap of_lists same ∙ ap (λ (p : List PendingItem). record { structures = r.structures; pending = p }) (sym l.2))
    ]

-- ---- going on

-- a call that leaves the rest of the client as it is, and what is sound
pub record StaysSound (run : List Event) (s new : State) : Type 0 where
  pub quiet : IsQuiet s new
  pub sound : AreSound run new

writes : (run : List Event) (s : State) (b : CheckedBlocks) (good : Good) (a : Asked) → IsGoodBy run (known s) good.lists good.table → StaysSound run s (record s { blocks = b; checked = Some (Writing good a); accepted = None })
writes run s b good a g = record {
  quiet = record { devices = refl; user = refl; secrets = refl; pinned = refl; number = refl; last = refl; text = refl; phase = refl };
  sound = record { checked = g; accepted = tt };
}

reads : (run : List Event) (s : State) (b : CheckedBlocks) (r : Reply) (a : Asked) → IsJudged run (known s) r → StaysSound run s (record s { blocks = b; checked = Some (Reading r a); accepted = None })
reads run s b r a j = record {
  quiet = record { devices = refl; user = refl; secrets = refl; pinned = refl; number = refl; last = refl; text = refl; phase = refl };
  sound = record { checked = j; accepted = tt };
}

accepts : (run : List Event) (s : State) (b : CheckedBlocks) (y : Ready) → IsGoodBy run (known s) y.lists y.table → StaysSound run s (record s { blocks = b; checked = None; accepted = Some y })
accepts run s b y g = record {
  quiet = record { devices = refl; user = refl; secrets = refl; pinned = refl; number = refl; last = refl; text = refl; phase = refl };
  sound = record { checked = tt; accepted = g };
}

pub goes : {A : Type 0} (run : List Event) (s : State) (good : Good) (step : Step A) (new : State) → IsGoodBy run (known s) good.lists good.table → AsksOrAccepts s good step new → StaysSound run s new
goes run s good (Need digest) new g h = subst (λ (n : State). StaysSound run s n) (sym h.2) (writes run s new.blocks good h.0 g)
goes run s good (Store texts) new g h =
    subst (λ (n : State). StaysSound run s n) (sym h.3)
    (accepts run s new.blocks (record { lists = good.lists; table = good.table; handle = h.0.handle; records = _; lost = h.2 }) g)
goes run s good (Broken rule) new g h = absurd h

good_from : (run : List Event) (s : State) (r : Reply) (x : Lists) (good : Good) → IsJudged run (known s) r → of_lists x ≡ r → good.lists ≡ x → lists_break good.table x ≡ None → IsGoodBy run (known s) good.lists good.table
good_from run s r x good j back is by =
    subst (λ (y : Lists). IsGoodBy run (known s) y good.table) (sym is)
    (record { judged = subst (λ (q : Reply). IsJudged run (known s) q) (sym back) j; by_table = by })

pub taken : {A : Type 0} (run : List Event) (s : State) (r : Reply) (x : Lists) (step : Step A) (new : State) → IsJudged run (known s) r → of_lists x ≡ r → Taken s r x step new → StaysSound run s new
taken run s r x (Need digest) new j back (inl h) = subst (λ (n : State). StaysSound run s n) (sym h.2) (reads run s new.blocks r h.0 j)
taken {A} run s r x (Need digest) new j back (inr h) = goes {A = A} run s h.0 (Need digest) new (good_from run s r x h.0 j back h.1.0 (h.1.2 h.0.table h.0.void h.1.1)) h.2
taken run s r x (Store texts) new j back h = goes run s h.0 (Store texts) new (good_from run s r x h.0 j back h.1.0 (h.1.2 h.0.table h.0.void h.1.1)) h.2
taken run s r x (Broken rule) new j back h = absurd h

some_taken : {A : Type 0} (run : List Event) (s : State) (r : Reply) (lists : Option Lists) (step : Step A) (new : State) → lists_of r ≡ lists → IsJudged run (known s) r → IsSomeAnd lists (λ x. Taken s r x step new) → StaysSound run s new
some_taken run s r None step new e j h = absurd h
some_taken run s r (Some x) step new e j h = taken run s r x step new j (lists_back r x e) h

-- ---- a reply

module _ (e : Event) (older : List Event) (s : State) (text : Bytes) (bytes : IsBytes text) (here : (t : Shown) (r : Reply) → whole reply text ≡ Ok r → In t (shown_in r) → In t (shown_by e.call))
    (hashed_here : (t : Bytes) (r : Reply) → whole reply text ≡ Ok r → In t (reply_texts r) → In t (hashed_by e.call)) where
  judged_here : (r : Reply) → whole reply text ≡ Ok r → of_reply (known s) r ≡ None → IsJudged (e ∷ older) (known s) r
  judged_here r is unbroken = record {
    fits = (is_found reply lawful_reply (λ v. v) text (Ok r) bytes is).0;
    unbroken = unbroken;
    was_shown = λ t i. in-left t (shown_by e.call) (shown older) (here t r is i);
    was_hashed = λ t i. in-left t (hashed_at e) (flat_map hashed_at older) (in-left t (hashed_by e.call) _ (hashed_here t r is i));
  }

  read_on : {A : Type 0} (step : Step A) (new : State) (read : Result Reply ReadError) → whole reply text ≡ read → reply_breaks (known s) text ≡ None
      → IsSomeAnd (result_ok read) (λ r. IsSomeAnd (lists_of r) (λ x. Taken s r x step new)) → StaysSound (e ∷ older) s new
  unfolding reply_breaks
  read_on step new (Err x) is none h = absurd h
  read_on step new (Ok r) is none h = some_taken (e ∷ older) s r (lists_of r) step new refl (judged_here r is (sym (ap (λ (o : Result Reply ReadError). if is_ok o then option_and_then (of_reply (known s)) (result_ok o) else Some rule.Form) is) ∙ none)) h

  pub judged_on : {A : Type 0} (step : Step A) (new : State) → AreSound older s → Judged s text step new → StaysSound (e ∷ older) s new
  judged_on (Broken rule) new sound h = subst (λ (n : State). StaysSound (e ∷ older) s n) (sym h.1) (record { quiet = still s; sound = sound_later e older s sound })
  judged_on {A} (Need digest) new sound h = read_on {A = A} (Need digest) new (whole reply text) refl h.0 h.1
  judged_on {A} (Store texts) new sound h = read_on {A = A} (Store texts) new (whole reply text) refl h.0 h.1

-- ---- a block

module _ (run : List Event) (s : State) where
  on_from : {A : Type 0} (k : Checked) (text : Bytes) (step : Step A) (new : State) → IsUnder run (known s) k → GoesOn (holding s text) k step new → StaysSound run (holding s text) new
  on_from (Reading r a) text step new u h = some_taken run (holding s text) r (lists_of r) step new refl u h
  on_from (Writing x a) text step new u h = goes run (holding s text) x step new u h

  some_block : {A : Type 0} (k : Checked) (block : Option Bytes) (step : Step A) (new : State) → IsUnder run (known s) k → IsSomeAnd block (λ text. GoesOn (holding s text) k step new) → StaysSound run s new
  some_block k None step new u h = absurd h
  some_block k (Some text) step new u h =
      let g = on_from k text step new u h in
      record {
        quiet = record { devices = g.quiet.devices; user = g.quiet.user; secrets = g.quiet.secrets; pinned = g.quiet.pinned; number = g.quiet.number; last = g.quiet.last; text = g.quiet.text; phase = g.quiet.phase };
        sound = g.sound;
      }

  pub handed_on : {A : Type 0} (k : Checked) (block : Option Bytes) (step : Step A) (new : State) → AreSound run s → IsUnder run (known s) k → Handed s k block step new → StaysSound run s new
  handed_on k block (Broken rule) new sound u h = subst (λ (n : State). StaysSound run s n) (sym h.1) (record { quiet = still s; sound = sound })
  handed_on k block (Need digest) new sound u h = some_block k block (Need digest) new u h.1
  handed_on k block (Store texts) new sound u h = some_block k block (Store texts) new u h.1
