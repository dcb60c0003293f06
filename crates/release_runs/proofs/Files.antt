-- What lies on the devices of a user: a journal that tells the user's story, and ledgers in which its leaves are used.
use Rattle.std.proofs.Common.{◌≡◌, ◌==◌, ℕ, zero, suc, Bool, true, false, List, [], ◌∷◌, ◌++◌, map, get_or, Option, Some, None, refl, sym, ap, ◌∙◌, subst, inl, inr}
use Rattle.std.specs.Prelude.{◌⊎◌}
use Rattle.std.proofs.Math.ListN.{get_or-map}
use Rattle.std.proofs.lemmas.Bool.{eqb-false, eqb-true}
use Rattle.std.proofs.lemmas.List.{append-nil, get_or-set_other}
use Rattle.layout.specs.Types.{Bytes}
use Rattle.leaf_ledger.specs.Device.{History, at_rest, started}
use Rattle.leaf_ledger.specs.Ledger.{LeafNumber, LedgerState, is_used}
use Rattle.leaf_ledger.specs.Life.{Call, IsSure}
use Rattle.leaf_ledger.specs.Moments.{rest_only, rests}
use Rattle.client_journal.specs.Life.{Appended, Follows, IsPossible, MayAdd, Nothing, Tried, Call as Step}
use Rattle.client_journal.specs.Records.{Record, Tells}
use Rattle.release_runs.proofs.Members.{In, in-map}
use Rattle.client_releases.specs.OwnKeys.{AreStill}
use Rattle.client_releases.specs.Releasing.{OthersStay, OwnDevices, ledger_at, no_ledger}
use Rattle.release_runs.specs.Crashes.{AreLeft, IsLeftOf}
use Rattle.release_runs.specs.Steps.{Owner}
use Rattle.release_runs.proofs.Stories.{Release, key, leaf, mark, record_of, records}

-- the file of a key's ledger; one that isn't there holds nothing
abbrev pub file_at : ℕ → List History → History
file_at n ledgers = get_or ledgers n (started [])

-- the files of a client's ledgers
abbrev pub files_of : OwnDevices → List History
files_of own = map (λ l. l.file) own.ledgers

pub file_is : (n : ℕ) (own : OwnDevices) → file_at n (files_of own) ≡ (ledger_at n own).file
file_is n own = get_or-map (λ (l : LedgerState). l.file) own.ledgers n no_ledger

-- the story with the release that was tried, if one was
abbrev pub with_tried : Option Release → List Release → List Release
with_tried None story = story
with_tried (Some r) story = r ∷ story

module _ (o : Owner) where
  -- the file tells the story, or the story and what was tried
  abbrev pub TellsOne : List Release → Option Release → Bytes → Type 0
  TellsOne story None file = Tells (records o story) file
  TellsOne story (Some r) file = Tells (records o story) file ⊎ Tells (records o (r ∷ story)) file

  -- Whatever a read gives now and a crash leaves: the journal tells one of the two, and each leaf of both is used.
  pub record Lies (story : List Release) (tried : Option Release) (ledgers : List History) (journal : History) : Type 0 where
    pub tells : (file : Bytes) → IsPossible journal file → TellsOne story tried file
    pub used : (r : Release) → In r (with_tried tried story) → IsSure (file_at (key r) ledgers) (leaf r)

-- each leaf that is sure to be used stays so
abbrev pub StaySure : List History → List History → Type 0
StaySure ledgers new = (n : ℕ) (q : LeafNumber) → IsSure (file_at n ledgers) q → IsSure (file_at n new) q

pub still_sure : (ledgers new : List History) → AreStill ledgers new → StaySure ledgers new
still_sure [] [] all n q sure = sure
still_sure [] (x ∷ new) all n q sure = absurd all
still_sure (x ∷ ledgers) [] all n q sure = absurd all
still_sure (x ∷ ledgers) (y ∷ new) all zero q sure = (all.0.leaves.keeps q sure).0
still_sure (x ∷ ledgers) (y ∷ new) all (suc n) q sure = still_sure ledgers new all.1 n q sure

-- a ledger more that holds nothing
pub gained_sure : (ledgers : List History) → StaySure ledgers (ledgers ++ started [] ∷ [])
gained_sure [] zero q sure = sure
gained_sure [] (suc n) q sure = sure
gained_sure (x ∷ ledgers) zero q sure = sure
gained_sure (x ∷ ledgers) (suc n) q sure = gained_sure ledgers n q sure

-- ---- crashes

sure_again : (left : Bytes) (q : LeafNumber) → is_used left q ≡ true → IsSure (started left) q
sure_again left q used = (used, rests (λ c. is_used c q ≡ true) (at_rest left) left refl used)

pub left_sure : (ledgers new : List History) → AreLeft ledgers new → StaySure ledgers new
left_sure [] [] all n q sure = sure
left_sure [] (x ∷ new) all n q sure = absurd all
left_sure (x ∷ ledgers) [] all n q sure = absurd all
left_sure (x ∷ ledgers) (y ∷ new) all zero q sure = subst (λ (h : History). IsSure h q) (sym all.0.is) (sure_again all.0.text q (sure.1 all.0.text all.0.may))
left_sure (x ∷ ledgers) (y ∷ new) all (suc n) q sure = left_sure ledgers new all.1 n q sure

pub only_this : (left file : Bytes) → IsPossible (started left) file → file ≡ left
only_this left file (inl same) = same
only_this left file (inr may) = rest_only left file may

module _ (o : Owner) (story : List Release) where
  pub lies_left : (tried : Option Release) (ledgers new_ledgers : List History) (journal new_journal : History) → Lies o story tried ledgers journal → AreLeft ledgers new_ledgers → IsLeftOf journal new_journal
      → Lies o story tried new_ledgers new_journal
  lies_left tried ledgers new_ledgers journal new_journal lies left left_journal = record {
    tells = λ file here. subst (λ f. TellsOne o story tried f) (sym (only_this left_journal.text file (subst (λ (h : History). IsPossible h file) left_journal.is here))) (lies.tells left_journal.text (inr left_journal.may));
    used = λ r i. left_sure ledgers new_ledgers left (key r) (leaf r) (lies.used r i);
  }

  -- ---- calls

  with_none : (rs added : List Record) (file : Bytes) → added ≡ [] → Tells (rs ++ added) file → Tells rs file
  with_none rs added file none tells = subst (λ l. Tells l file) (ap (λ l. rs ++ l) none ∙ append-nil rs) tells

  with_one : (rs added rest : List Record) (r : Record) (file : Bytes) → added ≡ r ∷ rest → rest ≡ [] → Tells (rs ++ added) file → Tells (rs ++ r ∷ []) file
  with_one rs added rest r file one none tells = subst (λ l. Tells (rs ++ l) file) (one ∙ ap (λ l. r ∷ l) none) tells

  nothing_added : (rs : List Record) (file before : Bytes) → ((added : List Record) × MayAdd (Nothing ∷ []) added × Tells (rs ++ added) file) → Tells rs file
  nothing_added rs file before f = with_none rs f.0 file f.1 f.2

  follows : (tried : Option Release) (journal : History) (file : Bytes) → ((before : Bytes) → IsPossible journal before → TellsOne o story tried before) → Follows (Nothing ∷ []) journal file → TellsOne o story tried file
  follows tried journal file all f = go tried (all f.before f.possible)
    where
      go : (tried : Option Release) → TellsOne o story tried f.before → TellsOne o story tried file
      go None t = nothing_added (records o story) file f.before (f.tells (records o story) t)
      go (Some r) (inl t) = inl (nothing_added (records o story) file f.before (f.tells (records o story) t))
      go (Some r) (inr t) = inr (nothing_added (records o (r ∷ story)) file f.before (f.tells (records o (r ∷ story)) t))

  -- a call that hands out no leaf and adds no record
  pub lies_on : (tried : Option Release) (ledgers new_ledgers : List History) (journal new_journal : History) → Lies o story tried ledgers journal
      → StaySure ledgers new_ledgers → Step Nothing journal new_journal → Lies o story tried new_ledgers new_journal
  lies_on tried ledgers new_ledgers journal new_journal lies stay adds = record {
    tells = λ file here. follows tried journal file lies.tells (adds.after file here);
    used = λ r i. stay (key r) (leaf r) (lies.used r i);
  }

  -- ---- calls under one key

  module _ (n : ℕ) (old new : OwnDevices) (journal : History) where
    -- a leaf that is handed out is none of the story's
    pub fresh_leaf : (q : LeafNumber) → Lies o story None (files_of old) journal → Call (Some q) (ledger_at n old).file (ledger_at n new).file → In (n, q) (map mark story) → ⊥
    fresh_leaf q lies leaves i =
        let (r, j, e) = in-map mark story (n, q) i in
        let same : file_at (key r) (files_of old) ≡ (ledger_at n old).file = ap (λ (k : ℕ). file_at k (files_of old)) (sym (ap (λ (m : ℕ × LeafNumber). m.0) e)) ∙ file_is n old in
        let sure : IsSure (ledger_at n old).file q = subst (λ (p : LeafNumber). IsSure (ledger_at n old).file p) (sym (ap (λ (m : ℕ × LeafNumber). m.1) e)) (subst (λ (h : History). IsSure h (leaf r)) same (lies.used r j)) in
        let two : true ≡ false = sym sure.0 ∙ leaves.fresh in
        absurd (cc two)

    -- whatever a call hands out, leaves stay sure
    pub called_sure : (x : Option LeafNumber) → OthersStay n old new → Call x (ledger_at n old).file (ledger_at n new).file → StaySure (files_of old) (files_of new)
    called_sure x others leaves m q sure = go (m == n) refl
      where
        now : IsSure (ledger_at m old).file q
        now = subst (λ (h : History). IsSure h q) (file_is m old) sure

        go : (b : Bool) → (m == n) ≡ b → IsSure (file_at m (files_of new)) q
        go true is =
            let same = eqb-true m n is in
            let here : IsSure (ledger_at n old).file q = subst (λ (k : ℕ). IsSure (ledger_at k old).file q) same now in
            subst (λ (h : History). IsSure h q) (sym (ap (λ (k : ℕ). file_at k (files_of new)) same ∙ file_is n new)) (leaves.keeps q here).0
        go false is =
            let other : ledger_at m new ≡ ledger_at m old = ap (λ (l : List LedgerState). get_or l m no_ledger) others ∙ get_or-set_other old.ledgers n m (ledger_at n new) no_ledger (eqb-false m n is) in
            subst (λ (h : History). IsSure h q) (sym (file_is m new ∙ ap (λ (l : LedgerState). l.file) other)) now

  module _ (r : Release) (old new : OwnDevices) (journal new_journal : History) (lies : Lies o story None (files_of old) journal) (others : OthersStay (key r) old new) (leaves : Call (Some (leaf r)) (ledger_at (key r) old).file (ledger_at (key r) new).file) where
    used_too : (s : Release) → In s (r ∷ story) → IsSure (file_at (key s) (files_of new)) (leaf s)
    used_too s (inl e) = subst (λ (t : Release). IsSure (file_at (key t) (files_of new)) (leaf t)) (sym e) (subst (λ (h : History). IsSure h (leaf r)) (sym (file_is (key r) new)) leaves.sure)
    used_too s (inr i) = called_sure (key r) old new journal (Some (leaf r)) others leaves (key s) (leaf s) (lies.used s i)

    -- a release that stands in the journal
    pub lies_with : Step (Appended (record_of o r)) journal new_journal → Lies o (r ∷ story) None (files_of new) new_journal
    lies_with adds = record {
      tells = λ file here. (
          let f = adds.after file here in
          let t = f.tells (records o story) (lies.tells f.before f.possible) in
          with_one (records o story) t.0 t.1.0 (record_of o r) file t.1.1 t.1.2 t.2);
      used = used_too;
    }

    -- one that was tried
    pub lies_tried : Step (Tried (record_of o r)) journal new_journal → Lies o story (Some r) (files_of new) new_journal
    lies_tried adds = record { tells = λ file here. tried file (adds.after file here); used = used_too }
      where
        tried : (file : Bytes) → Follows (Tried (record_of o r) ∷ []) journal file → TellsOne o story (Some r) file
        tried file f = go (f.tells (records o story) (lies.tells f.before f.possible))
          where
            go : ((added : List Record) × MayAdd (Tried (record_of o r) ∷ []) added × Tells (records o story ++ added) file) → TellsOne o story (Some r) file
            go (added, inl none, t) = inl (with_none (records o story) added file none t)
            go (added, inr (rest, one, none), t) = inr (with_one (records o story) added rest (record_of o r) file one none t)
