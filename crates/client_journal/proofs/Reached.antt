-- One record further in a file, and files that are damaged.
use Rattle.std.proofs.Common.{◌≡◌, ◌≢◌, ◌⊎◌, inr, ℕ, suc, ◌+◌, ◌<◌, ◌≤◌, ◌^◌, List, [], ◌∷◌, ◌++◌, length, drop, get_or, Some, None, Err, IsErrOf, refl, sym, ◌∙◌, ap, arith}
use Rattle.std.proofs.lemmas.List.{length-append, length-drop, length-take}
use Rattle.std.proofs.Math.Seq.{drop-cons}
use Rattle.leaf_ledger.specs.declared.extent.Extent.{Extent}
use Rattle.client_journal.specs.Records.{Record, State, Idle, next_state, state_of, spelled, chain, Tells, TellsState, IsOtherKind, IsOutOfTurn, EndsEarly, IsDamaged}
use Rattle.client_journal.specs.Places.{part, state_at, AreBelow, Reaches, Ends}
use Rattle.client_journal.specs.declared.kind.Kind.{Kind}
use Rattle.client_journal.specs.declared.phase.Phase.{Phase}
use Rattle.client_journal.specs.declared.phase.Phase.TheVariants as phase
use Rattle.client_journal.proofs.Chains.{state-push, short-push, chain-push, one_telling}

-- the gate, and what follows it
pub gate_drop : (file : List ℕ) (gate : ℕ) → gate < length file → drop gate file ≡ get_or file gate 0 ∷ drop (gate + 1) file
gate_drop file gate below = let next : gate + 1 ≡ suc gate = omega arith in drop-cons file gate 0 below ∙ ap (λ (k : ℕ). get_or file gate 0 ∷ drop k file) (sym next)

-- at the first gate
pub at_first : (file : List ℕ) → 0 < length file → Reaches file 0 phase.Idle
at_first file some = record { records = []; split = refl; size = refl; inside = some; short = tt; state = refl; below = tt }

-- an error is the same whatever there would have been in its place
pub same_error : {T U E : Type 0} (x y : E) → IsErrOf {T = T} (Err x) y → IsErrOf {T = U} (Err x) y
same_error x y is = let same : x ≡ y = cc in ap (λ z. Err z) same

-- what ends before a place ends before a later one
pub below_later : (phase : Phase) (a b : ℕ) → a ≤ b → AreBelow a phase → AreBelow b phase
below_later phase.Idle a b later below = tt
below_later (phase.Declared None certificate) a b later below = (tt, omega (arith, below.1, later))
below_later (phase.Declared (Some structure) certificate) a b later below = (omega (arith, below.0, later), omega (arith, below.1, later))
below_later (phase.Signed structure) a b later below = omega (arith, below, later)

module _ (file : List ℕ) (gate : ℕ) (at : Phase) (reaches : Reaches file gate at) where
  abbrev rs : List Record
  rs = reaches.records

  pub split : file ≡ chain rs ++ (get_or file gate 0 ∷ drop (gate + 1) file)
  split = reaches.split ∙ ap (λ (l : List ℕ). chain rs ++ l) (gate_drop file gate reaches.inside)

  -- where the gate isn't open, these are the records
  pub ended : get_or file gate 0 ≢ 1 → Tells rs file
  ended shut = inr (record {
    gate = get_or file gate 0;
    rest = drop (gate + 1) file;
    split = split;
    shut = shut;
    short = reaches.short;
    state = state_at file at;
    in_turn = reaches.state;
  })

  -- where what follows an open gate is no record in turn, the file is damaged
  pub damaged : 1 < length file → get_or file gate 0 ≡ 1
      → IsOtherKind (drop (gate + 1) file) ⊎ (IsOutOfTurn (state_at file at) (drop (gate + 1) file) ⊎ EndsEarly (drop (gate + 1) file)) → IsDamaged file
  damaged long is_open wrong = record {
    there = long;
    records = rs;
    bytes = drop (gate + 1) file;
    split = split ∙ ap (λ (g : ℕ). chain rs ++ (g ∷ drop (gate + 1) file)) is_open;
    short = reaches.short;
    state = state_at file at;
    in_turn = reaches.state;
    wrong = wrong;
  }

  -- one record further
  module _ (kind : Kind) (text : Extent) (next : Phase) where
    abbrev r : Record
    r = record { kind = kind; text = part text file }

    abbrev end : ℕ
    end = text.at + text.size

    module _ (is_open : get_or file gate 0 ≡ 1) (fits : end < length file) (small : text.size < 2 ^ 32) (spells : drop (gate + 1) file ≡ spelled r ++ drop end file)
        (leads : next_state (state_at file at) kind (part text file) ≡ Some (state_at file next)) (below : AreBelow end next) where
      further_split : file ≡ chain (rs ++ r ∷ []) ++ drop end file
      further_split =
          split
          ∙ ap (λ (g : ℕ). chain rs ++ (g ∷ drop (gate + 1) file)) is_open
          ∙ ap (λ (l : List ℕ). chain rs ++ 1 ∷ l) spells
          ∙ sym (chain-push rs r (drop end file))

      pub further : Reaches file end next
      further = record {
        records = rs ++ r ∷ [];
        split = further_split;
        size = omega (arith, ap length further_split, length-append (chain (rs ++ r ∷ [])) (drop end file), length-drop end file, fits);
        inside = fits;
        short = short-push rs r reaches.short (omega (arith, length-take text.size (drop text.at file), small));
        state = state-push Idle (state_at file at) (state_at file next) rs r reaches.state leads;
        below = below;
      }

-- the state that a file tells
pub told_is : (file : List ℕ) (gate : ℕ) (at : Phase) → Ends file gate at → TellsState (state_at file at) file
told_is file gate at ends = record { records = ends.reaches.records; tells = ended file gate at ends.reaches ends.shut; leads = ends.reaches.state }

-- a state without records has no places
pub no_places : (file : List ℕ) (p : Phase) → Idle ≡ state_at file p → p ≡ phase.Idle
no_places file phase.Idle is = refl
no_places file (phase.Declared last certificate) is = absurd (cc is)
no_places file (phase.Signed structure) is = absurd (cc is)

-- and it tells no other
pub told_once : (file : List ℕ) (gate : ℕ) (at : Phase) (state : State) → Ends file gate at → TellsState state file → state ≡ state_at file at
told_once file gate at state ends told =
    let same : told.records ≡ ends.reaches.records = one_telling file told.records ends.reaches.records told.tells (ended file gate at ends.reaches ends.shut) in
    let two : Some state ≡ Some (state_at file at) = sym told.leads ∙ ap state_of same ∙ ends.reaches.state in
    let one : state ≡ state_at file at = cc in one
