-- The step that adds an event keeps the count.
use Rattle.std.proofs.Common.{◌≡◌, ℕ, ◌+◌, ◌<◌, ◌==◌, Bool, true, false, List, [], ◌∷◌, ◌++◌, length, refl, ap, sym, subst, arith, inl, length-append, None}
use Rattle.std.proofs.lemmas.List.{append-nil}
use Rattle.std.proofs.lemmas.Bool.Decides.{nat_tests}
use mathlib.Core.List.{IsPrefix}
use prog.Atomic.{either}
use Rattle.logbook.specs.Pages.{Cell, cell, keeps, no_nib, step, Moves, Goes}
use Rattle.consistency_server.specs.Answers.{Call}
use Rattle.kept_server.specs.Events.{AreCounted, Adds}
use Rattle.kept_server.proofs.Beginnings.{whole}

abbrev pub shown : List Call → List Call
shown events = []

abbrev pub moved : List Call → List Call → ℕ → Type 0
moved xs ys n = Unit {0}

pub goes : (events v : List Call) (e : Call) (old : ℕ) → length v ≡ old → IsPrefix v events → (b : Bool) → (length events == old) ≡ b
    → Goes AreCounted shown moved 0 (v, (no_nib, None)) (λ n. either (n == old) (old + 1) n) (Adds (step 0 old (old + 1) e) (v, (no_nib, None))) ((length events, true) ∷ (0, true) ∷ []) events
goes events v e old len pre true is =
    let here : length events ≡ old = grind (arith, nat_tests) in
    let same : v ≡ events = whole v events pre (omega arith) in
    let n : either (length events == old) (old + 1) (length events) ≡ length (events ++ e ∷ []) = rw is (omega (arith, length-append events (e ∷ []))) in (
      keeps,
      e ∷ [],
      None,
      tt,
      ap (λ (k : ℕ). (k, true) ∷ (0, true) ∷ []) n,
      inl (refl, refl),
      rw is (ap (λ w. w ++ e ∷ []) (sym same)),
    )
goes events v e old len pre false is =
    let all : events ++ [] ≡ events = append-nil events in
    let n : either (length events == old) (old + 1) (length events) ≡ length (events ++ []) = rw is (ap length (sym all)) in (
      keeps,
      [],
      None,
      tt,
      ap (λ (k : ℕ). (k, true) ∷ (0, true) ∷ []) n,
      inl (refl, refl),
      rw is (ap length all),
    )

-- whatever the list is, the exchange adds the event to all that was seen, or finds that there are more
pub adds : (v : List Call) (e : Call) (old : ℕ) → length v ≡ old
    → Moves AreCounted shown moved 0 (v, (no_nib, None)) (λ n. either (n == old) (old + 1) n) (Adds (step 0 old (old + 1) e) (v, (no_nib, None)))
adds v e old len cs events counted pre away =
    let P : List Cell → Type 0 = λ c. (0 < length c) × ((cell c 0).1 ≡ true) × Goes AreCounted shown moved 0 (v, (no_nib, None)) (λ n. either (n == old) (old + 1) n) (Adds (step 0 old (old + 1) e) (v, (no_nib, None))) c events in
    subst P (sym counted) (omega arith, refl, goes events v e old len pre (length events == old) refl)
