-- Chains that take a step, some at a time.
use Rattle.std.proofs.Common.{◌≡◌, ◌≢◌, ℕ, Bool, true, false, ◌+◌, ◌<◌, ◌≤◌, List, [], slice_index, slice_index_or, slice_set, length, sym, ap, ◌∙◌, inl, inr, arith}
use Rattle.std.proofs.lemmas.Bool.{cases_Bool, cases_lt, true≢false}
use Rattle.std.proofs.lemmas.List.{get_or-set_same, get_or-set_other}
use Rattle.std.specs.Prelude.{◌&&◌, nat_le, nat_lt, if◌then◌else◌}
use Rattle.lms_sign.specs.Chains.{step}

-- the chain takes the step of this number
abbrev pub takes : ℕ → List ℕ → List ℕ → ℕ → Bool
takes number firsts ends c = nat_le (slice_index firsts c) number && nat_lt number (slice_index ends c)

-- the value of a chain after the step of this number
abbrev pub after : List ℕ → ℕ → ℕ → List ℕ → List ℕ → List (List ℕ) → ℕ → List ℕ
after id leaf number firsts ends values c =
    if takes number firsts ends c then step id leaf c number (slice_index_or values c []) else slice_index_or values c []

-- the first of these chains are ones between two, and take the step
abbrev pub AreListed : (ℕ → Bool) → List ℕ → ℕ → ℕ → ℕ → Type 0
AreListed takes chains count done top =
    (k : ℕ) → k < count → (done ≤ slice_index chains k) × (slice_index chains k < top) × (takes (slice_index chains k) ≡ true)

-- and they are all that do
abbrev pub AreAll : (ℕ → Bool) → List ℕ → ℕ → ℕ → ℕ → Type 0
AreAll takes chains count done top =
    (c : ℕ) → done ≤ c → c < top → takes c ≡ true → (k : ℕ) × (k < count) × (slice_index chains k ≡ c)

module _ (T : ℕ → Bool) (chains : List ℕ) (count done top : ℕ) (listed : AreListed T chains count done top) (all : AreAll T chains count done top) where
  -- one more of them
  pub listed_more : T top ≡ true → done ≤ top → count < length chains → AreListed T (slice_set chains count top) (count + 1) done (top + 1)
  listed_more does le long k lt = elim (cases_lt k count) [
    | inl before ↦
        let same = get_or-set_other chains count k top 0 (omega arith) in
        (omega (arith, same, (listed k before).0), omega (arith, same, (listed k before).1), ap T same ∙ (listed k before).2)
    | inr last ↦
        let here : slice_index (slice_set chains count top) k ≡ top = ap (λ j. slice_index (slice_set chains count top) j) (omega arith) ∙ get_or-set_same chains count top 0 long in
        (omega (arith, here), omega (arith, here), ap T here ∙ does)
  ]

  pub all_more : done ≤ top → count < length chains → AreAll T (slice_set chains count top) (count + 1) done (top + 1)
  all_more le long c from below does = elim (cases_lt c top) [
    | inl before ↦
        let found = all c from before does in
        (found.0, omega (arith, found.1), get_or-set_other chains count found.0 top 0 (omega (arith, found.1)) ∙ found.2)
    | inr last ↦ (count, omega arith, get_or-set_same chains count top 0 long ∙ omega arith)
  ]

  -- where one doesn't take it
  pub listed_same : AreListed T chains count done (top + 1)
  listed_same k lt = ((listed k lt).0, omega (arith, (listed k lt).1), (listed k lt).2)

  pub all_same : T top ≡ false → AreAll T chains count done (top + 1)
  all_same not c from below does = elim (cases_lt c top) [
    | inl before ↦ all c from before does
    | inr last ↦ let same : top ≡ c = omega arith in absurd (true≢false (sym does ∙ ap T (sym same) ∙ not))
  ]

  -- once they have taken it, all below the second have
  module _ (S : ℕ → List ℕ → List ℕ) (old cur new : ℕ → List ℕ)
      (stepped : (c : ℕ) → c < done → cur c ≡ if T c then S c (old c) else old c)
      (others : (c : ℕ) → done ≤ c → cur c ≡ old c)
      (steps : (k : ℕ) → k < count → new (slice_index chains k) ≡ S (slice_index chains k) (cur (slice_index chains k)))
      (keeps : (c : ℕ) → ((k : ℕ) → k < count → slice_index chains k ≢ c) → new c ≡ cur c) where
    pub stepped_more : (c : ℕ) → c < top → new c ≡ if T c then S c (old c) else old c
    stepped_more c below = elim (cases_lt c done) [
      | inl before ↦ keeps c (λ k lt same. omega (arith, same, (listed k lt).0)) ∙ stepped c before
      | inr from ↦ elim (cases_Bool (T c)) [
        | inl does ↦
            let found = all c from below does in
            let here : slice_index chains found.0 ≡ c = found.2 in
            ap new (sym here) ∙ steps found.0 found.1 ∙ ap (λ n. S n (cur n)) here ∙ ap (S c) (others c from)
            ∙ ap (λ (b : Bool). if b then S c (old c) else old c) (sym does)
        | inr not ↦ keeps c (λ k lt same. true≢false (sym (listed k lt).2 ∙ ap T same ∙ not)) ∙ others c from
            ∙ ap (λ (b : Bool). if b then S c (old c) else old c) (sym not)
      ]
    ]

    pub others_more : done ≤ top → (c : ℕ) → top ≤ c → new c ≡ old c
    others_more le c from = keeps c (λ k lt same. omega (arith, same, (listed k lt).1)) ∙ others c (omega arith)
