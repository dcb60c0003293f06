-- Laws of the groups that an operation raises.
use Rattle.std.proofs.Common.{◌≡◌, ℕ, zero, suc, ◌+◌, ◌<◌, ◌≤◌, Bool, true, false, ◌||◌, ◌&&◌, cond, List, [], ◌∷◌, ◌++◌, append-nil, refl, ap, ◌∙◌, inl, inr, arith, filter}
use Rattle.std.specs.Prelude.{◌==◌}
use Rattle.std.specs.List.{list_any}
use Rattle.std.proofs.lemmas.List.Elements.{filter-append}
use Rattle.std.proofs.lemmas.List.Folds.{list_any-append}
use Rattle.std.proofs.Math.Bool.{and-false, and-true, or-false}
use Rattle.std.proofs.lemmas.Bool.{cases_eq, eq-eqb, ne_eqb}
use Rattle.pending_list.specs.Groups.{groups_below}
use Rattle.pending_list.specs.GroupsLaws.{none_below, one_more}

-- one group more is kept where the test holds of it
pub kept_more : (t : ℕ → Bool) (n g : ℕ) → g ≡ 64 + n → t g ≡ true → filter t (groups_below (n + 1)) ≡ filter t (groups_below n) ++ g ∷ []
kept_more t n g is holds =
    let e : n + 64 ≡ g = omega arith in
    ap (filter t) (one_more n) ∙ ap (λ h. filter t (groups_below n ++ h ∷ [])) e ∙ filter-append t (groups_below n) (g ∷ []) ∙ ap (λ b. filter t (groups_below n) ++ cond b (g ∷ []) []) holds

pub left_out : (t : ℕ → Bool) (n g : ℕ) → g ≡ 64 + n → t g ≡ false → filter t (groups_below (n + 1)) ≡ filter t (groups_below n)
left_out t n g is fails =
    let e : n + 64 ≡ g = omega arith in
    ap (filter t) (one_more n) ∙ ap (λ h. filter t (groups_below n ++ h ∷ [])) e ∙ filter-append t (groups_below n) (g ∷ []) ∙ ap (λ b. filter t (groups_below n) ++ cond b (g ∷ []) []) fails ∙ append-nil (filter t (groups_below n))

-- ---- one group among those that are raised

one_suc : (n : ℕ) → groups_below (suc n) ≡ groups_below n ++ (n + 64) ∷ []
unfolding groups_below
one_suc n = refl

-- whether one group is kept, of one more
kept_one : (t : ℕ → Bool) (g h : ℕ) (b : Bool) → t h ≡ b → list_any (λ k. k == g) (cond b (h ∷ []) []) ≡ (b && (h == g))
kept_one t g h true e = or-false (h == g)
kept_one t g h false e = refl

has_more : (t : ℕ → Bool) (n g : ℕ) → list_any (λ k. k == g) (filter t (groups_below (suc n))) ≡ (list_any (λ k. k == g) (filter t (groups_below n)) || (t (n + 64) && ((n + 64) == g)))
has_more t n g =
    ap (λ (gs : List ℕ). list_any (λ k. k == g) (filter t gs)) (one_suc n)
    ∙ ap (λ (gs : List ℕ). list_any (λ k. k == g) gs) (filter-append t (groups_below n) ((n + 64) ∷ []))
    ∙ list_any-append (λ k. k == g) (filter t (groups_below n)) (filter t ((n + 64) ∷ []))
    ∙ ap (λ b. list_any (λ k. k == g) (filter t (groups_below n)) || b) (kept_one t g (n + 64) (t (n + 64)) refl)

no_group : (t : ℕ → Bool) (n g : ℕ) → 64 + n ≤ g → list_any (λ k. k == g) (filter t (groups_below n)) ≡ false
no_group t zero g far = ap (λ (gs : List ℕ). list_any (λ k. k == g) (filter t gs)) none_below
no_group t (suc n) g far =
    has_more t n g
    ∙ ap (λ b. b || (t (n + 64) && ((n + 64) == g))) (no_group t n g (omega arith))
    ∙ ap (λ b. t (n + 64) && b) (ne_eqb (n + 64) g (λ e. omega arith))
    ∙ and-false (t (n + 64))

-- a group among the first n is kept where the test holds of it
pub has_group : (t : ℕ → Bool) (n g : ℕ) → 64 ≤ g → g < 64 + n → list_any (λ k. k == g) (filter t (groups_below n)) ≡ t g
has_group t zero g low high = absurd (omega arith)
has_group t (suc n) g low high =
    elim (cases_eq (n + 64) g) [
      | inl e ↦
          has_more t n g
          ∙ ap (λ b. b || (t (n + 64) && ((n + 64) == g))) (no_group t n g (omega arith))
          ∙ ap (λ b. t (n + 64) && b) (eq-eqb (n + 64) g e)
          ∙ and-true (t (n + 64))
          ∙ ap t e
      | inr other ↦
          has_more t n g
          ∙ ap (λ b. b || (t (n + 64) && ((n + 64) == g))) (has_group t n g low (omega arith))
          ∙ ap (λ b. t g || (t (n + 64) && b)) (ne_eqb (n + 64) g other)
          ∙ ap (λ b. t g || b) (and-false (t (n + 64)))
          ∙ or-false (t g)
    ]
