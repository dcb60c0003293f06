-- A map with one place more, as a function.
use Rattle.std.proofs.Common.{◌≡◌, ◌⊎◌, inl, inr, ℕ, Bool, true, false, List, [], Some, None, Ordering, Less, Equal, Greater, refl, sym, ◌∙◌, ap, subst}
use Rattle.std.specs.BTreeMap.{BTreeMap, get, is_at, Updates, IsUnchanged}
use Rattle.std.specs.Cmp.Lexicographic.{slice_cmp}
use Rattle.std.specs.Map.{lookup}
use Rattle.std.specs.Ordering.{is_eq, nat_cmp}
use Rattle.std.proofs.lemmas.Map.Lookups.{exact_bytes}
use Rattle.block_file.specs.Places.{Place}

compared : (o : Ordering) → is_eq o ≡ true → o ≡ Equal
compared Less is = cc
compared Equal is = refl
compared Greater is = cc

set_there : (m n : BTreeMap (List ℕ) Place) (d : List ℕ) (p : Place) → Updates (slice_cmp nat_cmp) m n d (Some p) → get (slice_cmp nat_cmp) n d ≡ Some p
set_there m n d p updates = updates.1

others_stay : (m n : BTreeMap (List ℕ) Place) (d : List ℕ) (p : Place) → Updates (slice_cmp nat_cmp) m n d (Some p) → (q : List ℕ) → (q ≡ d) ⊎ (get (slice_cmp nat_cmp) n q ≡ get (slice_cmp nat_cmp) m q)
others_stay m n d p updates q = by (is_eq (slice_cmp nat_cmp d q)) refl
  where
    by : (b : Bool) → is_eq (slice_cmp nat_cmp d q) ≡ b → (q ≡ d) ⊎ (get (slice_cmp nat_cmp) n q ≡ get (slice_cmp nat_cmp) m q)
    by true is = inl (sym (exact_bytes d q (compared (slice_cmp nat_cmp d q) is)))
    by false is = inr (updates.2 q is)

pub same_places : (m n : BTreeMap (List ℕ) Place) → IsUnchanged m n → (d : List ℕ) → get (slice_cmp nat_cmp) n d ≡ get (slice_cmp nat_cmp) m d
same_places m n same d = ap (λ (es : List (List ℕ × Place)). lookup (is_at (slice_cmp nat_cmp d)) es) same

pub no_places : (m : BTreeMap (List ℕ) Place) → m.entries ≡ [] → (d : List ℕ) → get (slice_cmp nat_cmp) m d ≡ None
no_places m none d = ap (λ (es : List (List ℕ × Place)). lookup (is_at (slice_cmp nat_cmp d)) es) none

-- the place of a digest is set, and of no other one
pub set_for : (m n : BTreeMap (List ℕ) Place) (d e : List ℕ) (p q : Place) → Updates (slice_cmp nat_cmp) m n d (Some p) → d ≡ e → p ≡ q → get (slice_cmp nat_cmp) n e ≡ Some q
set_for m n d e p q updates same there = subst (λ (x : List ℕ). get (slice_cmp nat_cmp) n x ≡ Some q) same (set_there m n d p updates ∙ ap Some there)

pub others_for : (m n : BTreeMap (List ℕ) Place) (d e : List ℕ) (p : Place) → Updates (slice_cmp nat_cmp) m n d (Some p) → d ≡ e → (x : List ℕ) → (x ≡ e) ⊎ (get (slice_cmp nat_cmp) n x ≡ get (slice_cmp nat_cmp) m x)
others_for m n d e p updates same x = subst (λ (y : List ℕ). (x ≡ y) ⊎ (get (slice_cmp nat_cmp) n x ≡ get (slice_cmp nat_cmp) m x)) same (others_stay m n d p updates x)
