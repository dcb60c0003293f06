-- Nobody has to believe this file: laws, which are proved.
-- The laws of rows that ascend by a number.
use Rattle.std.proofs.Common.{◌≡◌, ℕ, ◌<◌, ◌≤◌, true, Option, Some, None, arith}
use Rattle.std.specs.Prelude.{◌==◌}
use Rattle.std.specs.Ordering.{nat_cmp, is_lt, is_eq}
use Rattle.std.proofs.lemmas.Bool.Decides.{nat_tests}
use Rattle.layout.specs.Format.{RowAfter}
use Rattle.layout.specs.Sizes.{KeysAscend, least_key}
use Rattle.layout.specs.Ascending.{above}

pub lt_from_less : (a b : ℕ) → is_lt (nat_cmp a b) ≡ true → a < b
lt_from_less a b h = grind (arith, nat_tests)

pub less_from_lt : (a b : ℕ) → a < b → is_lt (nat_cmp a b) ≡ true
less_from_lt a b h = grind (arith, nat_tests)

-- one key is another where the numbers are equal
pub key_test : (a b : ℕ) → is_eq (nat_cmp a b) ≡ (a == b)
key_test a b = grind (arith, nat_tests)

least_above : {T : Type 0} (key : T → ℕ) (low : ℕ) (b : Option T) (k : ℕ)
    → low ≤ k
    → above nat_cmp key b k ≡ true
    → least_key key low b ≤ k
least_above key low None k from up = from
least_above key low (Some before) k from up = lt_from_less (key before) k up

-- rows that stand above one another, and whose keys lie between these
pub keys_ascend : {T : Type 0} (row : RowAfter T) (key : T → ℕ) (low limit : ℕ)
    → ((b : Option T) (x : T)
    → (row b).Fits x
    → (above nat_cmp key b (key x) ≡ true) × ((low ≤ key x) × (key x < limit)))
    → KeysAscend row key low limit
keys_ascend row key low limit each = record {
  holds = λ b x fits.
      let it = each b x fits in
      (least_above key low b (key x) it.1.0 it.0, it.1.1);
}
