-- The keys of a listing.
use Rattle.std.proofs.Common.{◌≡◌, ℕ, suc, ◌-◌, List, [], ◌∷◌, ◌++◌, length, Option, Some, refl, ap, arith}
use Rattle.std.specs.Prelude.{nat_le, if◌then◌else◌}
use Rattle.std.specs.List.{slice_get}
use Rattle.principals.specs.declared.table.Renewal.{Renewal}
use Rattle.principals.specs.Table.{key_by, last_key, last_since}

-- one key more
pub key_by_more : (v : ℕ) (before : Option (List ℕ)) (rs : List Renewal) (r : Renewal) → key_by v before (rs ++ r ∷ []) ≡ (if nat_le r.since v then Some r.key else key_by v before rs)
key_by_more v before [] r = refl
key_by_more v before (x ∷ rs) r = key_by_more v (if nat_le x.since v then Some x.key else before) rs r

pub last_key_is : (key : List ℕ) (rs : List Renewal) (r : Renewal) → slice_get rs (length rs - 1) ≡ Some r → last_key key rs ≡ r.key
last_key_is key [] r at = absurd cc
last_key_is key (x ∷ []) r at = let same : x ≡ r = cc in ap (λ (y : Renewal). y.key) same
last_key_is key (x ∷ y ∷ rs) r at =
    let place : length (x ∷ y ∷ rs) - 1 ≡ suc (length (y ∷ rs) - 1) = omega arith in
    last_key_is x.key (y ∷ rs) r (rw place at at)

pub last_since_is : (since : ℕ) (rs : List Renewal) (r : Renewal) → slice_get rs (length rs - 1) ≡ Some r → last_since since rs ≡ r.since
last_since_is since [] r at = absurd cc
last_since_is since (x ∷ []) r at = let same : x ≡ r = cc in ap (λ (y : Renewal). y.since) same
last_since_is since (x ∷ y ∷ rs) r at =
    let place : length (x ∷ y ∷ rs) - 1 ≡ suc (length (y ∷ rs) - 1) = omega arith in
    last_since_is x.since (y ∷ rs) r (rw place at at)
