-- Nobody has to believe this file: laws, which are proved.
-- The groups below a number, one by one.
use Rattle.std.proofs.Common.{◌≡◌, add-one, refl}
use Rattle.std.specs.Prelude.{ℕ, ◌+◌, [], ◌∷◌, ◌++◌}
use Rattle.pending_list.specs.Groups.{groups_below}

pub none_below : groups_below 0 ≡ []
unfolding groups_below
none_below = refl

pub one_more : (n : ℕ) → groups_below (n + 1) ≡ groups_below n ++ (n + 64) ∷ []
unfolding groups_below
one_more n = rw add-one refl
