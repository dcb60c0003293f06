-- Nobody has to believe this file: an aid of private contracts.
-- The changes of the own operation that are lost: each of a part that it can't change, and those without effect.
use Rattle.std.specs.Prelude.{ℕ, ◌+◌, ◌==◌, Bool, ◌&&◌, not, List, [], ◌∷◌, if◌then◌else◌}
use Rattle.std.specs.List.{list_any}
use Rattle.layout.specs.Types.{Principal}
use Rattle.update_cert.specs.Change.{Change}

-- the numbers of the changes of a part's principal that have no effect
pub record PartVoids : Type 0 where
  pub principal : Principal
  pub numbers : List ℕ

-- the change of this number is of the part's principal, and isn't among those
abbrev pub counts : {C : Type 0} → ℕ → Change C → PartVoids → Bool
counts n c v = (v.principal == c.principal) && not (list_any (λ m. m == n) v.numbers)

-- a change has effect where it counts for one of these parts and isn't one of the table's changes with these numbers,
-- which have none
abbrev pub is_kept : {C : Type 0} → ℕ → List PartVoids → List ℕ → Change C → Bool
is_kept n vs table c = list_any (counts n c) vs && not (list_any (λ m. m == n) table)

-- the numbers of the others, counted from this one
abbrev pub lost_from : {C : Type 0} → ℕ → List PartVoids → List ℕ → List (Change C) → List ℕ
lost_from n vs table [] = []
lost_from n vs table (c ∷ cs) = if is_kept n vs table c then lost_from (n + 1) vs table cs else n ∷ lost_from (n + 1) vs table cs
