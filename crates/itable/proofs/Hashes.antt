-- The digests of many texts fit where a text has them.
use Rattle.std.proofs.Common.{ℕ, List, [], ◌∷◌, map, Option, Some}
use Rattle.layout.specs.Format.{FitRows, after_row, raw}
use Rattle.layout.specs.Hash.{hash}
use Rattle.layout.specs.HashLaws.{hash_fits}

pub hashes_fit : (b : Option (List ℕ)) (texts : List (List ℕ)) → FitRows (after_row (λ _. raw 32)) b (map hash texts)
unfolding FitRows
hashes_fit b [] = tt
hashes_fit b (text ∷ texts) = (hash_fits text, hashes_fit (Some (hash text)) texts)
