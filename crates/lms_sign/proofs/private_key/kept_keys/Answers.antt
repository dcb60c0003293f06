use Rattle.std.proofs.Common.{◌≡◌, ℕ, ◌++◌, List, [], length, take, drop, slice_index_or, ap, ◌∙◌, arith}
use Rattle.std.proofs.lemmas.List.{take_at}
use Rattle.lms_sign.specs.Hashing.{joined}
use Rattle.lms_sign.proofs.private_key.kept_keys.Goals as goal

pub returns-clause-keys : goal.returns-clause-keys
returns-clause-keys g c =
    let was : List (List ℕ) = c.in_ok-keys.keys.items in
    let new : List (List ℕ) = c.read_keys.new.keys in
    let written : take c.in_ok-keys.keys.len (new ++ drop (length new) was) ≡ new = take_at new (drop (length new) was) c.in_ok-keys.keys.len (omega arith) in
    ap (λ (l : List (List ℕ)). joined 1024 (λ leaf. slice_index_or l leaf [])) written ∙ c.read_keys.ensures.keys
