use Rattle.std.proofs.Common.{ℕ, ◌*◌, ◌%◌, ◌^◌, List, slice_index, replicate, ap, ◌∙◌, arith}
use Rattle.std.proofs.lemmas.Simd.{get_or-zip2, get_or-replicate}
use Rattle.sha256_lanes.proofs.words.shift_left.Goals as goal

pub returns : goal.returns
returns c i lt =
    let x : List ℕ = c.args.x in
    let counts : List ℕ = replicate 8 c.args.count in
    get_or-zip2 (λ (a k : ℕ). a * 2 ^ k % 2 ^ 32) x counts i 0 0 0 (omega arith) (omega arith)
    ∙ ap (λ k. slice_index x i * 2 ^ k % 2 ^ 32) (get_or-replicate 8 i c.args.count 0 lt)
