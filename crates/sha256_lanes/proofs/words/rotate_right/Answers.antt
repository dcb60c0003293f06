use Rattle.std.proofs.Common.{◌≡◌, ℕ, ◌-◌, ◌*◌, ◌/◌, ◌%◌, ◌^◌, List, slice_index, replicate, bit_or, refl, ap, ◌∙◌, arith}
use lib.Lanes.{zip2}
use Rattle.std.proofs.lemmas.Simd.{get_or-zip2, get_or-replicate, length-zip2}
use Rattle.sha256_lanes.proofs.words.rotate_right.Goals as goal

abbrev right : ℕ → ℕ → ℕ
right a k = a / 2 ^ k

abbrev left : ℕ → ℕ → ℕ
left a k = a * 2 ^ k % 2 ^ 32

pub returns : goal.returns
returns c i lt =
    let x : List ℕ = c.args.x in
    let n : ℕ = c.args.count in
    let at : n % 32 ≡ n = omega arith in
    let at' : (32 - n) % 32 ≡ 32 - n = omega arith in
    let counts : List ℕ = replicate 8 n in
    let others : List ℕ = replicate 8 (32 - n) in
    let long = length-zip2 right x counts (omega arith) in
    let long' = length-zip2 left x others (omega arith) in
    let low : slice_index (zip2 right x counts) i ≡ slice_index x i / 2 ^ n =
    get_or-zip2 right x counts i 0 0 0 (omega arith) (omega arith)
    ∙ ap (right (slice_index x i)) (get_or-replicate 8 i n 0 lt) in
    let high : slice_index (zip2 left x others) i ≡ slice_index x i * 2 ^ (32 - n) % 2 ^ 32 =
    get_or-zip2 left x others i 0 0 0 (omega arith) (omega arith)
    ∙ ap (left (slice_index x i)) (get_or-replicate 8 i (32 - n) 0 lt) in
    get_or-zip2 bit_or (zip2 right x counts) (zip2 left x others) i 0 0 0 (omega arith) (omega arith)
    ∙ rw (low, high, at, at') refl
