use Rattle.std.proofs.Common.{◌≡◌, ℕ, ◌+◌, ◌*◌, ◌/◌, ◌≤◌, List, length, take, drop, ap, ◌∙◌, arith}
use Rattle.std.proofs.lemmas.List.{length-take-le, length-drop, take_all}
use Rattle.std.proofs.lemmas.Nat.{mul-le}
use Rattle.sha2.specs.Sha256.{digest_bytes, initial_hash_256, padding, sha256}
use Rattle.sha256_lanes.specs.Lanes.{part}
use Rattle.sha256_lanes.proofs.Blocks.{hashed_whole}
use Rattle.sha256_lanes.proofs.hashing.digests_of_whole.Goals as goal

pub returns : goal.returns
unfolding sha256
returns c i lt =
    let text : List ℕ = c.args.text.now in
    let size : ℕ = c.args.size in
    let at : ℕ = size * i in
    let n : ℕ = size / 64 in
    let block : List ℕ = c.whole_padding.result in
    let within : at ≤ size * 7 = mul-le size i size 7 (omega arith) (omega arith) in
    let blocks : n * 64 ≡ size = omega arith in
    let m : List ℕ = part at size text in
    let long : length m ≡ size = length-take-le size (drop at text) (omega (arith, length-drop at text)) in
    let width : length block ≡ 64 = omega arith in
    let first : 0 + 0 * i ≡ 0 = omega arith in
    let last : part (0 + 0 * i) 64 block ≡ block = ap (λ (k : ℕ). take 64 (drop k block)) first ∙ take_all 64 block (omega arith) in
    let before = rw blocks at c.hashed-state.ensures i lt in
    let padded : block ≡ padding (length m) = rw long c.whole_padding.ensures in
    c.digests_of.ensures i lt
    ∙ ap (λ (h : List ℕ). digest_bytes h 8)
    (c.compress.ensures i (part (0 + 0 * i) 64 block) lt (c.loaded.ensures i lt) ∙ rw (before, last) (hashed_whole initial_hash_256 m block n (omega arith) padded width))
