use Rattle.std.proofs.Common.{◌≡◌, ℕ, ◌+◌, ◌*◌, List, sym, ◌∙◌, arith}
use Rattle.sha2.specs.Sha256.{initial_hash_256}
use Rattle.sha256_lanes.specs.Lanes.{part}
use Rattle.sha256_lanes.proofs.Blocks.{block_of_part, hashed_more, hashed_none}
use Rattle.sha256_lanes.proofs.hashing.hashed.Goals as goal

pub blocks-2-init : goal.blocks-2-init
blocks-2-init c i lt = c.initial-state.ensures i lt ∙ sym (hashed_none initial_hash_256 (part (c.args.stride * i) (c.args.count * 64) c.args.text.now))

pub blocks-2-preserved : goal.blocks-2-preserved
blocks-2-preserved c i lt =
    let text : List ℕ = c.args.text.now in
    let n : ℕ = c.blocks-2.n in
    let at : ℕ = c.args.stride * i in
    let whole : List ℕ = part at (c.args.count * 64) text in
    let place : 64 * n + at ≡ at + n * 64 = omega arith in
    c.compress.ensures i (part (64 * n + at) 64 text) lt (c.loaded.ensures i lt)
    ∙ rw (c.blocks-2.invariant i lt, place, sym (block_of_part text at n (c.args.count * 64) (omega arith))) (sym (hashed_more initial_hash_256 whole n))
