use Rattle.std.proofs.Common.{◌≡◌, ℕ, ◌+◌, ◌*◌, List, sym, ap, ◌∙◌, arith}
use Rattle.sha2.specs.Sha256.{hash_after}
use Rattle.sha256_lanes.specs.Lanes.{part}
use Rattle.sha256_lanes.proofs.Blocks.{hashed_more}
use Rattle.sha256_lanes.proofs.long.compress_eight.Goals as goal

pub lanes-init : goal.lanes-init
lanes-init c h before = before ∙ ap (hash_after h c.args.text.now) (omega arith)

pub lanes-preserved : goal.lanes-preserved
lanes-preserved c h before =
    let text : List ℕ = c.args.text.now in
    let i : ℕ = c.lanes.number in
    let n : ℕ = c.args.before + i in
    let at : ℕ = 64 * c.args.before + 64 * i in
    let place : at ≡ n * 64 = omega arith in
    let next : n + 1 ≡ c.args.before + (i + 1) = omega arith in
    c.compress_lane.ensures (part at 64 text) (c.fill.ensures i (part at 64 text) (omega arith) (c.loaded.ensures i (omega arith)))
    ∙ rw (c.lanes.invariant h before, place) (sym (hashed_more h text n))
    ∙ ap (hash_after h text) next

pub returns : goal.returns
returns c h before =
    let end : c.args.before + c.lanes.number ≡ c.args.before + 8 = omega (arith, c.lanes.auto.number-end) in
    c.lanes.invariant h before ∙ ap (hash_after h c.args.text.now) end
