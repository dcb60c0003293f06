use Rattle.std.proofs.Common.{◌≡◌, ℕ, ◌*◌, List, ap, ◌∙◌, arith}
use Rattle.sha2.specs.Sha256.{add_state, compress, rounds, schedule}
use Rattle.sha256_lanes.specs.Lanes.{lane}
use Rattle.sha256_lanes.proofs.Places.{eight}
use Rattle.sha256_lanes.proofs.compression.compress.Goals as goal

pub rounds-init : goal.rounds-init
unfolding rounds
rounds-init c i b lt is = ap (lane i) (eight c.args.state.now (omega arith))

pub rounds-preserved : goal.rounds-preserved
rounds-preserved c i b lt is =
    let h : List ℕ = lane i c.args.state.now in
    ap (lane i) (eight c.four_rounds.result (omega arith))
    ∙ c.four_rounds.ensures i b h lt (c.fill.ensures i b lt is) (c.rounds.invariant i b lt is) ∙ ap (rounds h (schedule b 48)) (omega arith)

pub returns : goal.returns
unfolding compress
returns c i b lt is =
    let h : List ℕ = lane i c.args.state.now in
    let end : 4 * c.rounds.turn ≡ 64 = omega (arith, c.rounds.auto.turn-end) in
    c.added.ensures i lt ∙ ap (add_state h) (c.rounds.invariant i b lt is ∙ ap (rounds h (schedule b 48)) end)
