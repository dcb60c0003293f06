use Rattle.std.proofs.Common.{◌≡◌, ℕ, ◌*◌, List, ap, ◌∙◌, arith}
use Rattle.sha2.specs.Sha256.{add_state, compress, rounds, schedule}
use Rattle.sha256_lanes.proofs.Places.{eight_words}
use Rattle.sha256_lanes.proofs.long.compress_lane.Goals as goal

pub rounds-init : goal.rounds-init
unfolding rounds
rounds-init c b is = eight_words c.args.state.now (omega arith)

pub rounds-preserved : goal.rounds-preserved
rounds-preserved c b is =
    let h : List ℕ = c.args.state.now in
    eight_words c.eight_rounds.result (omega arith)
    ∙ c.eight_rounds.ensures b h is (c.rounds.invariant b is) ∙ ap (rounds h (schedule b 48)) (omega arith)

pub returns : goal.returns
unfolding compress
returns c b is =
    let h : List ℕ = c.args.state.now in
    let end : 8 * c.rounds.turn ≡ 64 = omega (arith, c.rounds.auto.turn-end) in
    c.added.ensures ∙ ap (add_state h) (c.rounds.invariant b is ∙ ap (rounds h (schedule b 48)) end)
