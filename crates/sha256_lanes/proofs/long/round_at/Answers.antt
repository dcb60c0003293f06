use Rattle.std.proofs.Common.{ℕ, List, sym, ◌∙◌, arith}
use Rattle.sha2.specs.Sha256.{schedule}
use Rattle.sha256_lanes.proofs.Places.{lane_at}
use Rattle.sha256_lanes.proofs.Schedules.{round_more}
use Rattle.sha256_lanes.proofs.long.round_at.Goals as goal

pub returns : goal.returns
returns c b h scheduled before =
    let t : ℕ = c.args.place in
    let words : List (List ℕ) = c.args.words.now in
    c.round.ensures
    ∙ rw (before, sym (lane_at c.args.number words t (omega arith)) ∙ scheduled t c.requires.place) (sym (round_more h (schedule b 48) t))
