use Rattle.std.proofs.Common.{ap, ◌∙◌, arith}
use Rattle.sha2.specs.Sha256.{rounds, schedule}
use Rattle.sha256_lanes.proofs.long.four_rounds.Goals as goal

pub returns : goal.returns
returns c b h scheduled before =
    let after = rounds h (schedule b 48) in
    let first = c.round_at-v.ensures b h scheduled before in
    let second = c.round_at-v-2.ensures b h scheduled first in
    let third = c.round_at-v-3.ensures b h scheduled (second ∙ ap after (omega arith)) in
    c.round_at.ensures b h scheduled (third ∙ ap after (omega arith)) ∙ ap after (omega arith)
