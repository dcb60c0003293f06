use Rattle.std.proofs.Common.{ap, ◌∙◌, arith}
use Rattle.sha2.specs.Sha256.{rounds, schedule}
use Rattle.sha256_lanes.proofs.long.eight_rounds.Goals as goal

pub returns : goal.returns
returns c b h scheduled before =
    let after = rounds h (schedule b 48) in
    let first = c.four_rounds-v.ensures b h scheduled before in
    c.four_rounds.ensures b h scheduled first ∙ ap after (omega arith)
