use Rattle.std.proofs.Common.{ap, ◌∙◌, arith}
use Rattle.sha2.specs.Sha256.{rounds, schedule}
use Rattle.sha256_lanes.proofs.compression.four_rounds.Goals as goal

pub returns : goal.returns
returns c i b h lt scheduled before =
    let after = rounds h (schedule b 48) in
    let first = c.round_at-v.ensures i b h lt scheduled before in
    let second = c.round_at-v-2.ensures i b h lt scheduled first in
    let third = c.round_at-v-3.ensures i b h lt scheduled (second ∙ ap after (omega arith)) in
    c.round_at.ensures i b h lt scheduled (third ∙ ap after (omega arith)) ∙ ap after (omega arith)
