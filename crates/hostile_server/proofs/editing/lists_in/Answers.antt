-- The reply fits its text.
use Rattle.std.proofs.Common.{arith, ap}
use Rattle.std.specs.Prelude.{length}
use Rattle.hostile_server.proofs.Few.{few_structures, few_pending}
use Rattle.hostile_server.proofs.editing.lists_in.Goals as goal

pub returns-clause-structures : goal.returns-clause-structures
returns-clause-structures g c =
    let few = few_structures c.args.reply c.structures-structures.ensures.fits in
    omega (arith, few, c.into_parts.result.0.ok.0, ap length c.into_parts.ensures.structures)

pub returns-clause-pending : goal.returns-clause-pending
returns-clause-pending g c =
    let few = few_pending c.args.reply c.structures-structures.ensures.fits in
    omega (arith, few, c.into_parts.result.1.ok.0, ap length c.into_parts.ensures.pending)
