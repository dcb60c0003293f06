-- It fits a row of a reply, which is its size and its text.
use Rattle.std.proofs.Common.{subst, arith}
use Rattle.pending_list.specs.Reply.{signed_structure}
use Rattle.pending_list.specs.ReplyLaws.{structure_row_fits}
use Rattle.consistency_server.proofs.ReplyRows.{structure_size}
use Rattle.consistency_server.proofs.structures.SpelledStructure.write_row.Goals as goal

pub overflow_cast-len : goal.overflow_cast-len
overflow_cast-len g c =
    let fits = structure_row_fits c.self.inside.value c.plan-plan.ensures.fits c.as_bytes-signature.ensures.fits in
    let size = structure_size c.self.inside.value c.self.inside.text.items fits c.self.invariant in
    omega (arith, c.len.ensures, c.self.inside.text.ok.0, size.0, size.1)

pub returns-in_err-u16-clause-fits : goal.returns-in_err-u16-clause-fits
returns-in_err-u16-clause-fits g c =
    subst signed_structure.Fits c.self.view_is (structure_row_fits c.self.inside.value c.plan-plan.ensures.fits c.as_bytes-signature.ensures.fits)

pub returns-clause-fits : goal.returns-clause-fits
returns-clause-fits g c =
    subst signed_structure.Fits c.self.view_is (structure_row_fits c.self.inside.value c.plan-plan.ensures.fits c.as_bytes-signature.ensures.fits)
