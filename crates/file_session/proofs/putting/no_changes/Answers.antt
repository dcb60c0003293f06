use Rattle.std.proofs.Common.{ap, length, arith}
use Rattle.file_session.proofs.Plans.{nothing_is_laid}
use Rattle.file_session.proofs.putting.no_changes.Goals as goal

pub returns-clause-can_begin : goal.returns-clause-can_begin
returns-clause-can_begin g c = (omega (arith, ap length c.new.ensures.items), nothing_is_laid _ _ c.new.ensures.items)
