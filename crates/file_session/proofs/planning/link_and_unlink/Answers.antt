use Rattle.std.proofs.Common.{[], ap, map}
use Rattle.layout.specs.Types.{Digest}
use Rattle.std.specs.Prelude.{Bool}
use Rattle.std.specs.Vec.{vec_items}
use Rattle.update_cert.specs.Change.{Change}
use Rattle.client_verify.specs.Laid.{is_laid}
use Rattle.file_session.proofs.Plans.{begins_two}
use Rattle.file_session.proofs.planning.link_and_unlink.Goals as goal

abbrev is_laid_bare : Change Digest → Bool
is_laid_bare ch = is_laid [] ch.action

pub returns-clause-can_begin : goal.returns-clause-can_begin
returns-clause-can_begin g c =
    begins_two [] _ _ _ _ c.in_ok-link.field-0 c.in_ok-unlink.field-0 (ap (map vec_items) c.new.ensures.items) c.new-changes.ensures.items c.in_ok-push.ensures.items c.in_ok-push-2.ensures.items
    (ap is_laid_bare c.in_ok-link.ensures) (ap is_laid_bare c.in_ok-unlink.ensures)
