use Rattle.std.proofs.Common.{[], ap, map}
use Rattle.std.specs.Vec.{vec_items}
use Rattle.file_session.proofs.Plans.{begins_one}
use Rattle.file_session.proofs.planning.one.Goals as goal

pub returns-clause-can_begin : goal.returns-clause-can_begin
returns-clause-can_begin g c =
    begins_one [] _ _ _ c.args.change (ap (map vec_items) c.new.ensures.items) c.new-changes.ensures.items c.in_ok-push.ensures.items c.requires
