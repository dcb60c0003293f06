use Rattle.std.proofs.Common.{List, map, subst, sym}
use Rattle.std.specs.Vec.{vec_items}
use Rattle.lms_sign.specs.Secret.{Secret}
use Rattle.client_steps.specs.Steps.{Device}
use Rattle.client_runs.specs.NotTaken.{MayLeaveEach}
use Rattle.client_runs.specs.Slots.{files_in}
use Rattle.client_runs.proofs.crashing.may_leave.Goals as goal

pub returns-then-each_may_leave-clause-yes : goal.returns-then-each_may_leave-clause-yes
returns-then-each_may_leave-clause-yes g c =
    λ is. (
      subst (λ (k : List (Secret × Device)). MayLeaveEach (files_in k) (map vec_items c.args.ledgers.now)) c.deref.ensures.value (c.each_may_leave.ensures.yes c.if-each_may_leave.true),
      c.may_leave.ensures.yes is,
    )

pub returns-else-each_may_leave-clause-no : goal.returns-else-each_may_leave-clause-no
returns-else-each_may_leave-clause-no g c =
    λ is may. c.each_may_leave.ensures.no is (subst (λ (k : List (Secret × Device)). MayLeaveEach (files_in k) (map vec_items c.args.ledgers.now)) (sym c.deref.ensures.value) may.0)
