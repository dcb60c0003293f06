use Rattle.update_cert.specs.World.{File}
use Rattle.file_session.proofs.Joined.{begins_on, few_on, two_at_most, writes_on}
use Rattle.file_session.proofs.putting.before_changes.Goals as goal

pub returns-in_ok-all-in-Ok-Writes-clause-plan : goal.returns-in_ok-all-in-Ok-Writes-clause-plan
returns-in_ok-all-in-Ok-Writes-clause-plan g c = λ o is.
    let plan = rw c.in-Ok-Writes.field-0-is at c.in-Ok-Writes.ensures.plan in
    let j = c.in_ok-all-in-Ok-Writes.ensures in
    writes_on _ o c.in-Ok-Writes.first c.args.later c.in_ok-all-in-Ok-Writes.all plan is j.changes j.texts

pub returns-in_ok-all-in-Ok-Writes-clause-can_begin : goal.returns-in_ok-all-in-Ok-Writes-clause-can_begin
returns-in_ok-all-in-Ok-Writes-clause-can_begin g c = λ n most few begins.
    let plan = rw c.in-Ok-Writes.field-0-is at c.in-Ok-Writes.ensures.plan in
    let can_begin = rw c.in-Ok-Writes.field-0-is at c.in-Ok-Writes.ensures.can_begin in
    let j = c.in_ok-all-in-Ok-Writes.ensures in
    begins_on n c.in-Ok-Writes.first c.args.later c.in_ok-all-in-Ok-Writes.all most (two_at_most (File c.args.content.now) c.args.course.now c.in-Ok-Writes.first plan) few can_begin begins j.changes j.texts

pub returns-in_ok-all-in-Ok-Writes-clause-few : goal.returns-in_ok-all-in-Ok-Writes-clause-few
returns-in_ok-all-in-Ok-Writes-clause-few g c = λ n few.
    let plan = rw c.in-Ok-Writes.field-0-is at c.in-Ok-Writes.ensures.plan in
    few_on n c.in-Ok-Writes.first c.args.later c.in_ok-all-in-Ok-Writes.all (two_at_most (File c.args.content.now) c.args.course.now c.in-Ok-Writes.first plan) few c.in_ok-all-in-Ok-Writes.ensures.changes
