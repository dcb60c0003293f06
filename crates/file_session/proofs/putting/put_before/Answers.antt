use Rattle.std.proofs.Common.{IfOk, subst, sym}
use Rattle.std.specs.Prelude.{OnErr}
use Rattle.commands.specs.Asked.{Outcome, both}
use Rattle.file_session.specs.Parts.{IsChange, IsPlanOf}
use Rattle.file_session.proofs.putting.put_before.Goals as goal

pub put_first-requires-clause-change : goal.put_first-requires-clause-change
put_first-requires-clause-change g c = subst IsChange (sym (c.course_at-course.ensures.puts c.args.file.now.content.now)) c.requires.change

pub returns-clause-plan : goal.returns-clause-plan
returns-clause-plan g c = λ o is.
    subst (λ (f : Outcome). IfOk c.put_first.result (IsPlanOf (both f o))) (c.course_at-course.ensures.puts c.args.file.now.content.now) (c.put_first.ensures.plan o is)

pub returns-clause-changes : goal.returns-clause-changes
returns-clause-changes g c = λ o is.
    subst (λ (f : Outcome). OnErr c.put_first.result (IsChange (both f o))) (c.course_at-course.ensures.puts c.args.file.now.content.now) (c.put_first.ensures.changes o is)
