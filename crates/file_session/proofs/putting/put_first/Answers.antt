use Rattle.std.proofs.Common.{subst}
use Rattle.update_cert.specs.World.{File}
use Rattle.commands.specs.Asked.{outcome_of}
use Rattle.file_session.specs.Parts.{CanBegin, HasFew, IsPlanOf}
use Rattle.file_session.proofs.Choices.{on_err}
use Rattle.file_session.proofs.Joined.{changes_on}
use Rattle.file_session.proofs.putting.put_first.Goals as goal

pub returns-in-Writes-clause-can_begin : goal.returns-in-Writes-clause-can_begin
returns-in-Writes-clause-can_begin g c = λ n most few begins.
    c.before_changes.ensures.can_begin n most (subst (HasFew n) c.in-Writes.is few) (subst CanBegin c.in-Writes.is begins)

pub returns-in-Writes-clause-few : goal.returns-in-Writes-clause-few
returns-in-Writes-clause-few g c = λ n few. c.before_changes.ensures.few n (subst (HasFew n) c.in-Writes.is few)

pub returns-in-Writes-clause-changes : goal.returns-in-Writes-clause-changes
returns-in-Writes-clause-changes g c = λ o is.
    on_err _ (changes_on (outcome_of (File c.args.content.now) c.args.course.now) o c.in-Writes.changes c.requires.change (subst (IsPlanOf o) c.in-Writes.is is))
