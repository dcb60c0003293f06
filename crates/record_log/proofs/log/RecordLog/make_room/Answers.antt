use Rattle.std.proofs.Common.{ap, subst, ◌∙◌}
use Rattle.record_log.specs.Records.{LogFile}
use Rattle.record_log.specs.Places.{KeepsRecords}
use Rattle.record_log.proofs.Lives.{kept_call, no_call}
use Rattle.record_log.proofs.Room.{unchanged}
use Rattle.record_log.proofs.log.RecordLog.make_room.Goals as goal

pub returns-in_err-zeros-clause-any_moment : goal.returns-in_err-zeros-clause-any_moment
returns-in_err-zeros-clause-any_moment g c tells =
    let s = c.self.inside in
    let usable = ap (λ (l : LogFile). l.usable) c.self.view_is ∙ c.requires.usable in
    let kept = subst (λ (l : LogFile). KeepsRecords l.file l.file) c.self.view_is (unchanged (g.S.Storage.history s.storage) s.gate ((c.self.invariant usable).1 tells)) in
    kept.any_moment

pub returns-in_err-zeros-clause-step : goal.returns-in_err-zeros-clause-step
returns-in_err-zeros-clause-step g c tells = no_call c.args.self.now.file

pub returns-in_err-made-clause-step : goal.returns-in_err-made-clause-step
returns-in_err-made-clause-step g c tells =
    let new = g.S.Storage.history c.put_behind-made.new.storage in
    kept_call c.args.self.now.file new (subst (λ (l : LogFile). KeepsRecords l.file new) c.self.view_is (c.put_behind-made.ensures.kept tells))

pub returns-clause-step : goal.returns-clause-step
returns-clause-step g c tells =
    let new = g.S.Storage.history c.put_behind-made.new.storage in
    kept_call c.args.self.now.file new (subst (λ (l : LogFile). KeepsRecords l.file new) c.self.view_is (c.put_behind-made.ensures.kept tells))
