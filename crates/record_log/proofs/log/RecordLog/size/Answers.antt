use Rattle.std.proofs.Common.{sym, ap, subst, ◌∙◌}
use Rattle.record_log.specs.Records.{LogFile, Tells}
use Rattle.record_log.proofs.Room.{size_is}
use Rattle.record_log.proofs.log.RecordLog.size.Goals as goal

pub returns : goal.returns
returns g c usable tells rs told =
    let s = c.self.inside in
    let own = ap (λ (l : LogFile). l.usable) c.self.view_is ∙ usable in
    size_is (g.S.Storage.history s.storage) s.gate ((c.self.invariant own).1 tells) rs (subst (λ (l : LogFile). Tells rs l.file.now.text) (sym c.self.view_is) told)
