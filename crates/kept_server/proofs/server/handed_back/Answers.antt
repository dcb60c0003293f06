use Rattle.std.proofs.Common.{◌≡◌, true}
use Rattle.record_log.specs.Records.{LogFile}
use Rattle.kept_server.proofs.Handed.{handed}
use Rattle.kept_server.proofs.server.handed_back.Goals as goal

pub returns : goal.returns
returns g c =
    let k = c.into_log.ensures in
    handed c.into_log.result (λ (l : LogFile). l) (g.S.Storage.tells ≡ true) g.B.ServerKey.start g.B.ServerKey.pinned g.B.ServerKey.told c.in_ok-keeper.keeper.events c.events.result.now c.args.order.now k.kept k.beginning c.events.ensures.events
    c.events.ensures.pinned
