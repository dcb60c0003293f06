use Rattle.std.proofs.Common.{◌≡◌, true, IfSome, sym, subst}
use Rattle.consistency_server.specs.History.{Ordered}
use Rattle.kept_server.specs.Kept.{KeepsOrder}
use Rattle.kept_server.proofs.server.KeptServer.close.Goals as goal

pub returns-clause-log : goal.returns-clause-log
returns-clause-log g c =
    subst (λ (order : Ordered). IfSome c.handed_back-log.result (λ log. g.S.Storage.tells ≡ true → KeepsOrder g.B.ServerKey.start g.B.ServerKey.told log order)) (sym c.into_ordered.ensures.same)
    c.handed_back-log.ensures
