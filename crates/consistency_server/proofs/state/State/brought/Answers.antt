use Rattle.std.proofs.Common.{◌≡◌, ap, subst, ◌∙◌}
use Rattle.update_cert.specs.Cert.{Cert}
use Rattle.principals.specs.Table.{Table}
use Rattle.consistency_server.specs.State.{State, after_operation}
use Rattle.consistency_server.specs.Judged.{table_or}
use Rattle.consistency_server.proofs.Placing.{table_made}
use Rattle.consistency_server.proofs.state.State.brought.Goals as goal

pub returns-clause-table : goal.returns-clause-table
returns-clause-table g c =
    let kept : c.self.inside.table ≡ c.args.self.now.table = ap (λ (s : State). s.table) c.self.view_is in
    let after : table_or c.in_ok-table.table c.self.inside.table ≡ after_operation c.cert.result.now c.self.inside.table
    = table_made c.in_ok-table.table c.self.inside.table (after_operation c.cert.result.now c.self.inside.table) c.in_ok-table.ensures.changed c.in_ok-table.ensures.same in
    subst (λ (t : Table). table_or c.in_ok-table.table t ≡ after_operation c.args.item.now.cert t) kept
    (after ∙ ap (λ (x : Cert). after_operation x c.self.inside.table) c.cert.ensures)
