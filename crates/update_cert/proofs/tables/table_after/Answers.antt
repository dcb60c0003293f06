use Rattle.std.proofs.Common.{sym, ◌∙◌}
use Rattle.update_cert.proofs.TableLaws.{all_stay}
use Rattle.update_cert.proofs.tables.table_after.Goals as goal

pub returns-then-not-may_change-clause-same : goal.returns-then-not-may_change-clause-same
returns-then-not-may_change-clause-same g c = λ none.
    all_stay c.args.cert.now.user c.args.cert.now.number c.args.cert.now.changes c.args.table.now (sym c.may_change.ensures.same ∙ c.if-not-may_change.true)
