use Rattle.std.proofs.Common.{sym, ◌∙◌}
use Rattle.reply_rules.proofs.RecordsLaws.{next_lower}
use Rattle.reply_rules.proofs.records.has_all.Goals as goal

pub loop-number-preserved : goal.loop-number-preserved
loop-number-preserved c =
    next_lower c.args.least c.loop-number.number c.args.numbers.now c.loop-number-test.true (sym c.is_there.ensures ∙ c.if-not-is_there.false) ∙ c.loop-number.invariant
