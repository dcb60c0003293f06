use Rattle.std.proofs.Common.{sym, ◌∙◌}
use Rattle.reply_rules.specs.Rules.{counts_at}
use Rattle.reply_rules.proofs.Tests.{below_zero, below_more, below_fails}
use Rattle.reply_rules.proofs.numbers.top_counts.Goals as goal

pub loop-user-init : goal.loop-user-init
loop-user-init g c = below_zero _

pub returns-then-not-counts_at : goal.returns-then-not-counts_at
returns-then-not-counts_at g c =
    sym (below_fails (counts_at c.args.lists.now) 64 c.loop-user.user c.loop-user-test.true (sym c.counts_at.ensures ∙ c.if-not-counts_at.true))

pub loop-user-preserved : goal.loop-user-preserved
loop-user-preserved g c =
    below_more (counts_at c.args.lists.now) c.loop-user.user c.loop-user.invariant (sym c.counts_at.ensures ∙ c.if-not-counts_at.false)
