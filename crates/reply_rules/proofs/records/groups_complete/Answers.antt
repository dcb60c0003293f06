use Rattle.std.proofs.Common.{sym, ◌∙◌}
use Rattle.reply_rules.specs.Rules.{group_complete}
use Rattle.reply_rules.proofs.RecordsLaws.{no_groups, groups_more, groups_fail}
use Rattle.reply_rules.proofs.records.groups_complete.Goals as goal

pub loop-n-init : goal.loop-n-init
loop-n-init g c = no_groups _

pub returns-then-not-branch : goal.returns-then-not-branch
returns-then-not-branch g c =
    let t = group_complete c.args.table.now c.args.lists.now in
    sym (groups_fail t 32 c.loop-n.n c.in-Some.group c.loop-n-test.true c.in-Some.ensures.some (sym c.in_ok-group_complete.ensures ∙ c.if-not-branch.true))

pub loop-n-preserved : goal.loop-n-preserved
loop-n-preserved g c =
    let t = group_complete c.args.table.now c.args.lists.now in
    groups_more t c.loop-n.n c.in-Some.group c.in-Some.ensures.some c.loop-n.invariant (sym c.in_ok-group_complete.ensures ∙ c.if-not-branch.false)
