use Rattle.std.proofs.Common.{◌≡◌, drop}
use Rattle.reply_rules.specs.Rules.{any_two, in_order}
use Rattle.reply_rules.proofs.vector.any_in_order.Given as goal

abbrev pub invariant-loop-i : goal.invariant-loop-i
invariant-loop-i g l = any_two in_order (drop l.i l.plans) ≡ any_two in_order l.plans
