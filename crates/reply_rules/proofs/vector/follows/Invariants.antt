use Rattle.std.proofs.Common.{◌≡◌, drop}
use Rattle.version_order.specs.Vector.{raised, raised_all}
use Rattle.reply_rules.proofs.vector.follows.Given as goal

abbrev pub invariant-loop-group : goal.invariant-loop-group
invariant-loop-group g l = raised_all (drop l.group-index l.groups) l.next ≡ raised_all l.groups (raised l.plan.user l.fn.next)
