use Rattle.std.proofs.Common.{arith}
use Rattle.std.proofs.lemmas.Grind.{common_steps}
use Rattle.reply_rules.proofs.lists.pending_once.Goals as goal

pub loop-i-preserved : goal.loop-i-preserved
loop-i-preserved g c = grind (arith, common_steps)

pub returns-then-not-is_apart : goal.returns-then-not-is_apart
returns-then-not-is_apart g c = grind (arith, common_steps)
