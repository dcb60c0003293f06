use Rattle.std.proofs.Common.{arith}
use Rattle.std.proofs.lemmas.Grind.{common_steps}
use Rattle.reply_rules.proofs.reply_lists.place_above.Goals as goal

pub loop-item-preserved : goal.loop-item-preserved
loop-item-preserved g c = record {
  index = omega arith;
  rest = grind (arith, common_steps);
}

pub returns-then-is_deeper : goal.returns-then-is_deeper
returns-then-is_deeper g c = record {
  same = grind (arith, common_steps);
  inside = omega arith;
}

pub returns : goal.returns
returns g c = record {
  same = grind (arith, common_steps);
  inside = omega arith;
}
