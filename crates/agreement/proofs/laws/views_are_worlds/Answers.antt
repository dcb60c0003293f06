use Rattle.agreement.proofs.Members.{of_all}
use Rattle.agreement.proofs.Worlds.{all_listed, are_worlds, guarded, judge_as_world, lose_void}
use Rattle.agreement.specs.Worlds.{IsHonest}
use Rattle.agreement.proofs.laws.views_are_worlds.Goals as goal

pub returns-clause-worlds : goal.returns-clause-worlds
returns-clause-worlds c reads key run first v nc honest = are_worlds reads key run first v nc (of_all (IsHonest reads key) run honest)

pub returns-clause-losses : goal.returns-clause-losses
returns-clause-losses c reads key run first v nc honest = lose_void reads key run first v nc (of_all (IsHonest reads key) run honest)

pub returns-clause-judged : goal.returns-clause-judged
returns-clause-judged c reads key run first v nc honest = judge_as_world reads key run first v nc (of_all (IsHonest reads key) run honest)

pub returns-clause-listed : goal.returns-clause-listed
returns-clause-listed c reads key run first v nc honest = all_listed reads key run first v nc (of_all (IsHonest reads key) run honest)

pub returns-clause-guarded : goal.returns-clause-guarded
returns-clause-guarded c = guarded
