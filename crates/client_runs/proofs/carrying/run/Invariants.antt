use Rattle.std.proofs.Common.{take}
use Rattle.client_runs.proofs.OneMore.{StandsSoFar}
use Rattle.client_runs.proofs.carrying.run.Given as goal

abbrev pub invariant-loop-todo : goal.invariant-loop-todo
invariant-loop-todo g l = record {
  stands : StandsSoFar (take l.todo-index l.steps) l.answers.items l.clients;
}
