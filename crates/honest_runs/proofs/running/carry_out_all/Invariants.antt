use Rattle.std.proofs.Common.{take}
use Rattle.honest_runs.specs.Town.{AreNoted, StandsSoFar}
use Rattle.honest_runs.proofs.running.carry_out_all.Given as goal

abbrev pub invariant-loop-step : goal.invariant-loop-step
invariant-loop-step g l = record {
  noted : AreNoted l.town.clients l.town.wanted.items;
  stands : StandsSoFar (take l.step-index l.steps) l.answers.items l.town;
}
