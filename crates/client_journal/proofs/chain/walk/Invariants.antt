use Rattle.std.proofs.Common.{◌≡◌, ◌-◌, ◌≤◌}
use Rattle.client_journal.specs.Places.{Reaches}
use Rattle.client_journal.proofs.chain.walk.Given as goal

abbrev pub invariant-loop-next : goal.invariant-loop-next
invariant-loop-next g l = record {
  same : g.D.Device.history l.device ≡ g.D.Device.history l.initial.device;
  later : g.D.Device.fault_count l.initial.device ≤ g.D.Device.fault_count l.device;
  reaches : Reaches (g.D.Device.history l.device).now.text l.end.gate l.end.phase;
}

abbrev pub decreases-loop-next : goal.decreases-loop-next
decreases-loop-next g l = l.size - l.end.gate
