use Rattle.std.proofs.Common.{◌≡◌, ◌-◌, ◌<◌, ◌≤◌, true}
use Rattle.record_log.specs.Records.{Reaches}
use Rattle.record_log.proofs.chain.walk.Given as goal

abbrev pub invariant-loop-found : goal.invariant-loop-found
invariant-loop-found g l = record {
  inside : l.gate < l.size;
  same : g.S.Storage.history l.storage ≡ g.S.Storage.history l.initial.storage;
  reaches : g.S.Storage.tells ≡ true → Reaches (g.S.Storage.history l.initial.storage).now.text l.gate l.found.items;
  later : g.S.Storage.fault_count l.initial.storage ≤ g.S.Storage.fault_count l.storage;
}

abbrev pub decreases-loop-found : goal.decreases-loop-found
decreases-loop-found g l = l.size - l.gate
