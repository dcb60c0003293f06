use Rattle.std.proofs.Common.{◌≡◌, ◌-◌, ◌≤◌, true}
use Rattle.std.specs.BTreeMap.{get}
use Rattle.std.specs.Cmp.Lexicographic.{slice_cmp}
use Rattle.std.specs.Ordering.{nat_cmp}
use Rattle.block_file.specs.Places.{IsFound}
use Rattle.block_file.proofs.finding.find_blocks.Given as goal

abbrev pub invariant-loop-index : goal.invariant-loop-index
invariant-loop-index g l = record {
  inside : l.end ≤ l.size;
  same : g.S.Storage.history l.storage ≡ g.S.Storage.history l.initial.storage;
  found : g.S.Storage.tells ≡ true → IsFound (g.S.Storage.history l.initial.storage).now.text l.end (get (slice_cmp nat_cmp) l.index);
  later : g.S.Storage.fault_count l.initial.storage ≤ g.S.Storage.fault_count l.storage;
}

abbrev pub decreases-loop-index : goal.decreases-loop-index
decreases-loop-index g l = l.size - l.end
