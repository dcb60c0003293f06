use Rattle.std.proofs.Common.{◌≡◌, ◌+◌, ◌≤◌, ◌++◌, map, vec_len, vec_capacity}
use Rattle.client_releases.specs.OwnKeys.{AreSettled, closed_key, key_files, ledgers_of}
use Rattle.client_releases.proofs.own_key.close_before.Given as goal

abbrev pub invariant-loop-last : goal.invariant-loop-last
invariant-loop-last g l =
    let files = key_files g.L.Device.history g.L.Device.fault_count in
    record {
      room : vec_len l.own + vec_len l.keys ≤ vec_capacity l.keys;
      settled : AreSettled (ledgers_of l.own.items);
      files : map closed_key l.own.items ++ files l.keys.items ≡ map closed_key l.initial.own.items ++ files l.initial.keys.items;
    }

abbrev pub decreases-loop-last : goal.decreases-loop-last
decreases-loop-last g l = vec_len l.own
