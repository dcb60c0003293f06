use Rattle.std.proofs.Common.{◌≡◌, ◌+◌, ◌≤◌, ◌++◌, List, map, vec_len, vec_capacity}
use Rattle.client_releases.specs.OwnKeys.{AreOpened, KeyFile, key_files, ledgers_of, secrets_of}
use Rattle.client_releases.proofs.own_key.open_ledgers.Given as goal

abbrev pub invariant-loop-rest : goal.invariant-loop-rest
invariant-loop-rest g l =
    let files = key_files g.L.Device.history g.L.Device.fault_count in
    record {
      room : vec_len l.own + vec_len l.rest ≤ vec_capacity l.own;
      back : vec_len l.own + vec_len l.rest ≤ vec_capacity l.rest;
      opened : (done : List KeyFile) × AreOpened done (ledgers_of l.own.items) × (secrets_of l.own.items ≡ map (λ k. k.secret) done) × (done ++ files l.rest.items ≡ files l.initial.rest.items);
    }

abbrev pub decreases-loop-rest : goal.decreases-loop-rest
decreases-loop-rest g l = vec_len l.rest
