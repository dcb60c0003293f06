use Rattle.std.proofs.Common.{◌≡◌, ◌*◌}
use Rattle.sha2.specs.Sha256.{hash_after, initial_hash_256}
use Rattle.sha256_lanes.proofs.long.digest_of_groups.Given as goal

abbrev pub invariant-groups : goal.invariant-groups
invariant-groups l = l.state ≡ hash_after initial_hash_256 l.text (8 * l.group)
