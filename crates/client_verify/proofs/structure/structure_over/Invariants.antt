use Rattle.std.proofs.Common.{◌≡◌, drop}
use Rattle.std.specs.Option.{option_copied}
use Rattle.client_verify.specs.State.{groups, with_records}
use Rattle.client_verify.proofs.structure.structure_over.Given as goal

abbrev pub invariant-loop-state : goal.invariant-loop-state
invariant-loop-state g l = with_records l.groups (drop l.state-index l.records) ≡ with_records (groups (option_copied l.last)) l.records
