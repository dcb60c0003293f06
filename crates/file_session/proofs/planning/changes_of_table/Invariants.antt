use Rattle.std.proofs.Common.{◌≡◌, map, take}
use Rattle.update_cert.specs.Change.{of_table, table_action_of}
use Rattle.file_session.proofs.planning.changes_of_table.Given as goal

abbrev pub invariant-loop-change : goal.invariant-loop-change
invariant-loop-change g l = l.all.items ≡ map (λ c. of_table (table_action_of c)) (take l.change-index l.changes)
