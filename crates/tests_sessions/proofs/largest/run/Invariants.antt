use Rattle.std.proofs.Common.{None}
use Rattle.tests_sessions.proofs.largest.run.Given as goal

abbrev pub ghosts-tried_over-B-ServerName : goal.ghosts-tried_over-B-ServerName
ghosts-tried_over-B-ServerName g a = record { queue = a.queue.now.table.shared.table_id; pinned = a.pinned; before = None }

abbrev pub ghosts-tried_over-L-Ledger : goal.ghosts-tried_over-L-Ledger
ghosts-tried_over-L-Ledger g a = record { name = a.blank.name; parts = a.blank.parts }
