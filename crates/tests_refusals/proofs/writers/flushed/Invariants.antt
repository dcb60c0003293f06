use Rattle.tests_refusals.proofs.writers.flushed.Given as goal

abbrev pub ghosts-flush_to-B-ServerName : goal.ghosts-flush_to-B-ServerName
ghosts-flush_to-B-ServerName g a = record { queue = a.queue.now.table.shared.table_id; pinned = a.pinned; before = g.W.Write.contents a.writer }

abbrev pub ghosts-flush_to-L-Ledger : goal.ghosts-flush_to-L-Ledger
ghosts-flush_to-L-Ledger g a = record { name = a.blank.name; parts = a.blank.parts }
