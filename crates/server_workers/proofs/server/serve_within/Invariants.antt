use Rattle.server_workers.proofs.server.serve_within.Given as goal

abbrev pub ghosts-serve_in-B-ServerName : goal.ghosts-serve_in-B-ServerName
ghosts-serve_in-B-ServerName g a = record { queue = a.queue.now.table.shared.table_id; pinned = a.pinned; before = g.W.Write.contents a.writer }

abbrev pub ghosts-serve_in-L-Ledger : goal.ghosts-serve_in-L-Ledger
ghosts-serve_in-L-Ledger g a = record { name = a.blank.name; parts = a.blank.parts }
