use Rattle.tests_server.proofs.by_hand.conversed.Given as goal

abbrev pub ghosts-converse_twice-B-ServerName : goal.ghosts-converse_twice-B-ServerName
ghosts-converse_twice-B-ServerName g a = record { queue = a.queue.now.table.shared.table_id; pinned = a.pinned; before = g.W.Write.contents a.writer }

abbrev pub ghosts-converse_twice-L-Ledger : goal.ghosts-converse_twice-L-Ledger
ghosts-converse_twice-L-Ledger g a = record { name = a.blank.name; parts = a.blank.parts }
