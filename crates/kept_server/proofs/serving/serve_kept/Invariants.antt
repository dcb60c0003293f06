use Rattle.consistency_server.specs.History.{log_of}
use Rattle.kept_server.proofs.serving.serve_kept.Given as goal

abbrev pub ghosts-serve_in-B-ServerKey : goal.ghosts-serve_in-B-ServerKey
ghosts-serve_in-B-ServerKey g a = record {
  pinned = a.kept.ordered.pinned;
  book = a.opened.seen.book;
  told = log_of a.kept.ordered.pinned a.kept.ordered.history;
  start = a.kept.log.file;
}

abbrev pub ghosts-serve_in-L-Ledger : goal.ghosts-serve_in-L-Ledger
ghosts-serve_in-L-Ledger g a = record { name = a.blank.name; parts = a.blank.parts }
