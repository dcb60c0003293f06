use Rattle.kept_server.proofs.Stays.{stays, starts}
use Rattle.kept_server.proofs.laws.what_was_told_stays.Goals as goal

pub returns-clause-stays : goal.returns-clause-stays
returns-clause-stays c = stays c.files_tell_or_are_damaged.ensures.one

pub returns-clause-starts : goal.returns-clause-starts
returns-clause-starts c = starts
