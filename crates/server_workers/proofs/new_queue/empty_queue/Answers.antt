use Rattle.server_workers.proofs.Relays.{begins}
use Rattle.server_workers.proofs.new_queue.empty_queue.Goals as goal

pub ruled-requires-clause-rule : goal.ruled-requires-clause-rule
ruled-requires-clause-rule g c = begins
