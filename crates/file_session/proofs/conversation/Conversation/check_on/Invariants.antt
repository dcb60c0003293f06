use Rattle.std.proofs.Common.{[], ◌≡◌}
use Rattle.file_session.specs.Order.{Fetch}
use Rattle.file_session.specs.Waits.{WaitsForBlock, left}
use Rattle.file_session.specs.Went.{Went, point}
use Rattle.file_session.proofs.conversation.Conversation.check_on.Given as goal

abbrev pub invariant-blocks-2 : goal.invariant-blocks-2
invariant-blocks-2 g l = record {
  went : Went g.T.Transport.answers (point l.fn.self.client l.fn.self.transport (Fetch l.fn.first)) (point l.self.client l.self.transport (Fetch l.digest)) [];
  waits : WaitsForBlock l.self.client;
  phase : l.self.client.phase ≡ l.fn.self.client.phase;
}

abbrev pub decreases-blocks-2 : goal.decreases-blocks-2
decreases-blocks-2 g l = left l.self.client
