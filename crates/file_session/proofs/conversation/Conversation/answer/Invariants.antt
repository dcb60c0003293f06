use Rattle.std.proofs.Common.{◌≡◌, []}
use Rattle.std.specs.Prelude.{IsSome}
use Rattle.file_session.specs.Order.{FetchAt, Ready}
use Rattle.file_session.specs.Waits.{WaitsAt, left}
use Rattle.file_session.specs.Went.{Looked, point}
use Rattle.file_session.proofs.conversation.Conversation.answer.Given as goal

abbrev pub invariant-blocks-2 : goal.invariant-blocks-2
invariant-blocks-2 g l = record {
  looked : Looked g.T.Transport.answers (point l.fn.self.client l.fn.self.transport (Ready [])) (point l.self.client l.self.transport (FetchAt l.fn.question l.digest)) (λ tree. Unit {0});
  waits : WaitsAt l.fn.question l.self.client;
  phase : l.self.client.phase ≡ l.fn.self.client.phase;
  view : IsSome l.self.client.view;
}

abbrev pub decreases-blocks-2 : goal.decreases-blocks-2
decreases-blocks-2 g l = left l.self.client
