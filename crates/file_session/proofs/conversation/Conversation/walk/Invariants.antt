use Rattle.std.proofs.Common.{◌≡◌, [], length}
use Rattle.std.specs.Prelude.{IsSome}
use Rattle.commands.specs.Asked.{walk as walk_in}
use Rattle.file_session.specs.Order.{Ready}
use Rattle.file_session.specs.Went.{Looked, point}
use Rattle.file_session.proofs.conversation.Conversation.walk.Given as goal

abbrev pub invariant-loop-name : goal.invariant-loop-name
invariant-loop-name g l = record {
  looked : Looked g.T.Transport.answers (point l.fn.self.client l.fn.self.transport (Ready [])) (point l.self.client l.self.transport (Ready [])) (λ tree. walk_in tree l.fn.path.start l.fn.path.names ≡ walk_in tree l.here l.names);
  phase : l.self.client.phase ≡ l.fn.self.client.phase;
  view : IsSome l.self.client.view;
}

abbrev pub decreases-loop-name : goal.decreases-loop-name
decreases-loop-name g l = length l.names
