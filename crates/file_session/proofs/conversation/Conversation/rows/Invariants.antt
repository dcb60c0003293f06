use Rattle.std.proofs.Common.{◌≡◌, [], map, take}
use Rattle.std.specs.Prelude.{IsSome}
use Rattle.commands.specs.Asked.{row_of}
use Rattle.file_session.specs.Order.{Ready}
use Rattle.file_session.specs.Went.{Looked, point}
use Rattle.file_session.proofs.conversation.Conversation.rows.Given as goal

abbrev pub invariant-loop-entry : goal.invariant-loop-entry
invariant-loop-entry g l = record {
  looked : Looked g.T.Transport.answers (point l.fn.self.client l.fn.self.transport (Ready [])) (point l.self.client l.self.transport (Ready [])) (λ tree. l.rows.items ≡ map (row_of tree) (take l.entry-index l.entries));
  phase : l.self.client.phase ≡ l.fn.self.client.phase;
  view : IsSome l.self.client.view;
}
