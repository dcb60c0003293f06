use Rattle.std.proofs.Common.{[], ◌≡◌, drop, map, take}
use Rattle.std.specs.Vec.{vec_items}
use Rattle.file_session.specs.Order.{Ready, Store, left_to_store}
use Rattle.file_session.specs.Went.{Went, point}
use Rattle.file_session.proofs.Runs.{laid_so_far}
use Rattle.file_session.proofs.conversation.Conversation.store.Given as goal

abbrev pub invariant-loop-text : goal.invariant-loop-text
invariant-loop-text g l = record {
  handed_out : Went g.T.Transport.answers (point l.fn.self.client l.fn.self.transport (Store (map vec_items l.texts))) (point l.self.client l.self.transport (left_to_store (map vec_items (drop l.text-index l.texts)))) [];
  laid_out : Went g.T.Transport.answers (point l.fn.self.client l.fn.self.transport (Ready [])) (point l.self.client l.self.transport (laid_so_far (map vec_items (take l.text-index l.texts)))) [];
  same : l.self.client ≡ l.fn.self.client;
}
