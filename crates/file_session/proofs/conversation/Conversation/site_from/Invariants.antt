use Rattle.std.proofs.Common.{◌≡◌, [], ◌∷◌, length, true}
use Rattle.std.specs.Prelude.{IsSome}
use denote.Text.{Utf8}
use denote.Shadow.{shadow}
use Rattle.directory.specs.Name.{is_name}
use Rattle.commands.specs.Asked.{place_from}
use Rattle.file_session.specs.Order.{Ready}
use Rattle.file_session.specs.Parts.{last_of}
use Rattle.file_session.specs.Went.{Looked, point}
use Rattle.file_session.proofs.Last.{last_after}
use Rattle.file_session.proofs.conversation.Conversation.site_from.Given as goal

abbrev pub invariant-loop-name : goal.invariant-loop-name
invariant-loop-name g l = shadow (Utf8 l.last) × record {
  looked : Looked g.T.Transport.answers (point l.fn.self.client l.fn.self.transport (Ready [])) (point l.self.client l.self.transport (Ready [])) (λ tree. place_from tree l.fn.path.start l.fn.path.names ≡ place_from tree l.here (l.last ∷ l.names));
  name : is_name l.last ≡ true;
  last : last_of l.fn.path.names ≡ last_after l.last l.names;
  phase : l.self.client.phase ≡ l.fn.self.client.phase;
  view : IsSome l.self.client.view;
}

abbrev pub decreases-loop-name : goal.decreases-loop-name
decreases-loop-name g l = length l.names
