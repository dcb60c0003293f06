use Rattle.std.proofs.Common.{◌≡◌, ◌<◌, ℕ, []}
use Rattle.client_releases.specs.declared.phase.Phase.TheVariants as phase
use Rattle.file_session.specs.Order.{trying}
use Rattle.file_session.specs.Tries.{keys_to_try, leaves_left}
use Rattle.file_session.specs.Went.{Went, point}
use Rattle.file_session.proofs.Tries.{tries_among}
use Rattle.file_session.proofs.conversation.Conversation.try_keys.Given as goal

-- the keys below this one are left to try, and have the leaves that they had
abbrev pub invariant-loop-key : goal.invariant-loop-key
invariant-loop-key g l = record {
  went : Went g.T.Transport.answers (point l.fn.self.client l.fn.self.transport (trying (keys_to_try l.fn.self.client))) (point l.self.client l.self.transport (trying (tries_among l.fn.self.client l.signer l.key))) [];
  declared : l.self.client.phase ≡ phase.Declared;
  secrets : l.self.client.secrets ≡ l.fn.self.client.secrets;
  leaves : (n : ℕ) → n < l.key → leaves_left l.self.client n ≡ leaves_left l.fn.self.client n;
}
