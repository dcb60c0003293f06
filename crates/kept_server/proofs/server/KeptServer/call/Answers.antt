use Rattle.std.proofs.Common.{rules, ◌≡◌, ◌++◌, IfSome, subst}
use Rattle.consistency_server.specs.Answers.{Call}
use Rattle.consistency_server.specs.History.{call_of}
use Rattle.server_workers.specs.Conversation.{RepliesToKeptCall}
use Rattle.kept_server.proofs.Answered.{replies_if}
use Rattle.kept_server.proofs.server.KeptServer.call.Goals as goal

pub returns-clause-replies : goal.returns-clause-replies
returns-clause-replies g c =
    let e = c.call-answer.ensures in
    let s = c.send.ensures in
    let is : c.new-call.result ≡ call_of c.args.kind c.args.text.now = search rules in
    subst (λ (call : Call). IfSome c.send.result (λ reply. RepliesToKeptCall g.B.ServerKey.pinned (g.B.ServerKey.told ++ c.send.new.receipt) call reply)) is
    (replies_if c.send.result g.B.ServerKey.pinned g.B.ServerKey.told c.new-call.result c.call-answer.result.0 c.send.new.receipt c.deref_mut.result.now c.call-answer.new.self
    c.call-answer.result.2 e.answer e.history e.events s.carried_out s.synced s.memory)
