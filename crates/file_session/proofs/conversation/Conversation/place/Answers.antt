use Rattle.std.proofs.Common.{[], ap, None, sym, ◌∙◌}
use Rattle.client_verify.specs.State.{State}
use Rattle.file_session.specs.Order.{hearing, trying}
use Rattle.file_session.specs.Tries.{keys_to_try}
use Rattle.file_session.proofs.Runs.{went_then}
use Rattle.file_session.proofs.Tries.{any_left}
use Rattle.file_session.proofs.Turns.{went_to}
use Rattle.file_session.proofs.conversation.Conversation.place.Goals as goal

pub returns-in-Some-clause-went : goal.returns-in-Some-clause-went
returns-in-Some-clause-went g c =
    let e = c.in-Some.ensures in
    went_to (any_left (keys_to_try c.args.self.now.client) c.update.result (λ is. e.another (e.same ∙ is)) ∙ ap (hearing []) (sym e.same)) (c.update.ensures.went None)

pub returns-in-None-clause-went : goal.returns-in-None-clause-went
returns-in-None-clause-went g c =
    let e = c.update.ensures in
    let same = ap (λ (m : State). trying (keys_to_try m)) (sym e.same) in
    went_then (went_to (ap (hearing (keys_to_try c.args.self.now.client)) (c.unless_declined.ensures.none c.in-None.is) ∙ same) (e.went None)) c.try_keys.ensures.went
