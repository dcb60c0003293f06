use Rattle.std.proofs.Common.{rules}
use Rattle.client_steps.specs.Anywhere.{asked, on_ok}
use Rattle.client_steps.proofs.Heard.{heard}
use Rattle.file_session.specs.Calls.{Hears}
use Rattle.file_session.proofs.Steps.{heard_asks, leads, same_phase}
use Rattle.file_session.proofs.calls.hear.Goals as goal

pub returns-clause-leads : goal.returns-clause-leads
returns-clause-leads g c =
    let e = c.on_reply-step.ensures in
    let after = c.type_invariant.ensures in
    leads _ (Hears c.args.text.now (on_ok asked c.on_reply-step.result)) _
    (heard c.args.client.now c.on_reply-step.new.self c.args.text.now c.on_reply-step.result (search rules) c.are_bytes.ensures e.judged e.held e.only_memory e.err) (after.released, after.replies) tt
    (heard_asks c.args.client.now c.on_reply-step.new.self c.args.text.now c.on_reply-step.result e.stands)

pub returns-clause-phase : goal.returns-clause-phase
returns-clause-phase g c = same_phase c.args.client.now c.on_reply-step.new.self c.on_reply-step.result c.on_reply-step.ensures.only c.on_reply-step.ensures.err
