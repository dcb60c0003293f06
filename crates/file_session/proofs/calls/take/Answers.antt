use Rattle.std.specs.Option.{option_copied}
use Rattle.client_verify.specs.State.{asked_of}
use Rattle.client_verify.specs.Standing.{IsLacking}
use Rattle.client_steps.specs.Anywhere.{asked, on_ok}
use Rattle.client_steps.proofs.Heard.{taken}
use Rattle.file_session.specs.Calls.{Takes}
use Rattle.file_session.proofs.Steps.{leads, same_phase, some_from, taken_fewer, taken_more}
use Rattle.file_session.proofs.calls.take.Goals as goal

pub returns-clause-leads : goal.returns-clause-leads
returns-clause-leads g c =
    let e = c.on_block-step.ensures in
    let after = c.type_invariant.ensures in
    let old = c.args.client.now in
    leads _ (Takes (option_copied c.args.block) (on_ok asked c.on_block-step.result)) _
    (taken old c.on_block-step.new.self (option_copied c.args.block) c.on_block-step.result (some_from (λ k. IsLacking old (asked_of k)) old.checked c.requires) c.is_bytes.ensures e.handed e.held e.told e.only_memory e.err) (after.released, after.replies) tt
    (taken_more old c.on_block-step.new.self (option_copied c.args.block) c.on_block-step.result c.requires e.more e.stands)

pub returns-clause-phase : goal.returns-clause-phase
returns-clause-phase g c = same_phase c.args.client.now c.on_block-step.new.self c.on_block-step.result c.on_block-step.ensures.only c.on_block-step.ensures.err

pub returns-clause-fewer : goal.returns-clause-fewer
returns-clause-fewer g c =
    taken_fewer c.args.client.now c.on_block-step.new.self c.type_invariant.ensures.few c.on_block-step.result c.requires c.on_block-step.ensures.more
