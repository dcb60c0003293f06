use Rattle.std.proofs.Common.{◌∙◌, ap, length}
use Rattle.client_steps.specs.Steps.{secrets_in}
use Rattle.client_runs.specs.Slots.{files_in}
use Rattle.client_runs.proofs.Places.{written_back}
use Rattle.client_runs.proofs.Taking.{when_ok}
use Rattle.client_runs.proofs.crashing.crash.Goals as goal

pub returns-clause-ledgers : goal.returns-clause-ledgers
returns-clause-ledgers g c =
    let keys = c.args.parts.now.keys in
    when_ok c.start_over.result _ (ap files_in (written_back c.start_each_over.new.keys keys.items keys.len keys.ok.0 (c.start_each_over.auto.keys ∙ ap length c.deref_mut.ensures.value)) ∙ c.in_ok-start_each_over.ensures.files)

pub returns-clause-secrets : goal.returns-clause-secrets
returns-clause-secrets g c =
    let keys = c.args.parts.now.keys in
    when_ok c.start_over.result _ (ap secrets_in (written_back c.start_each_over.new.keys keys.items keys.len keys.ok.0 (c.start_each_over.auto.keys ∙ ap length c.deref_mut.ensures.value)) ∙ c.in_ok-start_each_over.ensures.secrets ∙ ap secrets_in c.deref_mut.ensures.value)
