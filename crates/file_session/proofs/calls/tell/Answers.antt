use Rattle.file_session.specs.Calls.{Commits}
use Rattle.file_session.proofs.Steps.{leads, told_unfinished}
use Rattle.file_session.proofs.calls.tell.Goals as goal

pub returns-clause-leads : goal.returns-clause-leads
returns-clause-leads g c =
    let after = c.type_invariant.ensures in
    leads _ (Commits c.args.status) _ (record { signed = c.requires; state = c.on_committed.ensures }) (after.released, after.replies) tt tt

pub returns-clause-unfinished : goal.returns-clause-unfinished
returns-clause-unfinished g c = told_unfinished c.args.status c.args.client.now c.on_committed.new.self c.requires c.on_committed.ensures
