use Rattle.std.proofs.Common.{map}
use Rattle.std.specs.Vec.{vec_items}
use Rattle.client_steps.specs.Steps.{secrets_in}
use Rattle.client_runs.proofs.Taking.{left_with}
use Rattle.client_runs.proofs.slot.crashed.Goals as goal

pub returns-clause-closed : goal.returns-clause-closed
returns-clause-closed g c =
    let h = c.in_ok-parts.ensures in
    let e = c.crash-done.ensures in
    left_with (map vec_items c.args.ledgers.now) c.args.journal.now (secrets_in c.args.parts.keys.items) c.crash-done.new.parts c.in_ok-parts.parts h.same
    (rw h.ok at e.ledgers) (rw h.ok at e.journal) (rw h.ok at e.secrets)
