use Rattle.std.proofs.Common.{ap, map}
use Rattle.std.proofs.lemmas.Result.{on_ok_weaker}
use Rattle.std.specs.Vec.{vec_items}
use Rattle.client_verify.specs.State.{State}
use Rattle.client_steps.specs.Anywhere.{on_ok}
use Rattle.client_steps.proofs.Answered.{begun}
use Rattle.file_session.specs.Calls.{Begins}
use Rattle.file_session.proofs.Steps.{leads}
use Rattle.file_session.proofs.calls.begin.Goals as goal

pub returns-clause-leads : goal.returns-clause-leads
returns-clause-leads g c =
    let e = c.begin-text.ensures in
    let after = c.type_invariant.ensures in
    leads _ (Begins c.args.changes.now (map vec_items c.args.laid.now) (on_ok vec_items c.begin-text.result)) _
    (begun c.args.client.now c.begin-text.new.self c.args.changes.now (map vec_items c.args.laid.now) c.begin-text.result c.requires.idle c.requires.few c.requires.laid
    e.declared e.kept e.text e.fits e.any_moment e.tried e.no_leaf e.no_number e.rose e.others e.fails e.kept_device e.fits_device e.only e.err) (after.released, after.replies) tt tt

pub returns-clause-declared : goal.returns-clause-declared
returns-clause-declared g c = on_ok_weaker c.begin-text.result (λ h. ap (λ (s : State). s.phase) h.2) c.begin-text.ensures.declared
