use Rattle.std.specs.Vec.{vec_items}
use Rattle.client_steps.specs.Anywhere.{on_ok}
use Rattle.client_steps.proofs.Answered.{signed}
use Rattle.client_verify.specs.State.{released}
use Rattle.file_session.specs.Calls.{Signs, lost_of}
use Rattle.std.proofs.Common.{refl}
use Rattle.file_session.proofs.Steps.{leads, of_declared, sign_unfinished}
use Rattle.file_session.proofs.calls.sign.Goals as goal

pub returns-clause-leads : goal.returns-clause-leads
returns-clause-leads g c =
    let e = c.sign-text.ensures in
    let after = c.type_invariant-2.ensures in
    let s = c.args.client.now in
    leads _ (Signs (on_ok vec_items c.sign-text.result) (lost_of c.sign-text.new.self)) _
    (signed s c.sign-text.new.self c.sign-text.result c.requires e.signed e.gone e.text e.fits e.any_moment e.tried e.no_key e.no_leaf e.own e.rose e.others e.fails e.fits_device e.only e.err)
    (after.released, after.replies) refl tt

pub returns-clause-unfinished : goal.returns-clause-unfinished
returns-clause-unfinished g c =
    let e = c.sign-text.ensures in
    let s = c.args.client.now in
    let is = of_declared (released s) s.accepted c.requires c.type_invariant.ensures.replies.of_accepted in
    sign_unfinished s c.sign-text.new.self c.sign-text.result c.requires is e.signed e.fails e.err
