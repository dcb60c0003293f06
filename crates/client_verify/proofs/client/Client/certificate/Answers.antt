use Rattle.std.proofs.Common.{ap, sym, ◌∙◌}
use Rattle.pending_list.specs.Reply.{digest_of_last}
use Rattle.client_verify.specs.State.{State}
use Rattle.client_verify.proofs.Releasing.{fits_next}
use Rattle.client_verify.proofs.client.Client.certificate.Goals as goal

pub returns-clause-fits : goal.returns-clause-fits
returns-clause-fits g c =
    fits_next c.args.self.now c.user.result c.args.number c.in_ok-last.last c.args.changes.now (c.user.ensures ∙ ap (λ (s : State). s.user) c.self.view_is) c.requires.number
    (c.in_ok-last.ensures.same ∙ ap digest_of_last (c.last.ensures ∙ ap (λ (s : State). s.last) c.self.view_is)) c.cert_text.ensures.fits

-- the client in which room was made is as before

pub returns-clause-over : goal.returns-clause-over
returns-clause-over g c = rw (sym c.make_room.ensures) c.lay_out.ensures.over

pub returns-clause-kept : goal.returns-clause-kept
returns-clause-kept g c = rw (sym c.make_room.ensures) c.lay_out.ensures.kept
