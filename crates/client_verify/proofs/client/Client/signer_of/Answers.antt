use Rattle.std.proofs.Common.{◌≡◌, ◌∙◌, Some, ap, sym}
use Rattle.client_verify.specs.Progress.{accepted_of}
use Rattle.client_verify.specs.State.{State}
use Rattle.client_verify.proofs.Releasing.{signer_found, signer_lacks}
use Rattle.client_verify.proofs.client.Client.signer_of.Goals as goal

pub returns-in-Some-clause-signer : goal.returns-in-Some-clause-signer
returns-in-Some-clause-signer g c =
    let s = c.args.self.now in
    let y = c.in-Accepted.ready in
    let there : s.accepted ≡ Some y = ap (λ (q : State). q.accepted) (sym c.self.view_is) ∙ ap accepted_of c.in-Accepted.is in
    signer_found s s.accepted y c.user.result c.self.inside.pinned c.in-Some.key c.self.inside.releases.secrets c.key_number.result there (c.user.ensures ∙ ap (λ (q : State). q.user) c.self.view_is) (ap (λ (q : State). q.pinned) c.self.view_is) (ap (λ (q : State). q.secrets) c.self.view_is)
    c.in-Some.ensures c.key_number.ensures

pub returns-in-None-clause-signer : goal.returns-in-None-clause-signer
returns-in-None-clause-signer g c =
    let s = c.args.self.now in
    let y = c.in-Accepted.ready in
    let there : s.accepted ≡ Some y = ap (λ (q : State). q.accepted) (sym c.self.view_is) ∙ ap accepted_of c.in-Accepted.is in
    signer_lacks s s.accepted y c.user.result c.self.inside.pinned there (c.user.ensures ∙ ap (λ (q : State). q.user) c.self.view_is) (ap (λ (q : State). q.pinned) c.self.view_is) c.in-None.ensures
