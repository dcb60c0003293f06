use Rattle.std.proofs.Common.{ap, ◌∙◌}
use Rattle.layout.specs.Types.{Bytes}
use Rattle.client_verify.specs.State.{State, declaring_key, newest_signer, released}
use Rattle.client_verify.proofs.client.Client.declared_by.Goals as goal

pub returns : goal.returns
unfolding declaring_key
returns g c =
    let r = c.self.inside.releases in
    c.newest_signer.ensures ∙ ap (λ (text : Bytes). newest_signer text r) c.text.ensures
    ∙ ap (λ (s : State). newest_signer s.text (released s)) c.self.view_is
