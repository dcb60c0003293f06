use Rattle.std.proofs.Common.{◌≡◌, ◌∙◌, List, ap}
use Rattle.std.specs.List.{position}
use Rattle.client_releases.specs.OwnKeys.{OwnKey, secrets_of}
use Rattle.client_releases.specs.Told.{Released, has_public}
use Rattle.client_releases.proofs.Numbers.{number_in}
use Rattle.client_releases.proofs.releases.Releases.key_number.Goals as goal

pub returns : goal.returns
returns g c =
    let key = c.args.public.now in
    let same = ap (λ (own : List OwnKey). position (has_public key) (secrets_of own)) c.deref.ensures.value in
    c.number_of.ensures ∙ number_in key c.deref.result.now ∙ same ∙ ap (λ (r : Released). position (has_public key) r.secrets) c.self.view_is
