use Rattle.std.proofs.Common.{rules, ◌≡◌, [], refl, ◌∙◌}
use Rattle.update_cert.specs.Cert.{Cert, cert}
use Rattle.tests_releases.proofs.resigns.certificate.Goals as goal

pub returns : goal.returns
returns g c =
    let w : Cert = record { user = c.args.user; number = c.args.number; last = c.args.last; changes = [] } in
    let first : c.expect-text.result.items ≡ cert.spell w = search rules in
    let second : c.expect.result ≡ c.expect-text.result.items = search rules in (w, second ∙ first, c.cert_text.ensures.fits, refl, refl)
