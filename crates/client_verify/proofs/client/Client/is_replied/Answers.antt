use Rattle.std.proofs.Common.{ap, refl, subst}
use Rattle.reply_rules.specs.Lists.{lists_of}
use Rattle.client_releases.specs.Told.{IsReleased}
use Rattle.client_verify.specs.State.{known, released}
use Rattle.client_verify.proofs.Declared.{of_declared, own_fits}
use Rattle.client_verify.proofs.client.Client.is_replied.Goals as goal

pub returns-clause-own : goal.returns-clause-own
returns-clause-own g c =
    let old = c.args.self.now in
    of_declared (known old) (released old) c.args.text.now c.args.reply.now refl c.requires.declared (subst IsReleased (ap released c.self.view_is) c.type_invariant.ensures) c.requires.unbroken c.requires.read
    (own_fits (lists_of c.args.reply.now) c.split.result.0.now c.split.result.1.now c.split.ensures c.cert-certificate.ensures.fits)
