use Rattle.std.proofs.Common.{◌≡◌, ap, arith, refl, subst, sym}
use Rattle.std.proofs.lemmas.Grind.{common_steps}
use Rattle.layout.specs.Ranges.{last_version}
use Rattle.client_releases.specs.Told.{HasKey, IsKeyUsedUp, Released}
use Rattle.client_verify.specs.State.{newest_key, released}
use Rattle.client_verify.proofs.Releasing.{no_full}
use Rattle.client_verify.proofs.client.Client.next_number.Goals as goal

pub has_free_leaf-requires-clause-key : goal.has_free_leaf-requires-clause-key
has_free_leaf-requires-clause-key g c = subst (λ (o : Released). HasKey c.newest_key.result o) (sym (ap released c.self.view_is)) c.newest_key.ensures.has

pub returns-in-None-clause-no_leaf : goal.returns-in-None-clause-no_leaf
returns-in-None-clause-no_leaf g c =
    let free : IsKeyUsedUp (newest_key c.args.self.now) (released c.args.self.now) → ⊥ = rw (sym c.newest_key.ensures.number) (no_full c.newest_key.result c.self.inside.releases (released c.args.self.now) c.has_free_leaf.result (ap released c.self.view_is) c.has_free_leaf.ensures c.if-not-has_free_leaf.false) in
    (λ is. absurd (cc is), λ full. absurd (free full))

pub returns-in-None-clause-no_number : goal.returns-in-None-clause-no_number
returns-in-None-clause-no_number g c =
    let free : IsKeyUsedUp (newest_key c.args.self.now) (released c.args.self.now) → ⊥ = rw (sym c.newest_key.ensures.number) (no_full c.newest_key.result c.self.inside.releases (released c.args.self.now) c.has_free_leaf.result (ap released c.self.view_is) c.has_free_leaf.ensures c.if-not-has_free_leaf.false) in
    let last : c.args.self.now.number ≡ last_version = grind (arith, common_steps) in
    (λ _. (last, free), λ _. refl)
