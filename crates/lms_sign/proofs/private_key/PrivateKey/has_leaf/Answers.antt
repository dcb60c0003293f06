use Rattle.std.proofs.Common.{ℕ, List, [], slice_index_or, refl, ap, ◌∙◌, subst}
use Rattle.lms_sign.specs.Secret.{HasLeaf, Secret}
use Rattle.lms_sign.proofs.Drawn.{drawn_has}
use Rattle.lms_sign.proofs.private_key.PrivateKey.has_leaf.Goals as goal

pub returns-then-self : goal.returns-then-self
returns-then-self g c =
    let key = c.self.inside in
    let leaf : ℕ = c.args.leaf in (
      λ is. subst (λ (s : Secret). HasLeaf s leaf) c.self.view_is (ap (λ (l : List (List ℕ)). slice_index_or l leaf []) (c.self.invariant.1 c.if-self.true) ∙ drawn_has key.seed key.id leaf c.requires),
      λ has. refl,
    )
