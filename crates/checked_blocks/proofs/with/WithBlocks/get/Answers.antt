use Rattle.std.proofs.Common.{◌≡◌, sym, ap, ◌∙◌, rules}
use Rattle.std.specs.Option.{option_copied}
use Rattle.layout.specs.Hash.{hash}
use Rattle.checked_blocks.proofs.BlockLaws.{with_old, with_new, with_none}
use Rattle.checked_blocks.proofs.with.WithBlocks.get.Goals as goal

pub returns-in-Some-clause-text : goal.returns-in-Some-clause-text
returns-in-Some-clause-text g c =
    rw (← c.self.view_is) (with_old c.self.inside.known.now c.self.inside.text.now c.args.digest c.in-Some.text.now (sym c.get.ensures.text ∙ ap option_copied c.in-Some.is))

pub returns-in-Some-clause-hashed : goal.returns-in-Some-clause-hashed
returns-in-Some-clause-hashed g c =
    let found = sym c.get.ensures.text ∙ ap option_copied c.in-Some.is in
    let is = with_old c.self.inside.known.now c.self.inside.text.now c.args.digest c.in-Some.text.now found in
    rw (← c.self.view_is) (rw (← is) (rw found at c.get.ensures.hashed))

pub returns-in-None-clause-text : goal.returns-in-None-clause-text
returns-in-None-clause-text g c =
    let same : c.args.digest ≡ hash c.self.inside.text.now = (let is : c.args.digest ≡ c.self.inside.digest = search rules in is ∙ c.self.invariant) in
    rw (← c.self.view_is) (with_new c.self.inside.known.now c.self.inside.text.now c.args.digest (sym c.get.ensures.text ∙ ap option_copied c.in-None.is) same)

pub returns-in-None-clause-hashed : goal.returns-in-None-clause-hashed
returns-in-None-clause-hashed g c =
    let same : c.args.digest ≡ hash c.self.inside.text.now = (let is : c.args.digest ≡ c.self.inside.digest = search rules in is ∙ c.self.invariant) in
    let is = with_new c.self.inside.known.now c.self.inside.text.now c.args.digest (sym c.get.ensures.text ∙ ap option_copied c.in-None.is) same in
    rw (← c.self.view_is) (rw (← is) (sym same))

pub returns-in-None-2-clause-text : goal.returns-in-None-2-clause-text
returns-in-None-2-clause-text g c =
    let other : c.args.digest ≡ hash c.self.inside.text.now → ⊥ = (λ is. search rules) in
    rw (← c.self.view_is) (with_none c.self.inside.known.now c.self.inside.text.now c.args.digest (sym c.get.ensures.text ∙ ap option_copied c.in-None.is) other)

pub returns-in-None-2-clause-hashed : goal.returns-in-None-2-clause-hashed
returns-in-None-2-clause-hashed g c =
    let other : c.args.digest ≡ hash c.self.inside.text.now → ⊥ = (λ is. search rules) in
    let is = with_none c.self.inside.known.now c.self.inside.text.now c.args.digest (sym c.get.ensures.text ∙ ap option_copied c.in-None.is) other in
    rw (← c.self.view_is) (rw (← is) tt)
