use Rattle.std.proofs.Common.{◌≡◌, refl, sym, ap, subst, ◌∙◌}
use Rattle.update_cert.specs.Reading.{void_of_read}
use Rattle.tree_parts.specs.Part.{IsPartOf, Part, slot_at}
use Rattle.tree_parts.specs.Slots.{slot_after}
use Rattle.tree_parts.specs.Asked.{HasAskedFor}
use Rattle.tree_parts.specs.declared.scope.Scope.TheVariants as scopes
use Rattle.tree_parts.proofs.applying.apply.Goals as goal

pub returns-clause-part : goal.returns-clause-part
returns-clause-part g c = λ reads agrees tree actor is of one.
    let same : c.in_ok-copy.copy ≡ c.args.part.now = c.in_ok-copy.ensures in
    rw c.put_in.ensures (c.in_ok-made.ensures.part reads agrees tree actor refl (subst (λ (p : Part). IsPartOf reads p tree) (sym same) is) of (ap (λ (p : Part). actor.member p.table.principal) same ∙ one))

pub returns-clause-voids : goal.returns-clause-voids
returns-clause-voids g c = λ reads agrees tree actor is of one.
    let same : c.in_ok-copy.copy ≡ c.args.part.now = c.in_ok-copy.ensures in
    c.in_ok-made.ensures.voids reads agrees tree actor refl (subst (λ (p : Part). IsPartOf reads p tree) (sym same) is) of (ap (λ (p : Part). actor.member p.table.principal) same ∙ one)
    ∙ ap (λ (p : Part). void_of_read reads actor p.table.principal c.args.cert.now.changes tree) same

pub returns-clause-slots : goal.returns-clause-slots
returns-clause-slots g c = λ reads agrees actor of one i.
    let same : c.in_ok-copy.copy ≡ c.args.part.now = c.in_ok-copy.ensures in
    rw c.put_in.ensures
    (c.in_ok-made.ensures.slots reads agrees actor of (ap (λ (p : Part). actor.member p.table.principal) same ∙ one) i
    ∙ ap (λ (p : Part). slot_after reads actor p.table.principal i c.args.cert.now.changes (slot_at reads p i)) same)

pub returns-clause-taken : goal.returns-clause-taken
returns-clause-taken g c = λ actor of one.
    let same : c.in_ok-copy.copy ≡ c.args.part.now = c.in_ok-copy.ensures in
    subst (λ (p : Part). HasAskedFor (g.B.Blocks.held c.args.blocks.now) scopes.All actor c.args.cert.now.changes p) same
    (c.in_ok-made.ensures.taken actor of (ap (λ (p : Part). actor.member p.table.principal) same ∙ one))
