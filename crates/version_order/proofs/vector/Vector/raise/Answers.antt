use Rattle.version_order.proofs.Raising.{versions_raised, fits_raised}
use Rattle.version_order.proofs.vector.Vector.raise.Goals as goal

pub invariant_of-self : goal.invariant_of-self
invariant_of-self g c =
    fits_raised c.raise.result c.args.principal c.self.inside.components.items c.raise.new.components.items c.get-number.ensures.range
    c.self.invariant c.raise.ensures.ok c.raise.ensures.within c.raise.ensures.err

pub returns-clause-versions : goal.returns-clause-versions
returns-clause-versions g c =
    rw (← c.self.view_is) (versions_raised c.raise.result c.args.principal c.self.inside.components.items c.raise.new.components.items c.raise.ensures.ok)
