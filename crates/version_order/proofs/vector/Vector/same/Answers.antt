use Rattle.std.proofs.Common.{◌≡◌, Decides, rules}
use Rattle.std.proofs.lemmas.Slice.Eq.{slice_eq-Decides}
use Rattle.version_order.specs.declared.vector.Component.{Component}
use Rattle.version_order.specs.contracts.vector.ComponentPartialEq.TheImpl.{eq-value}
use Rattle.version_order.proofs.vector.Vector.same.Goals as goal

component_same : (a b : Component) → Decides (eq-value.it a b) (a ≡ b)
component_same a b = search rules

pub returns : goal.returns
returns g c =
    let same = slice_eq-Decides component_same c.as_slice.result.now c.as_slice-2.result.now c.eq.result c.eq.ensures in
    rw (← c.self.view_is, ← c.other.view_is, ← c.as_slice.ensures.value, ← c.as_slice-2.ensures.value) same
