-- Nobody has to believe this file: laws, which are proved.
-- Vectors: what is read is spelled so, what fits and is spelled so is read, and how long it is at most.
use Rattle.std.proofs.Common.{arith}
use Rattle.std.specs.Prelude.{Option}
use Rattle.std.specs.Int.{w8, w32}
use Rattle.layout.specs.Laws.{laws, in_range, wide8, wide32}
use Rattle.layout.specs.Format.{Lawful}
use Rattle.layout.specs.Ranges.{principal}
use Rattle.layout.specs.AscendingKeys.{keys_ascend}
use Rattle.layout.specs.Sizes.{AtMost, KeysAscend, at_most_ascending, at_most_mapped, at_most_pair, at_most_guarded, at_most_uint_in}
use Rattle.version_order.specs.declared.vector.Component.{Component}
use Rattle.version_order.specs.Vector.{principal_of, component, vector, depth}

pub lawful_component : (before : Option Component) → Lawful (component before)
lawful_component before = search laws depth 9

pub lawful_vector : Lawful vector
lawful_vector = search (laws, lawful_component)

-- ---- sizes

pub components_ascend : KeysAscend component principal_of 0 96
components_ascend = keys_ascend component principal_of 0 96 (λ b c fits.
    let range = in_range w8 0 95 c.principal fits.0.0 in
    (fits.0.1, (omega arith, omega (arith, range.1))))

at_most_component : (b : Option Component) → AtMost (component b) 5
at_most_component b =
    at_most_mapped _ _ _ 5
    (at_most_pair _ _ 1 4 (at_most_guarded _ _ _ 1 (at_most_uint_in w8 0 95 wide8)) (at_most_uint_in w32 1 4294967295 wide32))

pub at_most_vector : AtMost vector 481
at_most_vector = at_most_ascending w8 255 component principal_of 0 96 5 wide8 components_ascend at_most_component
