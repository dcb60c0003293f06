-- Vectors: a version for each principal that has one, ascending by principal. One that isn't listed has version 0.
-- The bytes stand in docs/FORMATS.md.
use Rattle.std.specs.Prelude.{ℕ, ◌+◌, Bool, true, List, [], ◌∷◌, ◌&&◌, nat_lt, nat_le, sum_by, if◌then◌else◌}
use Rattle.std.specs.Int.{w8}
use Rattle.std.specs.List.{list_all}
use Rattle.std.specs.Option.{option_map_or}
use Rattle.std.specs.Ordering.{nat_cmp}
use Rattle.layout.specs.Types.{Principal, Version}
use Rattle.layout.specs.Format.{Format, RowAfter, uint_in, pair, guarded, mapped, listed}
use Rattle.layout.specs.Ranges.{principal, version}
use Rattle.layout.specs.Ascending.{above, row_at, with_row}
use Rattle.layout.specs.declared.error.ReadError.TheVariants.{Order}
use Rattle.version_order.specs.declared.vector.Component.{Component}

-- the key by which components ascend
abbrev pub principal_of : Component → Principal
principal_of c = c.principal

abbrev pub component : RowAfter Component
component before =
    mapped (λ (principal, version). record { principal = principal; version = version }) (λ c. (c.principal, c.version))
    (pair (guarded principal (above nat_cmp principal_of before) Order) version)

abbrev pub vector : Format (List Component)
vector = listed (uint_in w8 0 255) component

-- the version of a principal
abbrev pub version_of : Principal → List Component → Version
version_of p v = option_map_or (λ c. c.version) (row_at nat_cmp principal_of v p) 0

-- the vector with one more at a principal
abbrev pub raised : Principal → List Component → List Component
raised p v = with_row nat_cmp principal_of v (record { principal = p; version = version_of p v + 1 })

-- the vector with one more at each of these principals
abbrev pub raised_all : List Principal → List Component → List Component
raised_all [] v = v
raised_all (p ∷ ps) v = raised_all ps (raised p v)

-- no version would pass the last one
abbrev pub can_raise_all : List Principal → List Component → Bool
can_raise_all [] v = true
can_raise_all (p ∷ ps) v = nat_lt (version_of p v) 4294967295 && can_raise_all ps (raised p v)

-- what a component adds to the depth: its version, where it is a user's
abbrev pub user_version : Component → ℕ
user_version c = if nat_lt c.principal 64 then c.version else 0

-- the sum over users
abbrev pub depth : List Component → ℕ
depth v = sum_by user_version v

-- no component of the first is greater than the second's
abbrev pub is_below : List Component → List Component → Bool
is_below v w = list_all (λ c. nat_le c.version (version_of c.principal w)) v
