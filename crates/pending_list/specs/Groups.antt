-- The groups that an operation raises.
use Rattle.std.specs.Prelude.{ℕ, zero, suc, ◌+◌, ◌-◌, List, [], ◌∷◌, ◌++◌, Bool, ◌&&◌, filter, if◌then◌else◌, ◌==◌}
use Rattle.std.specs.List.{list_any}
use Rattle.layout.specs.Types.{Group, Version}
use Rattle.version_order.specs.Vector.{version_of}
use Rattle.version_order.specs.Plan.{Plan}
use Rattle.update_cert.specs.Change.{Change}
use Rattle.update_cert.specs.Cert.{Cert}
use Rattle.pending_list.specs.Reply.{PendingItem}
use Rattle.principals.specs.Table.{Table, is_member}

-- the n groups from 64 on, ascending
unfoldable pub groups_below : ℕ → List Group
groups_below zero = []
groups_below (suc n) = groups_below n ++ (n + 64) ∷ []

-- the groups, 64 to 95
abbrev pub groups : List Group
groups = groups_below 32

-- the change is of the group; the target of a Link doesn't count
abbrev pub touches : {C : Type 0} → Group → Change C → Bool
touches g c = c.principal == g

-- the certificate raises the group, where membership is judged at this version of the table: a change of it is of the
-- group, and its user is a member; whether the change fits doesn't matter
abbrev pub raises_at : Table → Version → Cert → Group → Bool
raises_at t version c g = list_any (touches g) c.changes && is_member t g c.user version

-- the groups that the certificate raises, ascending
abbrev pub groups_at : Table → Version → Cert → List Group
groups_at t version c = filter (raises_at t version c) groups

-- user 0's number before the operation
abbrev pub table_version : Plan → Version
table_version p = if p.user == 0 then version_of 0 p.vector - 1 else version_of 0 p.vector

-- the groups that a pending operation raises, ascending
abbrev pub raised_groups : Table → PendingItem → List Group
raised_groups t i = groups_at t (table_version i.plan) i.cert

-- the operation raises the group
abbrev pub raises : Table → Group → PendingItem → Bool
raises t g i = list_any (λ h. h == g) (raised_groups t i)
