-- What honest clients sign over the replies of a server.
use Rattle.std.specs.Prelude.{◌≡◌, ◌⊎◌, true, false, List, [], ◌∷◌, Option}
use Rattle.std.specs.List.{Contains}
use Rattle.std.specs.Option.{option_map_or}
use Rattle.layout.specs.Types.{Group, Handle, Key, Version}
use Rattle.version_order.specs.declared.structure.GroupRecord.{GroupRecord}
use Rattle.version_order.specs.Structure.{Structure}
use Rattle.version_order.specs.Vector.{version_of}
use Rattle.update_cert.specs.Cert.{Cert}
use Rattle.pending_list.specs.declared.signed.Signed.{Signed}
use Rattle.pending_list.specs.Groups.{raises, table_version}
use Rattle.pending_list.specs.Reply.{PendingItem}
use Rattle.principals.specs.Table.{Table}
use Rattle.reply_rules.specs.Lists.{Lists}
use Rattle.consistency_server.specs.Event.{Event, Placed, Committed, last_of}
use Rattle.consistency_server.specs.State.{next_placement, pending_after, state_after, table_after}
use Rattle.honest_history.specs.Placed.{IsSince, lists_to, table_to}

-- a handle of user 0's, and the table of principals that it names
pub record NamedTable : Type 0 where
  pub handle : Handle
  pub table : Table

-- the handles that name tables
abbrev pub Naming : Type 0
Naming = List NamedTable

-- this handle names this table
abbrev pub Names : Naming → Handle → Table → Type 0
Names naming h t = Contains naming (record { handle = h; table = t })

-- the number of a last structure, 0 where there is none
abbrev pub number_in : Option (Signed Structure) → Version
number_in last = option_map_or (λ z. z.value.plan.number) last 0

-- its records of groups
abbrev pub records_in : Option (Signed Structure) → List GroupRecord
records_in last = option_map_or (λ z. z.value.groups) last []

-- the record is a new one, of a group that the operation raises
pub record IsNew (t : Table) (own : PendingItem) (r : GroupRecord) : Type 0 where
  pub raised : raises t r.group own ≡ true
  pub version : r.version ≡ version_of r.group own.plan.vector
  pub table : r.table ≡ table_version own.plan

-- The structure is one that an honest client signs over the lists of a reply, where it signed this structure last, and
-- this is the table of principals after the pending operations.
pub record SignsOver (naming : Naming) (t : Table) (last : Option (Signed Structure)) (x : Lists) (z : Structure)
    : Type 0 where
  pub plan : z.plan ≡ x.own.plan
  -- user 0's handle names the table
  pub handle : x.own.plan.user ≡ 0 → Names naming z.handle t
  -- each record is a new one, or carried on
  pub records : (r : GroupRecord) → Contains z.groups r → IsNew t x.own r ⊎ Contains (records_in last) r
  -- there is a new one of each group that the operation raises
  pub raised : (g : Group) → raises t g x.own ≡ true
      → (r : GroupRecord) × Contains z.groups r × (r.group ≡ g) × IsNew t x.own r
  -- and each other one is carried on
  pub carried : (r : GroupRecord) → Contains (records_in last) r → raises t r.group x.own ≡ false
      → Contains z.groups r

-- The structure is one that an honest client signs over the reply to its own operation, which was placed after the
-- earlier ones of these events, and is pending after all of them.
pub record IsHonest (naming : Naming) (pinned : Key) (es : List Event) (z : Structure) : Type 0 where
  pub earlier : List Event
  pub cert : Signed Cert
  pub since : IsSince (Placed cert ∷ earlier) es
  pub pending : Contains (pending_after pinned es) (next_placement (state_after pinned earlier) cert)
  pub over : SignsOver naming (table_to pinned earlier cert) (last_of cert.value.user earlier)
      (lists_to pinned earlier cert) z

-- so is each structure that was committed
abbrev pub AreHonest : Naming → Key → List Event → Type 0
AreHonest naming pinned [] = Unit {0}
AreHonest naming pinned (Placed c ∷ es) = AreHonest naming pinned es
AreHonest naming pinned (Committed z ∷ es) = IsHonest naming pinned es z.value × AreHonest naming pinned es
