-- What the server keeps, beside the calls themselves: each part of it is a function of the events.
use Rattle.std.specs.Prelude.{List, [], ◌∷◌, ◌++◌, Option, Bool, ◌==◌, ◌&&◌, not, find, filter, filter_map, map}
use Rattle.std.specs.Option.{option_map}
use Rattle.layout.specs.Types.{Bytes, Group, Key, User}
use Rattle.version_order.specs.declared.vector.Component.{Component}
use Rattle.version_order.specs.declared.plan.Entry.{Entry}
use Rattle.version_order.specs.Vector.{version_of, raised, raised_all}
use Rattle.version_order.specs.Plan.{Plan, entry_of}
use Rattle.version_order.specs.Structure.{Structure}
use Rattle.update_cert.specs.Cert.{Cert, digest_of}
use Rattle.update_cert.specs.Tables.{table_after as table_in_turn}
use Rattle.pending_list.specs.declared.signed.Signed.{Signed}
use Rattle.pending_list.specs.Reply.{PendingItem, Reply, reply}
use Rattle.principals.specs.Table.{Table, genesis}
use Rattle.pending_list.specs.Groups.{groups_at}
use Rattle.consistency_server.specs.Event.{Event, Placed, Committed, users, structures}

-- an operation as it was placed, and the text of its reply, which was made then
pub record Placement : Type 0 where
  pub item : PendingItem
  pub reply : Bytes

pub record State : Type 0 where
  -- the table of principals after all operations that were placed
  pub table : Table
  -- the vector of the one that was placed last
  pub vector : List Component
  -- the latest structure of each user, ascending by user
  pub structures : List (Signed Structure)
  -- the operations that are pending, in the order of their placing
  pub pending : List Placement

-- ---- the operation that is placed next

-- The groups that a certificate raises where the operation before it has this vector: who is a member is judged at user
-- 0's number there.
abbrev pub next_groups : Table → List Component → Cert → List Group
next_groups table vector c = groups_at table (version_of 0 vector) c

-- its own vector: one more for its user, and for each group that it raises
abbrev pub next_vector : Table → List Component → Cert → List Component
next_vector table vector c = raised_all (next_groups table vector c) (raised c.user vector)

-- the operation of a user among these
abbrev pub pending_of : User → List Placement → Option Placement
pending_of user ws = find (λ w. w.item.plan.user == user) ws

-- an entry for each of these, ascending by user
abbrev pub entries_of : List Placement → List Entry
entries_of ws = filter_map (λ u. option_map (λ w. entry_of w.item.plan) (pending_of u ws)) users

abbrev pub next_plan : State → Cert → Plan
next_plan state c = record {
  user = c.user;
  number = c.number;
  certificate = digest_of c;
  vector = next_vector state.table state.vector c;
  entries = entries_of state.pending;
}

abbrev pub next_item : State → Signed Cert → PendingItem
next_item state c = record { cert = c.value; signature = c.signature; plan = next_plan state c.value }

-- the reply to it: both lists, with the own item last
abbrev pub next_reply : State → Signed Cert → Reply
next_reply state c = record {
  structures = state.structures;
  pending = map (λ w. w.item) state.pending ++ next_item state c ∷ [];
}

abbrev pub next_placement : State → Signed Cert → Placement
next_placement state c = record { item = next_item state c; reply = reply.spell (next_reply state c) }

-- the table after an operation: its changes of the table in turn, where it is user 0's
abbrev pub after_operation : Cert → Table → Table
after_operation c table = table_in_turn c.user c.number c.changes table

-- ---- after events, the newest first, where this is the key that every client knows

-- the table after all operations that were placed, in the order of their placing
unfoldable pub table_after : Key → List Event → Table
table_after pinned [] = genesis pinned
table_after pinned (Placed c ∷ es) = after_operation c.value (table_after pinned es)
table_after pinned (Committed s ∷ es) = table_after pinned es

-- the vector of the operation that was placed last
unfoldable pub vector_after : Key → List Event → List Component
vector_after pinned [] = []
vector_after pinned (Placed c ∷ es) = next_vector (table_after pinned es) (vector_after pinned es) c.value
vector_after pinned (Committed s ∷ es) = vector_after pinned es

-- what is kept where these operations are pending
abbrev pub with_pending : Key → List Event → List Placement → State
with_pending pinned es ws = record {
  table = table_after pinned es;
  vector = vector_after pinned es;
  structures = structures es;
  pending = ws;
}

-- the structure is that of the operation: of its user and number
abbrev pub commits : Signed Structure → Placement → Bool
commits s w = (s.value.plan.user == w.item.plan.user) && (s.value.plan.number == w.item.plan.number)

-- an operation that is placed is pending after the others, until its structure is committed
unfoldable pub pending_after : Key → List Event → List Placement
pending_after pinned [] = []
pending_after pinned (Placed c ∷ es) =
    pending_after pinned es ++ next_placement (with_pending pinned es (pending_after pinned es)) c ∷ []
pending_after pinned (Committed s ∷ es) = filter (λ w. not (commits s w)) (pending_after pinned es)

abbrev pub state_after : Key → List Event → State
state_after pinned es = with_pending pinned es (pending_after pinned es)
