-- The operations that a server places, in order, and the reply to each.
use Rattle.std.specs.Prelude.{◌≡◌, List, ◌∷◌, ◌++◌, Option, Some, None, map, reverse, filter_map}
use Rattle.layout.specs.Types.{Key}
use Rattle.update_cert.specs.Cert.{Cert}
use Rattle.pending_list.specs.declared.signed.Signed.{Signed}
use Rattle.principals.specs.Table.{Table}
use Rattle.reply_rules.specs.Lists.{Lists}
use Rattle.consistency_server.specs.Event.{Event, Placed, Committed}
use Rattle.consistency_server.specs.State.{next_item, state_after, table_after}
use Rattle.consistency_server.specs.Answers.{Call}
use Rattle.consistency_server.specs.History.{events}

-- ---- operations

-- the certificate of the operation that an event places
abbrev pub as_placed : Event → Option Cert
as_placed (Placed c) = Some c.value
as_placed (Committed s) = None

-- the operations that were placed, in the order of their placing
abbrev pub placed_by : List Event → List Cert
placed_by es = reverse (filter_map as_placed es)

abbrev pub placed : Key → List Call → List Cert
placed pinned history = placed_by (events pinned history)

-- ---- replies

-- these events happened first of those, of which the newest is the first
abbrev pub IsSince : List Event → List Event → Type 0
IsSince first es = (later : List Event) × (es ≡ later ++ first)

-- the lists of the reply to an operation that is placed after these events
abbrev pub lists_to : Key → List Event → Signed Cert → Lists
lists_to pinned es c =
    record {
      structures = (state_after pinned es).structures;
      others = map (λ w. w.item) (state_after pinned es).pending;
      own = next_item (state_after pinned es) c;
    }

-- the table of principals after it
abbrev pub table_to : Key → List Event → Signed Cert → Table
table_to pinned es c = table_after pinned (Placed c ∷ es)
