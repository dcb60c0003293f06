-- Nobody has to believe this file: an aid of private contracts.
-- What judging a call found: an outcome, and what is kept of a new event.
use Rattle.std.specs.Prelude.{◌≡◌, ◌<◌, List, [], ◌∷◌, ◌++◌, Option, Some, None, map, not, filter}
use Rattle.std.specs.Ordering.{nat_cmp}
use Rattle.layout.specs.Ascending.{with_row}
use Rattle.version_order.specs.declared.vector.Component.{Component}
use Rattle.update_cert.specs.Cert.{cert}
use Rattle.pending_list.specs.Reply.{PendingItem, Reply, user_of}
use Rattle.principals.specs.Table.{Table}
use Rattle.wire.specs.declared.kinds.Status.TheVariants as status
use Rattle.consistency_server.specs.declared.state.NewEvent.{NewEvent}
use Rattle.consistency_server.specs.declared.state.NewEvent.TheVariants.{Places, Commits}
use Rattle.consistency_server.specs.declared.state.Verdict.{Verdict}
use Rattle.consistency_server.specs.declared.state.Verdict.TheVariants as judged
use Rattle.consistency_server.specs.Event.{Event, Placed, Committed}
use Rattle.consistency_server.specs.State.{State, Placement, after_operation, next_vector, pending_of, next_placement, commits}
use Rattle.consistency_server.specs.Answers.{Call, Answer, Outcome, Refused, Repeated, Happens, cert_of}

-- the table that a new event brings, or else the one that is kept
abbrev pub table_or : Option Table → Table → Table
table_or None kept = kept
table_or (Some new) kept = new

-- what is kept after a new event
abbrev pub changed : {A : Type 0} → State → NewEvent A → State
changed state (Places table vector placement) = record {
  table = table_or table state.table;
  vector = vector;
  structures = state.structures;
  pending = state.pending ++ placement ∷ [];
}
changed state (Commits s) = record {
  table = state.table;
  vector = state.vector;
  structures = with_row nat_cmp user_of state.structures s;
  pending = filter (λ w. not (commits s w)) state.pending;
}

-- the reply to an operation that is placed next: both lists, with it last
abbrev pub reply_beside : State → PendingItem → Reply
reply_beside state item = record {
  structures = state.structures;
  pending = map (λ w. w.item) state.pending ++ item ∷ [];
}

-- the event of which this is kept
abbrev pub event_of : {A : Type 0} → NewEvent A → Event
event_of (Places table vector placement) = Placed (cert_of placement.item)
event_of (Commits s) = Committed s

-- it is the next operation, of a user of whom none is pending
pub record IsNext (state : State) (brought : Option Table) (new : List Component) (w : Placement) : Type 0 where
  pub fits : cert.Fits w.item.cert
  pub free : pending_of w.item.cert.user state.pending ≡ None
  pub table : table_or brought state.table ≡ after_operation w.item.cert state.table
  pub vector : new ≡ next_vector state.table state.vector w.item.cert
  pub placement : w ≡ next_placement state (cert_of w.item)

-- the event may come after what is kept
abbrev pub Admits : {A : Type 0} → State → NewEvent A → Type 0
Admits state (Places table vector placement) = IsNext state table vector placement
Admits state (Commits s) = user_of s < 64

-- what was found is this outcome
abbrev pub JudgedAs : {A : Type 0} → State → Verdict A → Outcome → Type 0
JudgedAs state (judged.Refused s) o = o ≡ Refused s
JudgedAs state (judged.Repeated text) o = o ≡ Repeated text
JudgedAs state (judged.Happens new text) o = (o ≡ Happens (event_of new) text) × Admits state new

-- what was found may happen
abbrev pub MayHappen : {A : Type 0} → State → Verdict A → Type 0
MayHappen state (judged.Refused s) = Unit {0}
MayHappen state (judged.Repeated text) = Unit {0}
MayHappen state (judged.Happens new text) = Admits state new

-- what is kept after a call
abbrev pub state_after : {A : Type 0} → State → Verdict A → State
state_after state (judged.Refused s) = state
state_after state (judged.Repeated text) = state
state_after state (judged.Happens new text) = changed state new

-- the answer
abbrev pub answer_by : {A : Type 0} → Verdict A → Answer
answer_by (judged.Refused s) = record { status = s; payload = [] }
answer_by (judged.Repeated text) = record { status = status.Ok; payload = text }
answer_by (judged.Happens new text) = record { status = status.Ok; payload = text }

-- what goes to the log
abbrev pub logged_by : {A : Type 0} → Verdict A → Call → List Call
logged_by (judged.Refused s) call = []
logged_by (judged.Repeated text) call = []
logged_by (judged.Happens new text) call = call ∷ []
