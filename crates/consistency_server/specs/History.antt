-- Histories: the calls that the server answered otherwise than busy or out of memory. The newest call is the first.
use Rattle.std.specs.Prelude.{◌≡◌, Bool, true, false, List, [], ◌∷◌, ◌++◌, Vec, map, reverse}
use Rattle.std.specs.declared.snapshot.Snapshot.{Snapshot}
use Rattle.layout.specs.Types.{Bytes, Key}
use Rattle.wire.specs.declared.kinds.Status.{Status}
use Rattle.wire.specs.declared.kinds.Status.TheVariants.{Ok, Form, UnknownUser, BadSignature, WrongNumber, NotPending, Busy, TooLarge, Absent, Memory}
use Rattle.consistency_server.specs.declared.call.CallKind.{CallKind}
use Rattle.consistency_server.specs.declared.call.CallKind.TheVariants.{Update, Commit}
use Rattle.consistency_server.specs.Event.{Event}
use Rattle.consistency_server.specs.State.{State, state_after}
use Rattle.consistency_server.specs.Answers.{Call, Answer, Outcome, outcome_of, answer, happened}

-- a server without where it lies in memory: user 0's key, and the calls that it answered
pub record Ordered : Type 0 where
  pub pinned : Key
  pub history : List Call

-- the calls of which a server keeps snapshots, the oldest first: the newest one first
abbrev pub calls_of : {A : Type 0} → Vec (Snapshot Call) A → List Call
calls_of past = reverse (map (λ s. s.value) past.items)

abbrev pub call_of : CallKind → Bytes → Call
call_of kind text = record { kind = kind; text = text }

abbrev pub update_of : Bytes → Call
update_of text = call_of Update text

abbrev pub commit_of : Bytes → Call
commit_of text = call_of Commit text

-- what the calls placed and committed, where this is the key that every client knows
unfoldable pub events : Key → List Call → List Event
events pinned [] = []
events pinned (call ∷ earlier) = happened (outcome_of (state_after pinned (events pinned earlier)) call)
    ++ events pinned earlier

-- what the server keeps after a history
abbrev pub kept : Key → List Call → State
kept pinned history = state_after pinned (events pinned history)

-- what a call leads to after a history
abbrev pub outcome_after : Ordered → Call → Outcome
outcome_after server call = outcome_of (kept server.pinned server.history) call

-- what a call is answered after a history, want of memory and a full log aside
abbrev pub answer_of : Key → List Call → Call → Answer
answer_of pinned history call = answer (outcome_of (kept pinned history) call)

-- a call of this answer was carried out, and else the log was full or memory ran out
abbrev pub is_carried_out : Status → Bool
is_carried_out Ok = true
is_carried_out Form = true
is_carried_out UnknownUser = true
is_carried_out BadSignature = true
is_carried_out WrongNumber = true
is_carried_out NotPending = true
is_carried_out Busy = false
is_carried_out TooLarge = true
is_carried_out Absent = true
is_carried_out Memory = false

-- this holds if the call of the answer was carried out
abbrev pub IfCarriedOut : Answer → Type 0 → Type 0
IfCarriedOut a X = is_carried_out a.status ≡ true → X

-- and this if it wasn't
abbrev pub IfNotCarriedOut : Answer → Type 0 → Type 0
IfNotCarriedOut a X = is_carried_out a.status ≡ false → X

-- what of a call goes to the log: the call itself, where it placed or committed
abbrev pub logged_of : List Event → Call → List Call
logged_of [] call = []
logged_of (e ∷ es) call = call ∷ []

abbrev pub logged : Ordered → Call → List Call
logged server call = logged_of (happened (outcome_after server call)) call

-- what a history leaves in the log: its calls that placed or committed, the oldest first
unfoldable pub log_of : Key → List Call → List Call
log_of pinned [] = []
log_of pinned (call ∷ earlier) = log_of pinned earlier ++ logged (record { pinned = pinned; history = earlier }) call
