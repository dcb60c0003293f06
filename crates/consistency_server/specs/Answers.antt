-- What a call is answered where this is kept: the first that applies.
use Rattle.std.specs.Prelude.{◌+◌, List, [], ◌∷◌, Option, Some, None, is_some, Result, Ok, Err, Bool, false, ◌==◌, ◌&&◌, not, find, if◌then◌else◌}
use Rattle.std.specs.List.{list_any}
use Rattle.std.specs.Option.{option_map_or}
use Rattle.std.specs.Str.{bytes_eq}
use Rattle.layout.specs.declared.error.ReadError.{ReadError}
use Rattle.layout.specs.Format.{whole}
use Rattle.layout.specs.Types.{Bytes, Key, User}
use Rattle.lms_sign.specs.Signature.{valid}
use Rattle.version_order.specs.Vector.{version_of, can_raise_all}
use Rattle.version_order.specs.Structure.{Structure, structure}
use Rattle.version_order.specs.Plan.{Plan, plan}
use Rattle.update_cert.specs.Cert.{Cert, cert}
use Rattle.pending_list.specs.declared.signed.Signed.{Signed}
use Rattle.pending_list.specs.Signed.{signed}
use Rattle.pending_list.specs.Reply.{PendingItem, digest_of_last, reply}
use Rattle.principals.specs.Table.{Table, key_at, key_of, lists_user}
use Rattle.wire.specs.declared.kinds.Status.{Status}
use Rattle.wire.specs.declared.kinds.Status.TheVariants as status
use Rattle.consistency_server.specs.declared.call.CallKind.{CallKind}
use Rattle.consistency_server.specs.declared.call.CallKind.TheVariants.{Update, Commit}
use Rattle.consistency_server.specs.Event.{Event, Placed, Committed}
use Rattle.consistency_server.specs.State.{State, Placement, next_groups, pending_of, next_reply}

-- a call, and the signed text that came with it
pub record Call : Type 0 where
  pub kind : CallKind
  pub text : Bytes

-- a status, and what comes with status 0
pub record Answer : Type 0 where
  pub status : Status
  pub payload : Bytes

-- what a call leads to: a refusal, the same answer as before, or an event
pub data Outcome : Type 0 where
  Refused : Status → Outcome
  Repeated : Bytes → Outcome
  Happens : Event → Bytes → Outcome

-- the structure that a user committed last
abbrev pub structure_of : User → State → Option (Signed Structure)
structure_of user state = find (λ s. s.value.plan.user == user) state.structures

-- ---- UPDATE

-- the certificate of an item, with its signature
abbrev pub cert_of : PendingItem → Signed Cert
cert_of i = record { value = i.cert; signature = i.signature }

-- the certificate is the operation's, byte for byte
abbrev pub same_cert : Signed Cert → Placement → Bool
same_cert c w = bytes_eq ((signed cert).spell c) ((signed cert).spell (cert_of w.item))

-- it is the user's next operation, no other of the user's is pending, and it names the user's last structure
abbrev pub is_next : State → Cert → Bool
is_next state c =
    (c.number == version_of c.user state.vector + 1)
    && (not (is_some (pending_of c.user state.pending)) && bytes_eq c.last (digest_of_last (structure_of c.user state)))

-- the version of a principal that it raises could grow no further
abbrev pub at_limit : State → Cert → Bool
at_limit state c = not (can_raise_all (c.user ∷ next_groups state.table state.vector c) state.vector)

-- what a certificate leads to that isn't pending, and that its user signed
abbrev pub placing : State → Signed Cert → Outcome
placing state c =
    if not (is_next state c.value) then Refused status.WrongNumber
    else if at_limit state c.value then Refused status.TooLarge
    else Happens (Placed c) (reply.spell (next_reply state c))

-- it is judged by the key of its user that came last
abbrev pub verified_update : State → Signed Cert → Option Key → Outcome
verified_update state c None = Refused status.UnknownUser
verified_update state c (Some key) = if valid key (cert.spell c.value) c.signature then placing state c
    else Refused status.BadSignature

-- what a certificate leads to, beside the operation that is pending with it, if there is one: before anything else that
-- one's reply comes again
abbrev pub update_beside : Option Placement → State → Signed Cert → Outcome
update_beside (Some w) state c = Repeated w.reply
update_beside None state c = verified_update state c (key_of c.value.user state.table)

abbrev pub read_update : State → Result (Signed Cert) ReadError → Outcome
read_update state (Err e) = Refused status.Form
read_update state (Ok c) = update_beside (find (same_cert c) state.pending) state c

-- ---- COMMIT

abbrev pub same_structure : Signed Structure → Signed Structure → Bool
same_structure s t = bytes_eq ((signed structure).spell s) ((signed structure).spell t)

-- the plan is the operation's
abbrev pub same_plan : Plan → Placement → Bool
same_plan p w = bytes_eq (plan.spell p) (plan.spell w.item.plan)

-- an operation of its plan is pending
abbrev pub is_pending : State → Structure → Bool
is_pending state s = list_any (same_plan s.plan) state.pending

abbrev pub committing : State → Signed Structure → Outcome
committing state s =
    if option_map_or (same_structure s) (structure_of s.value.plan.user state) false then Repeated []
    else if is_pending state s.value then Happens (Committed s) []
    else Refused status.NotPending

-- a structure verifies under the key that its user has at its plan's version of user 0
abbrev pub verifies : Table → Signed Structure → Bool
verifies table s = option_map_or (λ key. valid key (structure.spell s.value) s.signature)
    (key_at s.value.plan.user (version_of 0 s.value.plan.vector) table) false

abbrev pub read_commit : State → Result (Signed Structure) ReadError → Outcome
read_commit state (Err e) = Refused status.Form
read_commit state (Ok s) =
    if not (lists_user state.table s.value.plan.user) then Refused status.UnknownUser
    else if not (verifies state.table s) then Refused status.BadSignature
    else committing state s

-- ---- calls

abbrev pub by_kind : State → Bytes → CallKind → Outcome
by_kind state text Update = read_update state (whole (signed cert) text)
by_kind state text Commit = read_commit state (whole (signed structure) text)

unfoldable pub outcome_of : State → Call → Outcome
outcome_of state call = by_kind state call.text call.kind

abbrev pub answer : Outcome → Answer
answer (Refused s) = record { status = s; payload = [] }
answer (Repeated text) = record { status = status.Ok; payload = text }
answer (Happens e text) = record { status = status.Ok; payload = text }

abbrev pub happened : Outcome → List Event
happened (Refused s) = []
happened (Repeated text) = []
happened (Happens e text) = e ∷ []
