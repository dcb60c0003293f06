-- How the server answers the calls of clients in honest runs.
use Rattle.std.specs.Prelude.{◌≡◌, Bool, true, false, List, [], ◌∷◌, IfSome}
use Rattle.layout.specs.Types.{Bytes, Key, User}
use Rattle.principals.specs.Table.{lists_user}
use Rattle.update_cert.specs.Cert.{Cert, cert}
use Rattle.pending_list.specs.declared.signed.Signed.{Signed}
use Rattle.pending_list.specs.Signed.{signed}
use Rattle.wire.specs.declared.kinds.Status.{Status}
use Rattle.wire.specs.declared.kinds.Status.TheVariants as status
use Rattle.consistency_server.specs.declared.call.CallKind.TheVariants.{Update}
use Rattle.consistency_server.specs.State.{state_after, table_after}
use Rattle.consistency_server.specs.Answers.{Call, at_limit}
use Rattle.consistency_server.specs.History.{events}
use Rattle.client_runs.specs.Runs.{Keys, pinned}
use Rattle.honest_history.specs.Answered.{is_under_last_key}
use Rattle.honest_runs.specs.HonestRuns.{HonestEvent, history}

-- after these calls the server's table of principals lists the user
abbrev pub is_listed : Key → List Call → User → Bool
is_listed pinned calls u = lists_user (table_after pinned (events pinned calls)) u

-- this is the certificate of a text
abbrev pub IsCertOf : Bytes → Signed Cert → Type 0
IsCertOf text c = (signed cert).Fits c × ((signed cert).spell c ≡ text)

-- the operation of this certificate would raise a version that can grow no further
abbrev pub is_at_limit : Key → List Call → Signed Cert → Bool
is_at_limit pinned calls c = at_limit (state_after pinned (events pinned calls)) c.value

-- so would the operation of this text
abbrev pub IsAtLimit : Key → List Call → Bytes → Type 0
IsAtLimit pinned calls text = (c : Signed Cert) × IsCertOf text c × (is_at_limit pinned calls c ≡ true)

-- the certificate is signed under the key that the server's table has last of its user
abbrev pub is_known : Key → List Call → Signed Cert → Bool
is_known pinned calls c = is_under_last_key (table_after pinned (events pinned calls)) c

-- so is that of this text, or is not
abbrev pub IsKnown : Bool → Key → List Call → Bytes → Type 0
IsKnown known pinned calls text = (c : Signed Cert) × IsCertOf text c × (is_known pinned calls c ≡ known)

-- How a call of a user is answered after these: with success, unless the log is full or memory runs out; and UPDATE
-- also where the user isn't listed, the text isn't signed under the user's last key, or the operation is at the limit
-- of a version.
abbrev pub MayAnswer : Key → List Call → User → Call → Status → Type 0
MayAnswer pinned calls u x status.Ok = Unit {0}
MayAnswer pinned calls u x status.Busy = Unit {0}
MayAnswer pinned calls u x status.Memory = Unit {0}
MayAnswer pinned calls u x status.UnknownUser = (x.kind ≡ Update) × (is_listed pinned calls u ≡ false)
MayAnswer pinned calls u x status.BadSignature = (x.kind ≡ Update) × IsKnown false pinned calls x.text
MayAnswer pinned calls u x status.TooLarge = (x.kind ≡ Update) × IsAtLimit pinned calls x.text
MayAnswer pinned calls u x other = ⊥

-- so is each call of the run
abbrev pub AreAnswered : Keys → List HonestEvent → Type 0
AreAnswered keys [] = Unit {0}
AreAnswered keys (h ∷ older) =
    IfSome h.exchange (λ x. MayAnswer (pinned keys) (history older) h.user x.call x.answer.status)
    × AreAnswered keys older
