-- The calls that honest clients make, and their answers.
use Rattle.std.specs.Prelude.{◌≡◌, ◌⊎◌, ◌+◌, Bool, List, ◌∷◌, Some, IfSome, true, false}
use Rattle.std.specs.List.{Contains}
use Rattle.std.specs.Option.{option_map_or}
use Rattle.layout.specs.Format.{IsBytes}
use Rattle.layout.specs.Types.{Bytes, Key}
use Rattle.lms_sign.specs.Signature.{valid}
use Rattle.principals.specs.Table.{Table, key_at, key_of, lists_user}
use Rattle.version_order.specs.Structure.{Structure, structure}
use Rattle.version_order.specs.Vector.{version_of}
use Rattle.update_cert.specs.Cert.{Cert, cert}
use Rattle.pending_list.specs.declared.signed.Signed.{Signed}
use Rattle.pending_list.specs.Signed.{signed}
use Rattle.pending_list.specs.Reply.{digest_of_last}
use Rattle.wire.specs.declared.kinds.Status.{Status}
use Rattle.wire.specs.declared.kinds.Status.TheVariants as status
use Rattle.consistency_server.specs.Event.{Event, last_of}
use Rattle.consistency_server.specs.State.{Placement, pending_after, state_after, table_after}
use Rattle.consistency_server.specs.Answers.{Call, at_limit, cert_of}
use Rattle.consistency_server.specs.History.{answer_of, commit_of, events, update_of}
use Rattle.honest_history.specs.Honest.{IsHonest, Naming, number_in}
use Rattle.honest_history.specs.Served.{IsHonestHistory}

-- The certificate is one that an honest client declares whose last structure the server took last of the user: the
-- next one, under whatever key; of the user nothing else is pending.
pub record IsDeclared (pinned : Key) (es : List Event) (c : Signed Cert) : Type 0 where
  pub fits : (signed cert).Fits c
  pub number : c.value.number ≡ number_in (last_of c.value.user es) + 1
  pub last : c.value.last ≡ digest_of_last (last_of c.value.user es)
  pub alone : (w : Placement) → Contains (pending_after pinned es) w → w.item.plan.user ≡ c.value.user
      → cert_of w.item ≡ c

-- The structure is one that an honest client sends: the one that the server took last of the user, or one over the
-- reply to the user's pending operation, signed under the key that the table has of the user at the plan's version of
-- user 0, if it has one.
pub record IsSent (naming : Naming) (pinned : Key) (es : List Event) (z : Signed Structure) : Type 0 where
  pub fits : (signed structure).Fits z
  pub sent : (last_of z.value.plan.user es ≡ Some z) ⊎ IsHonest naming pinned es z.value
  pub signed : IfSome (key_at z.value.plan.user (version_of 0 z.value.plan.vector) (table_after pinned es))
      (λ key. valid key (structure.spell z.value) z.signature ≡ true)

-- it is signed under the key that came last of those that the table has of its user
abbrev pub is_under_last_key : Table → Signed Cert → Bool
is_under_last_key t c = option_map_or (λ key. valid key (cert.spell c.value) c.signature) (key_of c.value.user t) false

-- success; or the user isn't listed; or the certificate isn't signed under the user's last key; or one of the versions
-- that the operation raises can grow no further
abbrev pub IsUpdateStatus : Key → List Event → Signed Cert → Status → Type 0
IsUpdateStatus pinned es c s =
    (s ≡ status.Ok)
    ⊎ (((s ≡ status.UnknownUser) × (lists_user (table_after pinned es) c.value.user ≡ false))
    ⊎ (((s ≡ status.BadSignature) × (is_under_last_key (table_after pinned es) c ≡ false))
    ⊎ ((s ≡ status.TooLarge) × (at_limit (state_after pinned es) c.value ≡ true))))

-- each such UPDATE is answered so
abbrev pub EachUpdateIsAnswered : Type 0
EachUpdateIsAnswered =
    (naming : Naming) (pinned : Key) (history : List Call) → IsHonestHistory naming pinned history
    → (c : Signed Cert) → IsDeclared pinned (events pinned history) c
    → IsUpdateStatus pinned (events pinned history) c
    (answer_of pinned history (update_of ((signed cert).spell c))).status

-- and each such COMMIT with success
abbrev pub EachCommitIsAnswered : Type 0
EachCommitIsAnswered =
    (naming : Naming) (pinned : Key) (history : List Call) → IsHonestHistory naming pinned history
    → (z : Signed Structure) → IsSent naming pinned (events pinned history) z
    → (answer_of pinned history (commit_of ((signed structure).spell z))).status ≡ status.Ok

-- after any UPDATE all that was committed is what honest clients sign
abbrev pub EachUpdateStaysHonest : Type 0
EachUpdateStaysHonest =
    (naming : Naming) (pinned : Key) (history : List Call) → IsHonestHistory naming pinned history
    → (text : Bytes) → IsBytes text → IsHonestHistory naming pinned (update_of text ∷ history)

-- after such a COMMIT, too, all that was committed is what honest clients sign
abbrev pub EachCommitStaysHonest : Type 0
EachCommitStaysHonest =
    (naming : Naming) (pinned : Key) (history : List Call) → IsHonestHistory naming pinned history
    → (z : Signed Structure) → IsSent naming pinned (events pinned history) z
    → IsBytes ((signed structure).spell z)
    → IsHonestHistory naming pinned (commit_of ((signed structure).spell z) ∷ history)
