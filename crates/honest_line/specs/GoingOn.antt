-- How operations go on: what would come next of each client, whatever happened before, and what that leads to.
use Rattle.std.specs.Prelude.{◌≡◌, ◌≢◌, ◌⊎◌, ◌+◌, ℕ, true, false, List, [], ◌∷◌, None, Some, Ok, IfSome, IsSome, map}
use Rattle.std.specs.List.{Contains, list_any}
use Rattle.layout.specs.Types.{Bytes, Key, User, Version}
use Rattle.lms_sign.specs.Keys.{public_key_of}
use Rattle.principals.specs.Table.{key_at, key_of}
use Rattle.update_cert.specs.Cert.{Cert}
use Rattle.pending_list.specs.declared.signed.Signed.{Signed}
use Rattle.reply_rules.specs.declared.rule.Rule.{Rule}
use Rattle.wire.specs.declared.kinds.Status.TheVariants as status
use Rattle.client_tree.specs.Held.{held}
use Rattle.client_releases.specs.declared.phase.Phase.TheVariants as phase
use Rattle.client_verify.specs.declared.look.Look.TheVariants as look
use Rattle.client_verify.specs.declared.step.Step.TheVariants as step
use Rattle.client_verify.specs.declared.view.Looking.{Looking}
use Rattle.client_releases.specs.Told.{secret_at}
use Rattle.client_verify.specs.State.{Checked, State, asked_of, released, signer_of}
use Rattle.client_steps.specs.Steps.{Begins, Call, Client, Closed, Commits, HasGiven, HasHeard, HasTaken, Hears, IsSound, IsStep, Open, Resigns, Signs, Takes}
use Rattle.client_runs.specs.Runs.{Keys, client_of, owner, pinned}
use Rattle.consistency_server.specs.Answers.{Call as ServerCall, same_cert}
use Rattle.consistency_server.specs.State.{pending_after, table_after}
use Rattle.consistency_server.specs.History.{answer_of, commit_of, events as events_of, update_of}
use Rattle.honest_runs.specs.HonestRuns.{HonestEvent, events, history, stored}
use Rattle.honest_line.specs.Answered.{IsCertOf, IsKnown, is_at_limit, is_listed}

-- ---- what would come next

-- the server would answer UPDATE with a reply, and the client not refuse that
abbrev pub HasGoodReply : Key → List ServerCall → State → Type 0
HasGoodReply pinned calls s =
    (reply : Bytes) × (answer_of pinned calls (update_of s.text) ≡ record { status = status.Ok; payload = reply })
    × ((rule : Rule) (new : State) → HasHeard s reply (Ok (step.Broken rule)) new → ⊥)

-- the store has the block that a reply under check asks for, and the client would not refuse that
abbrev pub HasGoodBlock : List HonestEvent → State → Checked → Type 0
HasGoodBlock run s k =
    (block : Bytes) × (held (stored run) (asked_of k).digest ≡ Some block)
    × ((rule : Rule) (new : State) → HasTaken s (Some block) (Ok (step.Broken rule)) new → ⊥)

-- so it is with the block that a look asks for
abbrev pub LooksAtGoodBlock : List HonestEvent → State → Looking → Type 0
LooksAtGoodBlock run s l =
    (block : Bytes) × (held (stored run) l.asked.digest ≡ Some block)
    × ((rule : Rule) (new : State) → HasGiven s (Some block) (Ok (look.Broken rule)) new → ⊥)

-- the operation of this text is at the limit of no version
abbrev pub IsBelowLimit : Key → List ServerCall → Bytes → Type 0
IsBelowLimit pinned calls text = (c : Signed Cert) → IsCertOf text c → is_at_limit pinned calls c ≡ false

-- it is pending
abbrev pub IsPending : Key → List ServerCall → Bytes → Type 0
IsPending pinned calls text = (c : Signed Cert) × IsCertOf text c
    × (list_any (same_cert c) (pending_after pinned (events_of pinned calls)) ≡ true)

-- the server would decline it for its signature
abbrev pub IsDeclined : Key → List ServerCall → Bytes → Type 0
IsDeclined pinned calls text = (answer_of pinned calls (update_of text)).status ≡ status.BadSignature

-- this is the key that the server's table has last of the user
abbrev pub IsLastKey : Key → List ServerCall → User → Key → Type 0
IsLastKey pinned calls u key = key_of u (table_after pinned (events_of pinned calls)) ≡ Some key

-- the client has each key that the server's table has of the user, at whatever number of user 0's
abbrev pub HasListedKeys : Key → List ServerCall → User → State → Type 0
HasListedKeys pinned calls u s =
    (v : Version) (key : Key) → key_at u v (table_after pinned (events_of pinned calls)) ≡ Some key
    → Contains (map public_key_of s.secrets) key

-- the user's client signs its certificate again by this key, and is so then
abbrev pub SignsAgain : Keys → User → State → ℕ → State → Type 0
SignsAgain keys u s n new =
    (text : Bytes) × IsStep (owner keys u) (Open s) (Resigns n (Ok text)) (Open new) × IsSound (Open new)

-- An open client of a user can go on after these steps.
pub record CanGoOn (keys : Keys) (run : List HonestEvent) (u : User) (s : State) : Type 0 where
  -- A declared operation has a good reply, if its user is listed, it is signed under the user's last key, and it is at
  -- the limit of no version;
  pub update : s.phase ≡ phase.Declared → is_listed (pinned keys) (history run) u ≡ true
      → IsKnown true (pinned keys) (history run) s.text → IsBelowLimit (pinned keys) (history run) s.text
      → HasGoodReply (pinned keys) (history run) s
  -- so it has if it is pending, whatever key its user got since;
  pub pending : s.phase ≡ phase.Declared → IsPending (pinned keys) (history run) s.text
      → HasGoodReply (pinned keys) (history run) s
  -- and one that the server would decline for its signature has one once it is signed again by the user's last key;
  pub resign : IsDeclined (pinned keys) (history run) s.text → IsBelowLimit (pinned keys) (history run) s.text
      → (n : ℕ) → IsLastKey (pinned keys) (history run) u (public_key_of (secret_at n (released s)))
      → (new : State) → SignsAgain keys u s n new → HasGoodReply (pinned keys) (history run) new
  -- blocks that are asked for are good;
  pub block : IfSome s.checked (HasGoodBlock run s)
  pub look : IfSome s.view (λ v. IfSome v.looking (LooksAtGoodBlock run s))
  -- a client that has each key that the server's table has of its user has the one by which to sign what it accepted;
  pub sign : IfSome s.accepted (λ r. HasListedKeys (pinned keys) (history run) u s → signer_of s r ≢ None)
  -- and a signed structure would be taken.
  pub commit : s.phase ≡ phase.Signed
      → (answer_of (pinned keys) (history run) (commit_of s.text)).status ≡ status.Ok

-- so can each client that is open
abbrev pub ClientCanGoOn : Keys → List HonestEvent → User → Client → Type 0
ClientCanGoOn keys run u (Closed p) = Unit {0}
ClientCanGoOn keys run u (Open s) = CanGoOn keys run u s

-- ---- what that leads to

-- a block of the reply is asked for, or the reply is accepted
abbrev pub HasReply : State → Type 0
HasReply s = IsSome s.checked ⊎ IsSome s.accepted

-- What a call of a client leads to that is answered without an error, and finds no rule broken: an operation is
-- declared, of the next number, and stays so where it is signed again; its reply is under check or accepted, and stays
-- so with each block that is taken; a structure is signed; and with the server's status 0 the operation is over.
abbrev pub LeadsOn : Client → Call → Client → Type 0
LeadsOn (Open s) (Begins changes laid (Ok text)) (Open t) = (t.phase ≡ phase.Declared) × (t.number ≡ s.number + 1)
LeadsOn (Open s) (Resigns n (Ok text)) (Open t) = (t.phase ≡ phase.Declared) × (t.number ≡ s.number)
LeadsOn (Open s) (Hears text (Ok step)) (Open t) = HasReply t
LeadsOn (Open s) (Takes block (Ok step)) (Open t) = HasReply t
LeadsOn (Open s) (Signs (Ok text)) (Open t) = t.phase ≡ phase.Signed
LeadsOn (Open s) (Commits status.Ok) (Open t) = t.phase ≡ phase.Idle
LeadsOn before call after = Unit {0}

-- so does each call of the run
abbrev pub AllLeadOn : List HonestEvent → Type 0
AllLeadOn [] = Unit {0}
AllLeadOn (h ∷ older) =
    IfSome h.step (λ s. LeadsOn (client_of h.user (events older)) s.call s.after) × AllLeadOn older
