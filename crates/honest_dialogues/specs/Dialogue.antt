-- Dialogues of the clients of all users with one server: moves of any of them, in any order, the latest first. What a
-- client sends comes to the server. The answer comes back at once or later, once or more often, or never, and a client
-- may be opened again between any two moves. The blocks of the tree, and the devices of the clients, are left out.
use Rattle.std.specs.Prelude.{◌≡◌, ◌≢◌, ◌⊎◌, ◌+◌, ◌==◌, List, [], ◌∷◌, ◌++◌, Option, Some, None, IfSome, true, if◌then◌else◌}
use Rattle.layout.specs.Format.{IsBytes}
use Rattle.layout.specs.Types.{Bytes, Handle, Key, User}
use Rattle.lms_sign.specs.Signature.{valid}
use Rattle.principals.specs.Table.{Table, key_at}
use Rattle.version_order.specs.Plan.{Plan}
use Rattle.version_order.specs.Structure.{Structure, structure}
use Rattle.version_order.specs.Vector.{version_of}
use Rattle.update_cert.specs.Cert.{Cert, cert}
use Rattle.pending_list.specs.declared.signed.Signed.{Signed}
use Rattle.pending_list.specs.Signed.{signed}
use Rattle.pending_list.specs.Reply.{digest_of_last}
use Rattle.wire.specs.declared.kinds.Status.{Status}
use Rattle.wire.specs.declared.kinds.Status.TheVariants as status
use Rattle.reply_rules.specs.Lists.{Lists}
use Rattle.reply_check.specs.FirstBroken.{lists_in}
use Rattle.consistency_server.specs.Answers.{Answer, Call}
use Rattle.consistency_server.specs.History.{answer_of, commit_of, update_of}
use Rattle.agreement.specs.Runs.{View}
use Rattle.honest_history.specs.Honest.{Names, Naming, SignsOver, number_in}
use Rattle.honest_history.specs.Served.{IsTableOf, NamesFirst}

-- How far a user's client is: nothing is declared, and this structure was signed last; or this certificate is declared,
-- and the lists of the reply that was heard are held; or the certificate was declined, since the server has another key
-- of the user; or this structure is signed, and to be committed.
pub data Stage : Type 0 where
  Idle : Option (Signed Structure) → Stage
  Declared : Option (Signed Structure) → Signed Cert → Option Lists → Stage
  Declined : Option (Signed Structure) → Signed Cert → Stage
  Sealed : Signed Structure → Stage

pub data Act : Type 0 where
  -- an operation is declared
  Declares : Act
  -- UPDATE is sent
  Updates : Act
  -- a reply to it is heard, which the server gave before
  Hears : Act
  -- it is heard that the server declined the certificate for its signature
  HearsDeclined : Act
  -- the certificate is signed again
  Resigns : Act
  -- what was heard is forgotten, as when the client is opened again
  Forgets : Act
  -- the reply is accepted, and a structure signed over it
  Accepts : View → Act
  -- COMMIT is sent
  Commits : Act
  -- it is heard that the server took it
  Ends : Act
  -- the client is opened again, and doesn't know that its structure was committed
  Reopens : Act

-- whose client moves, and how far it is then
pub record Move : Type 0 where
  pub user : User
  pub act : Act
  pub after : Stage

-- how far a user's client is after these moves
abbrev pub stage_of : User → List Move → Stage
stage_of u [] = Idle None
stage_of u (m ∷ older) = if m.user == u then m.after else stage_of u older

-- ---- calls

abbrev pub update_by : Signed Cert → Call
update_by c = update_of ((signed cert).spell c)

abbrev pub commit_by : Signed Structure → Call
commit_by z = commit_of ((signed structure).spell z)

-- the call that a move sends, if it sends one
abbrev pub call_by : Act → Stage → List Call
call_by Updates (Declared last c heard) = update_by c ∷ []
call_by Commits (Sealed z) = commit_by z ∷ []
call_by act stage = []

-- all calls that the server got, the latest first
abbrev pub calls : List Move → List Call
calls [] = []
calls (m ∷ older) = call_by m.act m.after ++ calls older

-- among these calls was this one, and it was answered so
abbrev pub WasAnswered : Key → List Call → Call → Answer → Type 0
WasAnswered pinned [] call a = ⊥
WasAnswered pinned (x ∷ earlier) call a =
    ((x ≡ call) × (answer_of pinned earlier call ≡ a)) ⊎ WasAnswered pinned earlier call a

-- the last of these calls that is this one was answered with this status
abbrev pub LastAnswered : Key → List Call → Call → Status → Type 0
LastAnswered pinned [] call s = ⊥
LastAnswered pinned (x ∷ earlier) call s =
    ((x ≡ call) × ((answer_of pinned earlier call).status ≡ s)) ⊎ ((x ≢ call) × LastAnswered pinned earlier call s)

-- with success, and this payload
abbrev pub success : Bytes → Answer
success payload = record { status = status.Ok; payload = payload }

-- ---- views

abbrev pub view_by : Act → List View
view_by (Accepts v) = v ∷ []
view_by act = []

-- all accepted views, the latest first
abbrev pub views : List Move → List View
views [] = []
views (m ∷ older) = view_by m.act ++ views older

-- ---- moves

-- the certificate is a user's next one after this last structure, under whatever key
pub record IsNextCert (u : User) (last : Option (Signed Structure)) (c : Signed Cert) : Type 0 where
  pub user : c.value.user ≡ u
  pub number : c.value.number ≡ number_in last + 1
  pub last_digest : c.value.last ≡ digest_of_last last
  pub fits : (signed cert).Fits c
  pub bytes : IsBytes ((signed cert).spell c)

-- UPDATE with this certificate was answered among these calls with a reply that has these lists
pub record IsReply (pinned : Key) (history : List Call) (c : Signed Cert) (x : Lists) : Type 0 where
  pub payload : Bytes
  pub answered : WasAnswered pinned history (update_by c) (success payload)
  pub lists : lists_in payload ≡ Some x

-- the key by which the structure of a plan is to be signed: user 0's is known to all, and of another user it is the one
-- that this table has at the plan's version of user 0
abbrev pub named_key : Key → Table → Plan → Option Key
named_key pinned t p = if p.user == 0 then Some pinned else key_at p.user (version_of 0 p.vector) t

-- The structure is signed over these lists as an honest client does, by the table of principals that user 0's handle
-- names, under the key that it names, if it names one; and the view says so.
pub record IsSealed (pinned : Key) (naming : Naming) (u : User) (last : Option (Signed Structure)) (x : Lists)
    (v : View) (z : Signed Structure) : Type 0 where
  pub lists : v.lists ≡ x
  pub table : IsTableOf naming pinned x v.table
  pub view_signed : v.signed ≡ z.value
  pub over : SignsOver naming v.table last x z.value
  pub fits : (signed structure).Fits z
  pub bytes : IsBytes ((signed structure).spell z)
  pub is_signed : IfSome (named_key pinned v.table z.value.plan)
      (λ key. valid key (structure.spell z.value) z.signature ≡ true)

-- what a user's client may do after these calls, and how far it is then
abbrev pub MayMove : Key → Naming → List Call → User → Stage → Act → Stage → Type 0
MayMove pinned naming history u (Idle last) Declares (Declared same c None) = (same ≡ last) × IsNextCert u last c
MayMove pinned naming history u (Declared last c heard) Updates after = after ≡ Declared last c heard
MayMove pinned naming history u (Declared last c heard) Hears (Declared same d (Some x)) =
    (same ≡ last) × (d ≡ c) × IsReply pinned history c x
MayMove pinned naming history u (Declared last c heard) HearsDeclined after =
    (after ≡ Declined last c) × LastAnswered pinned history (update_by c) status.BadSignature
MayMove pinned naming history u (Declined last c) Resigns (Declared same d None) =
    (same ≡ last) × (d.value ≡ c.value) × IsNextCert u last d
MayMove pinned naming history u (Declined last c) Forgets after = after ≡ Declared last c None
MayMove pinned naming history u (Declared last c heard) Forgets after = after ≡ Declared last c None
MayMove pinned naming history u (Declared last c (Some x)) (Accepts v) (Sealed z) = IsSealed pinned naming u last x v z
MayMove pinned naming history u (Sealed z) Commits after = after ≡ Sealed z
MayMove pinned naming history u (Sealed z) Ends after =
    (after ≡ Idle (Some z)) × (payload : Bytes) × WasAnswered pinned history (commit_by z) (success payload)
MayMove pinned naming history u (Idle (Some z)) Reopens after = after ≡ Sealed z
MayMove pinned naming history u stage act after = ⊥

-- each move may come after those before it
abbrev pub IsDialogue : Key → Naming → List Move → Type 0
IsDialogue pinned naming [] = Unit {0}
IsDialogue pinned naming (m ∷ older) =
    MayMove pinned naming (calls older) m.user (stage_of m.user older) m.act m.after × IsDialogue pinned naming older

-- ---- premises

-- The handle of the beginning names the table of the beginning, and no handle names two.
pub record IsNaming (pinned : Key) (naming : Naming) : Type 0 where
  pub first : NamesFirst naming pinned
  pub once : (h : Handle) (t u : Table) → Names naming h t → Names naming h u → t ≡ u
