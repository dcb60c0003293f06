-- The order of an operation: what has to come next in a session, and what may come of each move.
use Rattle.std.specs.Prelude.{◌≡◌, ◌⊎◌, ℕ, true, false, List, [], ◌∷◌, ◌++◌, map, Option, Some, None, Result, Ok, Err}
use Rattle.std.specs.Option.{unwrap_or}
use Rattle.std.specs.Vec.{vec_items}
use Rattle.std.specs.declared.vec.Vec.{Vec}
use Rattle.layout.specs.Types.{Bytes, Digest}
use Rattle.client_tree.specs.declared.questions.Question.{Question}
use Rattle.wire.specs.declared.kinds.RequestKind.TheVariants as kind
use Rattle.wire.specs.declared.kinds.Status.{Status}
use Rattle.wire.specs.declared.kinds.Status.TheVariants as status
use Rattle.client_releases.specs.declared.error.ClientError.{ClientError}
use Rattle.client_releases.specs.declared.error.ClientError.TheVariants as error
use Rattle.client_releases.specs.declared.phase.Phase.{Phase}
use Rattle.client_releases.specs.declared.phase.Phase.TheVariants as phase
use Rattle.client_verify.specs.declared.look.Look.TheVariants as look
use Rattle.client_verify.specs.declared.step.Step.TheVariants as step
use Rattle.client_steps.specs.Steps.{Asks, Sees}
use Rattle.file_session.specs.declared.stop.Stop.{Stop}
use Rattle.file_session.specs.declared.stop.Stop.TheVariants as stop
use Rattle.transport.specs.declared.transport.TransportError.{TransportError}
use Rattle.transport.specs.Asked.{Asked}
use Rattle.file_session.specs.Replies.{payload_in, block_in, status_in, synced_in}
use Rattle.client_verify.specs.State.{State}
use Rattle.file_session.specs.Calls.{Call, Begins, Resigns, Hears, Takes, Signs, Commits, Looks, Gives}
use Rattle.file_session.specs.Tries.{can_declare, keys_to_try}

-- a call of the client, an exchange, that the newest key lacks leaves for an operation, or that the session itself is
-- refused memory: for the operation that it plans, or for the numbers of the changes that a view loses
pub data Move : Type 0 where
  Calls : Call → Move
  Sends : Asked → Result Bytes TransportError → Move
  LacksLeaves : Move
  LacksPlan : Move
  LacksNumbers : Move

-- ---- what has to come next

pub data Next : Type 0 where
  -- nothing is under way: an operation may begin for which these texts were stored and synced, or a look where there are
  -- none
  Ready : List Bytes → Next
  -- these texts were stored for an operation, and are to be synced before it begins
  Unsynced : List Bytes → Next
  -- the certificate is to be sent, and its reply handed in; once its signature was declined, these keys are left to try
  Update : Bytes → Option (List ℕ) → Next
  Hear : Bytes → Next
  -- its signature was declined, and it is to be signed again by this key; these are left then
  Resign : ℕ → List ℕ → Next
  -- the block is to be asked for, and handed in
  Fetch : Digest → Next
  Take : Option Bytes → Next
  -- these texts are to be stored and synced, and then the structure signed; where there are none, it is signed
  Store : List Bytes → Next
  -- all of them were stored, and are to be synced before the structure is signed
  Sync : Next
  -- the structure is to be sent, and the status handed in; of one that was signed just now the numbers of the changes
  -- that its view loses are copied first, if there are any
  CommitNew : Bytes → List ℕ → Next
  Commit : Bytes → Next
  Tell : Status → Next
  -- the block is to be asked for by a look, and handed in
  FetchAt : Question → Digest → Next
  GiveAt : Question → Option Bytes → Next
  -- the client, the server or the transport refused, and nothing comes any more
  Over : Stop → Next

abbrev pub laying : List Bytes → Bytes → Result Bytes Stop → Next
laying laid text (Ok digest) = Unsynced (laid ++ text ∷ [])
laying laid text (Err e) = Over e

abbrev pub declaring : Result Bytes ClientError → Next
declaring (Ok text) = Update text None
declaring (Err e) = Over (stop.Client e)

-- where its signature is declined, the first of these keys signs it again; where there is none, it is declined for good
abbrev pub trying : List ℕ → Next
trying [] = Over (stop.Declined status.BadSignature)
trying (n ∷ keys) = Resign n keys

abbrev pub hearing : List ℕ → Result Bytes Stop → Next
hearing keys (Ok text) = Hear text
hearing keys (Err (stop.Declined status.BadSignature)) = trying keys
hearing keys (Err e) = Over e

abbrev pub resigning : List ℕ → Result Bytes ClientError → Next
resigning keys (Ok text) = Update text (Some keys)
resigning keys (Err e) = Over (stop.Client e)

-- texts in memory
abbrev pub texts_of : {A : Type 0} → Vec (Vec ℕ A) A → List Bytes
texts_of texts = map vec_items texts.items

abbrev pub checking : Result Asks ClientError → Next
checking (Ok (step.Need digest)) = Fetch digest
checking (Ok (step.Store texts)) = Store (texts_of texts)
checking (Ok (step.Broken rule)) = Over (stop.Broken rule)
checking (Err e) = Over (stop.Client e)

abbrev pub taking : Result (Option Bytes) Stop → Next
taking (Ok block) = Take block
taking (Err e) = Over e

-- once a text was stored, the others are; after the last they are synced
abbrev pub left_to_store : List Bytes → Next
left_to_store [] = Sync
left_to_store (text ∷ texts) = Store (text ∷ texts)

abbrev pub storing : List Bytes → Result Bytes Stop → Next
storing texts (Ok digest) = left_to_store texts
storing texts (Err e) = Over e

-- what comes once the texts are synced
abbrev pub syncing : Next → Result (Unit {0}) Stop → Next
syncing next (Ok x) = next
syncing next (Err e) = Over e

abbrev pub committing : Result Bytes ClientError → List ℕ → Next
committing (Ok text) lost = CommitNew text lost
committing (Err e) lost = Over (stop.Client e)

abbrev pub telling : Result Status Stop → Next
telling (Ok told) = Tell told
telling (Err e) = Over e

abbrev pub committed : Status → Next
committed status.Ok = Ready []
committed other = Over (stop.Declined other)

abbrev pub looking : Question → Result Sees ClientError → Next
looking q (Ok (look.Need digest)) = FetchAt q digest
looking q (Ok (look.Broken rule)) = Over (stop.Broken rule)
looking q (Ok told) = Ready []
looking q (Err e) = Over (stop.Client e)

abbrev pub giving : Question → Result (Option Bytes) Stop → Next
giving q (Ok block) = GiveAt q block
giving q (Err e) = Over e

abbrev pub put : Bytes → Asked
put text = record { kind = kind.Put; payload = text }

abbrev pub sync : Asked
sync = record { kind = kind.Sync; payload = [] }

abbrev pub update : Bytes → Asked
update text = record { kind = kind.Update; payload = text }

abbrev pub get : Digest → Asked
get digest = record { kind = kind.Get; payload = digest }

abbrev pub commit : Bytes → Asked
commit text = record { kind = kind.Commit; payload = text }

-- what may be asked before an operation begins: that one more text be stored for it
abbrev pub FollowsStored : List Bytes → Asked → Result Bytes TransportError → Next → Type 0
FollowsStored laid r x next = (r ≡ put r.payload) × (next ≡ laying laid r.payload (payload_in x))

-- that all that was stored be synced
abbrev pub FollowsSynced : Next → Asked → Result Bytes TransportError → Next → Type 0
FollowsSynced after r x next = (r ≡ sync) × (next ≡ syncing after (synced_in x))

-- From what has to come next, this move of a client that is so before it, and what has to come then.
abbrev pub Follows : State → Next → Move → Next → Type 0
Follows s (Over e) move next = ⊥
Follows s (Ready laid) (Sends r x) next = FollowsStored laid r x next
Follows s (Unsynced laid) (Sends r x) next = FollowsStored laid r x next ⊎ FollowsSynced (Ready laid) r x next
Follows s (Ready laid) (Calls (Begins changes texts x)) next =
    (can_declare s ≡ true) × (texts ≡ laid) × (next ≡ declaring x)
Follows s (Ready laid) (Calls (Looks q x)) next = (laid ≡ []) × (next ≡ looking q x)
Follows s (Ready []) LacksLeaves next = (can_declare s ≡ false) × (next ≡ Over (stop.Client error.NoLeaf))
Follows s (Ready []) LacksPlan next = next ≡ Over stop.Memory
Follows s (Update text left) (Sends r x) next =
    (r ≡ update text) × (next ≡ hearing (unwrap_or left (keys_to_try s)) (payload_in x))
Follows s (Resign n keys) (Calls (Resigns m x)) next = (m ≡ n) × (next ≡ resigning keys x)
Follows s (Hear text) (Calls (Hears reply x)) next = (reply ≡ text) × (next ≡ checking x)
Follows s (Fetch digest) (Sends r x) next = (r ≡ get digest) × (next ≡ taking (block_in x))
Follows s (Take block) (Calls (Takes handed x)) next = (handed ≡ block) × (next ≡ checking x)
Follows s (Store (text ∷ texts)) (Sends r x) next = (r ≡ put text) × (next ≡ storing texts (payload_in x))
Follows s Sync (Sends r x) next = FollowsSynced (Store []) r x next
Follows s (Store []) (Calls (Signs x lost)) next = next ≡ committing x lost
Follows s (CommitNew text lost) (Sends r x) next = (r ≡ commit text) × (next ≡ telling (status_in x))
Follows s (CommitNew text (n ∷ lost)) LacksNumbers next = next ≡ Over stop.Memory
Follows s (Commit text) (Sends r x) next = (r ≡ commit text) × (next ≡ telling (status_in x))
Follows s (Tell told) (Calls (Commits handed)) next = (handed ≡ told) × (next ≡ committed told)
Follows s (FetchAt q digest) (Sends r x) next = (r ≡ get digest) × (next ≡ giving q (block_in x))
Follows s (GiveAt q block) (Calls (Gives p handed x)) next = (p ≡ q) × (handed ≡ block) × (next ≡ looking q x)
Follows s now move next = ⊥

-- ---- where a session begins and ends

-- what was declared or signed before is finished first, and a client that failed does nothing
abbrev pub resuming : Phase → Bytes → Next
resuming phase.Idle text = Ready []
resuming phase.Declared text = Update text None
resuming phase.Signed text = Commit text
resuming phase.Failed text = Over (stop.Client error.Device)

abbrev pub ready_or : {X : Type 0} → Result X Stop → Next
ready_or (Ok x) = Ready []
ready_or (Err e) = Over e

-- texts that were stored and synced for an operation
abbrev pub laid_or : {X : Type 0} → List Bytes → Result X Stop → Next
laid_or laid (Ok x) = Ready laid
laid_or laid (Err e) = Over e

-- texts that are to be stored, and where they were, and are synced
abbrev pub stores_or : {A : Type 0} → Result (Vec (Vec ℕ A) A) Stop → Next
stores_or (Ok texts) = Store (texts_of texts)
stores_or (Err e) = Over e

abbrev pub stored_or : Result (Unit {0}) Stop → Next
stored_or (Ok x) = Store []
stored_or (Err e) = Over e
