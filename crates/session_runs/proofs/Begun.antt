-- From the call that begins an operation to the one that signs, it is the one that the client declared last.
use Rattle.std.proofs.Common.{◌≡◌, ℕ, List, [], ◌∷◌, Option, Result, Ok, Err, refl, sym, subst, inl, inr}
use Rattle.std.specs.Option.{unwrap_or}
use Rattle.layout.specs.Types.{Bytes, Digest}
use Rattle.update_cert.specs.Change.{Change}
use Rattle.client_tree.specs.declared.questions.Question.{Question}
use Rattle.client_releases.specs.declared.error.ClientError.{ClientError}
use Rattle.client_releases.specs.declared.phase.Phase.{Phase}
use Rattle.client_releases.specs.declared.phase.Phase.TheVariants as phase
use Rattle.client_verify.specs.declared.look.Look.TheVariants as look
use Rattle.client_verify.specs.declared.step.Step.TheVariants as step
use Rattle.client_verify.specs.State.{State}
use Rattle.client_runs.proofs.Quiet as quiet
use Rattle.client_steps.specs.Steps.{Asks, HasBegun, HasResigned, Sees}
use Rattle.transport.specs.declared.transport.TransportError.{TransportError}
use Rattle.transport.specs.Asked.{Asked}
use Rattle.wire.specs.declared.kinds.Status.{Status}
use Rattle.wire.specs.declared.kinds.Status.TheVariants as status
use Rattle.file_session.specs.declared.stop.Stop.{Stop}
use Rattle.file_session.specs.declared.stop.Stop.TheVariants as stop
use Rattle.file_session.specs.Calls.{Begins, Call, Commits, Gives, Hears, Looks, Resigns, Signs, Takes}
use Rattle.file_session.specs.Calls as session
use Rattle.file_session.specs.Order.{Calls, Commit, CommitNew, Fetch, FetchAt, Follows, GiveAt, Hear, LacksLeaves, LacksNumbers, LacksPlan, Next, Over, Ready, Resign, Sends, Store, Sync, Take, Tell, Unsynced, Update}
use Rattle.file_session.specs.Order as order
use Rattle.file_session.specs.Replies.{block_in, payload_in, status_in, synced_in}
use Rattle.file_session.specs.Tries.{keys_to_try}
use Rattle.session_runs.specs.Told.{OfChanges, OfNumber, Operation}
use Rattle.session_runs.proofs.Declared.{HasDeclared, begins, resigns, still_has}
use Rattle.session_runs.proofs.Looking.{begins_next, commits_next, gives_next, looks_next, signs_next}

abbrev pub begun_after : Call → Operation → Operation
begun_after (Begins changes texts x) begun = OfChanges changes
begun_after other begun = begun

-- while the operation is under way, it is the one that the client declared last
abbrev pub IsUnderWay : Next → Operation → State → Type 0
IsUnderWay (Update text left) begun s = HasDeclared begun s
IsUnderWay (Resign k keys) begun s = HasDeclared begun s
IsUnderWay (Hear text) begun s = HasDeclared begun s
IsUnderWay (Fetch digest) begun s = HasDeclared begun s
IsUnderWay (Take block) begun s = HasDeclared begun s
IsUnderWay (Store texts) begun s = HasDeclared begun s
IsUnderWay Sync begun s = HasDeclared begun s
IsUnderWay other begun s = Unit {0}

pub at_start : (p : Phase) (text : Bytes) (s : State) → IsUnderWay (order.resuming p text) (OfNumber s.number) s
at_start phase.Idle text s = tt
at_start phase.Declared text s = refl
at_start phase.Signed text s = tt
at_start phase.Failed text s = tt

at_next : (n m : Next) (begun : Operation) (s : State) → n ≡ m → IsUnderWay m begun s → IsUnderWay n begun s
at_next n m begun s same is = subst (λ (x : Next). IsUnderWay x begun s) (sym same) is

-- where it stays so
pub stays : (n : Next) (begun : Operation) (s new : State) → new ≡ s → IsUnderWay n begun s → IsUnderWay n begun new
stays n begun s new same is = subst (IsUnderWay n begun) (sym same) is

module _ (begun : Operation) (s : State) where
  laying : (laid : List Bytes) (text : Bytes) (x : Result Bytes Stop) → IsUnderWay (order.laying laid text x) begun s
  laying laid text (Ok digest) = tt
  laying laid text (Err e) = tt

  trying : (keys : List ℕ) → HasDeclared begun s → IsUnderWay (order.trying keys) begun s
  trying [] has = tt
  trying (k ∷ keys) has = has

  hearing : (keys : List ℕ) (x : Result Bytes Stop) → HasDeclared begun s → IsUnderWay (order.hearing keys x) begun s
  hearing keys (Ok text) has = has
  hearing keys (Err (stop.Declined status.BadSignature)) has = trying keys has
  hearing keys (Err other) has = tt

  checking : (x : Result Asks ClientError) → HasDeclared begun s → IsUnderWay (order.checking x) begun s
  checking (Ok (step.Need digest)) has = has
  checking (Ok (step.Store texts)) has = has
  checking (Ok (step.Broken rule)) has = tt
  checking (Err e) has = tt

  taking : (x : Result (Option Bytes) Stop) → HasDeclared begun s → IsUnderWay (order.taking x) begun s
  taking (Ok block) has = has
  taking (Err e) has = tt

  left_to_store : (texts : List Bytes) → HasDeclared begun s → IsUnderWay (order.left_to_store texts) begun s
  left_to_store [] has = has
  left_to_store (text ∷ texts) has = has

  storing : (texts : List Bytes) (x : Result Bytes Stop) → HasDeclared begun s → IsUnderWay (order.storing texts x) begun s
  storing texts (Ok digest) has = left_to_store texts has
  storing texts (Err e) has = tt

  syncing : (next : Next) (x : Result (Unit {0}) Stop) → IsUnderWay next begun s → IsUnderWay (order.syncing next x) begun s
  syncing next (Ok x) is = is
  syncing next (Err e) is = tt

  committing : (x : Result Bytes ClientError) (lost : List ℕ) → IsUnderWay (order.committing x lost) begun s
  committing (Ok text) lost = tt
  committing (Err e) lost = tt

  telling : (x : Result Status Stop) → IsUnderWay (order.telling x) begun s
  telling (Ok told) = tt
  telling (Err e) = tt

  committed : (st : Status) → IsUnderWay (order.committed st) begun s
  committed status.Ok = tt
  committed other = tt

  looking : (q : Question) (x : Result Sees ClientError) → IsUnderWay (order.looking q x) begun s
  looking q (Ok (look.Need digest)) = tt
  looking q (Ok (look.Broken rule)) = tt
  looking q (Ok (look.File bytes)) = tt
  looking q (Ok (look.Dir entries)) = tt
  looking q (Ok look.None) = tt
  looking q (Ok (look.Kind kind)) = tt
  looking q (Ok (look.Free found)) = tt
  looking q (Err e) = tt

  giving : (q : Question) (x : Result (Option Bytes) Stop) → IsUnderWay (order.giving q x) begun s
  giving q (Ok block) = tt
  giving q (Err e) = tt

  -- ---- exchanges

  pub sent : (n : Next) (r : Asked) (x : Result Bytes TransportError) (m : Next) → Follows s n (Sends r x) m → IsUnderWay n begun s → IsUnderWay m begun s
  sent (Ready laid) r x m h is = at_next m _ begun s h.1 (laying laid r.payload (payload_in x))
  sent (Unsynced laid) r x m (inl h) is = at_next m _ begun s h.1 (laying laid r.payload (payload_in x))
  sent (Unsynced laid) r x m (inr h) is = at_next m _ begun s h.1 (syncing (Ready laid) (synced_in x) tt)
  sent (Update text left) r x m h is = at_next m _ begun s h.1 (hearing (unwrap_or left (keys_to_try s)) (payload_in x) is)
  sent (Fetch digest) r x m h is = at_next m _ begun s h.1 (taking (block_in x) is)
  sent (Store (text ∷ texts)) r x m h is = at_next m _ begun s h.1 (storing texts (payload_in x) is)
  sent (Store []) r x m h is = absurd h
  sent Sync r x m h is = at_next m _ begun s h.1 (syncing (Store []) (synced_in x) is)
  sent (CommitNew text lost) r x m h is = at_next m _ begun s h.1 (telling (status_in x))
  sent (Commit text) r x m h is = at_next m _ begun s h.1 (telling (status_in x))
  sent (FetchAt q digest) r x m h is = at_next m _ begun s h.1 (giving q (block_in x))
  sent (Over e) r x m h is = absurd h
  sent (Hear text) r x m h is = absurd h
  sent (Resign k keys) r x m h is = absurd h
  sent (Take block) r x m h is = absurd h
  sent (Tell told) r x m h is = absurd h
  sent (GiveAt q block) r x m h is = absurd h

  -- ---- where leaves are lacking, or memory is refused

  pub lacks_leaves : (n m : Next) → Follows s n LacksLeaves m → IsUnderWay m begun s
  lacks_leaves (Ready []) m h = at_next m _ begun s h.1 tt
  lacks_leaves (Ready (t ∷ ts)) m h = absurd h
  lacks_leaves (Store []) m h = absurd h
  lacks_leaves (Store (t ∷ ts)) m h = absurd h
  lacks_leaves (CommitNew text []) m h = absurd h
  lacks_leaves (CommitNew text (k ∷ lost)) m h = absurd h
  lacks_leaves other m h = absurd h

  pub lacks_plan : (n m : Next) → Follows s n LacksPlan m → IsUnderWay m begun s
  lacks_plan (Ready []) m h = at_next m _ begun s h tt
  lacks_plan (Ready (t ∷ ts)) m h = absurd h
  lacks_plan (Store []) m h = absurd h
  lacks_plan (Store (t ∷ ts)) m h = absurd h
  lacks_plan (CommitNew text []) m h = absurd h
  lacks_plan (CommitNew text (k ∷ lost)) m h = absurd h
  lacks_plan other m h = absurd h

  pub lacks_numbers : (n m : Next) → Follows s n LacksNumbers m → IsUnderWay m begun s
  lacks_numbers (CommitNew text (k ∷ lost)) m h = at_next m _ begun s h tt
  lacks_numbers (CommitNew text []) m h = absurd h
  lacks_numbers (Ready []) m h = absurd h
  lacks_numbers (Ready (t ∷ ts)) m h = absurd h
  lacks_numbers (Store []) m h = absurd h
  lacks_numbers (Store (t ∷ ts)) m h = absurd h
  lacks_numbers other m h = absurd h

  -- ---- calls

  -- a structure is signed while the operation is under way
  pub signs_it : (n : Next) (x : Result Bytes ClientError) (lost : List ℕ) (m : Next) → Follows s n (Calls (Signs x lost)) m → IsUnderWay n begun s → HasDeclared begun s
  signs_it (Store []) x lost m h is = is
  signs_it (Store (text ∷ texts)) x lost m h is = absurd h
  signs_it other x lost m h is = absurd h

  resigns_it : (n : Next) (k : ℕ) (x : Result Bytes ClientError) (m : Next) → Follows s n (Calls (Resigns k x)) m → IsUnderWay n begun s → (keys : List ℕ) × (m ≡ order.resigning keys x) × HasDeclared begun s
  resigns_it (Resign j keys) k x m h is = (keys, h.1, is)
  resigns_it (Store []) k x m h is = absurd h
  resigns_it (Store (t ∷ ts)) k x m h is = absurd h
  resigns_it other k x m h is = absurd h

  hears_it : (n : Next) (text : Bytes) (x : Result Asks ClientError) (m : Next) → Follows s n (Calls (Hears text x)) m → IsUnderWay n begun s → (m ≡ order.checking x) × HasDeclared begun s
  hears_it (Hear told) text x m h is = (h.1, is)
  hears_it (Store []) text x m h is = absurd h
  hears_it (Store (t ∷ ts)) text x m h is = absurd h
  hears_it other text x m h is = absurd h

  takes_it : (n : Next) (block : Option Bytes) (x : Result Asks ClientError) (m : Next) → Follows s n (Calls (Takes block x)) m → IsUnderWay n begun s → (m ≡ order.checking x) × HasDeclared begun s
  takes_it (Take told) block x m h is = (h.1, is)
  takes_it (Store []) block x m h is = absurd h
  takes_it (Store (t ∷ ts)) block x m h is = absurd h
  takes_it other block x m h is = absurd h

begun_next : (s new : State) (changes : List (Change Digest)) (laid : List Bytes) (x : Result Bytes ClientError) → HasBegun s changes laid x new → IsUnderWay (order.declaring x) (OfChanges changes) new
begun_next s new changes laid (Ok text) b = begins s new changes laid text b
begun_next s new changes laid (Err e) b = tt

resigned_next : (begun : Operation) (s new : State) (k : ℕ) (keys : List ℕ) (x : Result Bytes ClientError) → HasResigned s k x new → HasDeclared begun s → IsUnderWay (order.resigning keys x) begun new
resigned_next begun s new k keys (Ok text) b has = resigns begun s new k text b has
resigned_next begun s new k keys (Err e) b has = tt

pub after_call : (n m : Next) (call : Call) (s new : State) (begun : Operation) → session.Leads s call new → Follows s n (Calls call) m → IsUnderWay n begun s → IsUnderWay m (begun_after call begun) new
unfolding session.Leads
after_call n m (Begins changes laid x) s new begun leads h is =
    at_next m _ (OfChanges changes) new (begins_next s n changes laid x m h) (begun_next s new changes laid x leads.0)
after_call n m (Resigns k x) s new begun leads h is =
    let was = resigns_it begun s n k x m h is in
    at_next m _ begun new was.1 (resigned_next begun s new k was.0 x leads.0 was.2)
after_call n m (Hears text x) s new begun leads h is =
    let was = hears_it begun s n text x m h is in
    at_next m _ begun new was.0 (checking begun new x (still_has begun s new (quiet.hears s text x new leads.0) was.1))
after_call n m (Takes block x) s new begun leads h is =
    let was = takes_it begun s n block x m h is in
    at_next m _ begun new was.0 (checking begun new x (still_has begun s new (quiet.takes s block x new leads.0) was.1))
after_call n m (Signs x lost) s new begun leads h is = at_next m _ begun new (signs_next s n x lost m h) (committing begun new x lost)
after_call n m (Commits st) s new begun leads h is = at_next m _ begun new (commits_next s n st m h) (committed begun new st)
after_call n m (Looks q x) s new begun leads h is = at_next m _ begun new (looks_next s n q x m h) (looking begun new q x)
after_call n m (Gives q block x) s new begun leads h is = at_next m _ begun new (gives_next s n q block x m h) (looking begun new q x)
