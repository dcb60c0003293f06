-- Nothing is signed before each text that was stored is synced.
use Rattle.std.proofs.Common.{◌≡◌, Bool, false, ℕ, List, [], ◌∷◌, Option, Result, Ok, Err, refl, sym, ap, subst, inl, inr}
use Rattle.std.specs.Option.{unwrap_or}
use Rattle.layout.specs.Types.{Bytes}
use Rattle.client_tree.specs.declared.questions.Question.{Question}
use Rattle.wire.specs.declared.kinds.RequestKind.{RequestKind}
use Rattle.wire.specs.declared.kinds.RequestKind.TheVariants as kind
use Rattle.wire.specs.declared.kinds.Status.{Status}
use Rattle.wire.specs.declared.kinds.Status.TheVariants as status
use Rattle.client_releases.specs.declared.error.ClientError.{ClientError}
use Rattle.client_releases.specs.declared.phase.Phase.{Phase}
use Rattle.client_releases.specs.declared.phase.Phase.TheVariants as phase
use Rattle.client_verify.specs.declared.look.Look.TheVariants as look
use Rattle.client_verify.specs.declared.step.Step.TheVariants as step
use Rattle.client_verify.specs.State.{State}
use Rattle.client_steps.specs.Steps.{Asks, Sees}
use Rattle.file_session.specs.declared.stop.Stop.{Stop}
use Rattle.file_session.specs.declared.stop.Stop.TheVariants as stop
use Rattle.transport.specs.Asked.{Asked}
use Rattle.transport.specs.declared.transport.TransportError.{TransportError}
use Rattle.file_session.specs.Replies.{payload_in, block_in, status_in, synced_in}
use Rattle.file_session.specs.Calls.{Begins, Resigns, Hears, Takes, Signs, Commits, Looks, Gives}
use Rattle.file_session.specs.Order.{Move, Calls, Sends, LacksLeaves, LacksPlan, LacksNumbers, Next, Ready, Unsynced, Update, Hear, Resign, Fetch, Take, Store, Sync, CommitNew, Commit, Tell, FetchAt, GiveAt, Over, Follows}
use Rattle.file_session.specs.Order.{laying, declaring, trying, hearing, resigning, checking, taking, storing, syncing, committing, telling, committed, looking, giving, resuming, sync}
use Rattle.file_session.specs.Tries.{keys_to_try}
use Rattle.file_session.specs.Went.{Answering, At, Moves}
use Rattle.file_session.specs.Synced.{AllSignSynced, SignsSynced, unsynced_after, unsynced_by}
use Rattle.file_session.proofs.Given.{follows_in}

-- no text is unsynced, but for those of which the order knows
abbrev pub IsKnown : Bool → Next → Type 0
IsKnown unsynced (Unsynced laid) = Unit {0}
IsKnown unsynced (Store (text ∷ texts)) = Unit {0}
IsKnown unsynced Sync = Unit {0}
IsKnown unsynced (Over e) = Unit {0}
IsKnown unsynced other = unsynced ≡ false

pub at_start : (p : Phase) (text : Bytes) → IsKnown false (resuming p text)
at_start phase.Idle text = refl
at_start phase.Declared text = refl
at_start phase.Signed text = refl
at_start phase.Failed text = tt

at_next : (u : Bool) (n m : Next) → n ≡ m → IsKnown u m → IsKnown u n
at_next u n m same is = subst (IsKnown u) (sym same) is

-- ---- what comes next

module _ (u : Bool) where
  laid : (before : List Bytes) (text : Bytes) (x : Result Bytes Stop) → IsKnown u (laying before text x)
  laid before text (Ok digest) = tt
  laid before text (Err e) = tt

  stored : (texts : List Bytes) (x : Result Bytes Stop) → IsKnown u (storing texts x)
  stored [] (Ok digest) = tt
  stored (text ∷ texts) (Ok digest) = tt
  stored texts (Err e) = tt

module _ (u : Bool) (none : u ≡ false) where
  declared : (x : Result Bytes ClientError) → IsKnown u (declaring x)
  declared (Ok text) = none
  declared (Err e) = tt

  tried : (keys : List ℕ) → IsKnown u (trying keys)
  tried [] = tt
  tried (n ∷ keys) = none

  heard : (keys : List ℕ) (x : Result Bytes Stop) → IsKnown u (hearing keys x)
  heard keys (Ok text) = none
  heard keys (Err (stop.Declined status.BadSignature)) = tried keys
  heard keys (Err other) = tt

  resigned : (keys : List ℕ) (x : Result Bytes ClientError) → IsKnown u (resigning keys x)
  resigned keys (Ok text) = none
  resigned keys (Err e) = tt

  to_store : (texts : List Bytes) → IsKnown u (Store texts)
  to_store [] = none
  to_store (text ∷ texts) = tt

  checked : (x : Result Asks ClientError) → IsKnown u (checking x)
  checked (Ok (step.Need digest)) = none
  checked (Ok (step.Store texts)) = to_store _
  checked (Ok (step.Broken rule)) = tt
  checked (Err e) = tt

  taken : (x : Result (Option Bytes) Stop) → IsKnown u (taking x)
  taken (Ok block) = none
  taken (Err e) = tt

  to_commit : (x : Result Bytes ClientError) (lost : List ℕ) → IsKnown u (committing x lost)
  to_commit (Ok text) lost = none
  to_commit (Err e) lost = tt

  told : (x : Result Status Stop) → IsKnown u (telling x)
  told (Ok status) = none
  told (Err e) = tt

  was_committed : (s : Status) → IsKnown u (committed s)
  was_committed status.Ok = none
  was_committed other = tt

  looked : (q : Question) (x : Result Sees ClientError) → IsKnown u (looking q x)
  looked q (Ok (look.Need digest)) = none
  looked q (Ok (look.Broken rule)) = tt
  looked q (Ok (look.File bytes)) = none
  looked q (Ok (look.Dir entries)) = none
  looked q (Ok look.None) = none
  looked q (Ok (look.Kind kind)) = none
  looked q (Ok (look.Free found)) = none
  looked q (Err e) = tt

  given : (q : Question) (x : Result (Option Bytes) Stop) → IsKnown u (giving q x)
  given q (Ok block) = none
  given q (Err e) = tt

-- once they are synced, none is unsynced
synced : (u : Bool) (next : Next) (x : Result (Unit {0}) Stop) → IsKnown false next → IsKnown (unsynced_by kind.Sync x u) (syncing next x)
synced u next (Ok x) is = is
synced u next (Err e) is = tt

synced_by : (u : Bool) (r : Asked) (x : Result Bytes TransportError) (next n : Next) → r ≡ sync → n ≡ syncing next (synced_in x) → IsKnown false next → IsKnown (unsynced_after (Sends r x) u) n
synced_by u r x next n is same known =
    at_next (unsynced_after (Sends r x) u) n _ same
    (subst (λ (k : RequestKind). IsKnown (unsynced_by k (synced_in x) u) (syncing next (synced_in x))) (sym (ap (λ (a : Asked). a.kind) is)) (synced u next (synced_in x) known))

-- another request changes nothing
same_after : (u : Bool) (r s : Asked) (x : Result Bytes TransportError) (n : Next) → r ≡ s → IsKnown (unsynced_by s.kind (synced_in x) u) n → IsKnown (unsynced_after (Sends r x) u) n
same_after u r s x n is known = subst (λ (a : Asked). IsKnown (unsynced_by a.kind (synced_in x) u) n) (sym is) known

-- ---- a move

known_after : (s : State) (now : Next) (m : Move) (next : Next) (u : Bool) → Follows s now m next → IsKnown u now → IsKnown (unsynced_after m u) next
known_after s (Over e) m next u h is = absurd h
known_after s (Ready before) (Sends r x) next u h is = at_next _ next _ h.1 (laid _ before r.payload (payload_in x))
known_after s (Unsynced before) (Sends r x) next u (inl h) is = at_next _ next _ h.1 (laid _ before r.payload (payload_in x))
known_after s (Unsynced before) (Sends r x) next u (inr h) is = synced_by u r x (Ready before) next h.0 h.1 refl
known_after s (Ready before) (Calls (Begins changes texts x)) next u h is = at_next u next _ h.2 (declared u is x)
known_after s (Ready before) (Calls (Looks q x)) next u h is = at_next u next _ h.1 (looked u is q x)
known_after s (Ready []) LacksLeaves next u h is = at_next u next _ h.1 tt
known_after s (Ready []) LacksPlan next u h is = at_next u next _ h tt
known_after s (Update text left) (Sends r x) next u h is =
    same_after u r _ x next h.0 (at_next u next _ h.1 (heard u is (unwrap_or left (keys_to_try s)) (payload_in x)))
known_after s (Resign n keys) (Calls (Resigns m x)) next u h is = at_next u next _ h.1 (resigned u is keys x)
known_after s (Hear text) (Calls (Hears reply x)) next u h is = at_next u next _ h.1 (checked u is x)
known_after s (Fetch digest) (Sends r x) next u h is = same_after u r _ x next h.0 (at_next u next _ h.1 (taken u is (block_in x)))
known_after s (Take block) (Calls (Takes handed x)) next u h is = at_next u next _ h.1 (checked u is x)
known_after s (Store (text ∷ texts)) (Sends r x) next u h is = at_next _ next _ h.1 (stored _ texts (payload_in x))
known_after s Sync (Sends r x) next u h is = synced_by u r x (Store []) next h.0 h.1 refl
known_after s (Store []) (Calls (Signs x lost)) next u h is = at_next u next _ h (to_commit u is x lost)
known_after s (CommitNew text lost) (Sends r x) next u h is = same_after u r _ x next h.0 (at_next u next _ h.1 (told u is (status_in x)))
known_after s (CommitNew text (n ∷ lost)) LacksNumbers next u h is = at_next u next _ h tt
known_after s (Commit text) (Sends r x) next u h is = same_after u r _ x next h.0 (at_next u next _ h.1 (told u is (status_in x)))
known_after s (Tell told) (Calls (Commits handed)) next u h is = at_next u next _ h.1 (was_committed u is told)
known_after s (FetchAt q digest) (Sends r x) next u h is = same_after u r _ x next h.0 (at_next u next _ h.1 (given u is q (block_in x)))
known_after s (GiveAt q block) (Calls (Gives p handed x)) next u h is = at_next u next _ h.2 (looked u is q x)
known_after s now m next u h is = absurd h

signs_synced : (s : State) (now : Next) (m : Move) (next : Next) (u : Bool) → Follows s now m next → IsKnown u now → SignsSynced u m
signs_synced s now (Sends r x) next u h is = tt
signs_synced s now LacksLeaves next u h is = tt
signs_synced s now LacksPlan next u h is = tt
signs_synced s now LacksNumbers next u h is = tt
signs_synced s (Ready before) (Calls (Begins changes texts x)) next u h is = is
signs_synced s (Resign n keys) (Calls (Resigns m x)) next u h is = is
signs_synced s (Store []) (Calls (Signs x lost)) next u h is = is
signs_synced s now (Calls (Hears reply x)) next u h is = tt
signs_synced s now (Calls (Takes block x)) next u h is = tt
signs_synced s now (Calls (Commits told)) next u h is = tt
signs_synced s now (Calls (Looks q x)) next u h is = tt
signs_synced s now (Calls (Gives q block x)) next u h is = tt
signs_synced s now m next u h is = absurd h

-- ---- all moves

pub all_sign_synced : {T : Type 0} (answers : Answering T) (a : At T) (ms : List Move) (b : At T) (u : Bool) → IsKnown u a.next → Moves answers a ms b → AllSignSynced u ms
all_sign_synced answers a [] b u is run = tt
all_sign_synced answers a (m ∷ ms) b u is (mid, one, more) =
    let follows = follows_in answers a m mid one in
    (signs_synced a.client a.next m mid.next u follows is, all_sign_synced answers mid ms b (unsynced_after m u) (known_after a.client a.next m mid.next u follows is) more)
