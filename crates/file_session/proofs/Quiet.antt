-- Where looks are all that is told, no operation is made.
use Rattle.std.proofs.Common.{◌≡◌, List, [], ◌∷◌, ◌++◌, Option, Result, Ok, Err, sym, subst, ap, inl, inr}
use Rattle.std.specs.List.{All}
use Rattle.std.proofs.lemmas.List.Elements.{All-cons, All-nil}
use Rattle.layout.specs.Types.{Bytes}
use Rattle.client_tree.specs.declared.questions.Question.{Question}
use Rattle.wire.specs.declared.kinds.RequestKind.{RequestKind}
use Rattle.wire.specs.declared.kinds.RequestKind.TheVariants as kind
use Rattle.client_releases.specs.declared.error.ClientError.{ClientError}
use Rattle.client_verify.specs.State.{State}
use Rattle.client_verify.specs.declared.look.Look.TheVariants as look
use Rattle.client_steps.specs.Steps.{Sees}
use Rattle.transport.specs.Asked.{Asked}
use Rattle.file_session.specs.declared.stop.Stop.{Stop}
use Rattle.file_session.specs.declared.stop.Stop.TheVariants as stop
use Rattle.file_session.specs.Calls.{Begins, Gives, Looks}
use Rattle.file_session.specs.Order.{Calls, Commit, CommitNew, Fetch, FetchAt, Follows, GiveAt, Hear, LacksLeaves, LacksPlan, Move, Next, Over, Ready, Resign, Sends, Store, Sync, Take, Tell, Unsynced, Update, giving, laying, looking, syncing}
use Rattle.file_session.specs.Replies.{block_in, payload_in, synced_in}
use Rattle.file_session.specs.Told.{IsForBlocks, MakesNothing}
use Rattle.file_session.specs.Went.{Answering, At, Begun, Event, Moves, Saw, Seen, Signed, Unbegun, Unplanned, events, events_of, looks}
use Rattle.file_session.proofs.Given.{follows_in}

-- ---- what is told

abbrev IsOfLook : Event → Type 0
IsOfLook (Begun changes laid) = ⊥
IsOfLook Unbegun = ⊥
IsOfLook (Saw s) = Unit {0}
IsOfLook (Signed lost) = ⊥
IsOfLook Unplanned = Unit {0}

abbrev pub AreOfLooks : List Event → Type 0
AreOfLooks [] = Unit {0}
AreOfLooks (e ∷ es) = IsOfLook e × AreOfLooks es

pub are_of_looks : (seen : List Seen) (es : List Event) → AreOfLooks es → AreOfLooks (looks seen ++ es)
are_of_looks [] es are = are
are_of_looks (s ∷ seen) es are = (tt, are_of_looks seen es are)

first_of_looks : (es fs : List Event) → AreOfLooks (es ++ fs) → AreOfLooks es
first_of_looks [] fs are = tt
first_of_looks (e ∷ es) fs are = (are.0, first_of_looks es fs are.1)

later_of_looks : (es fs : List Event) → AreOfLooks (es ++ fs) → AreOfLooks fs
later_of_looks [] fs are = are
later_of_looks (e ∷ es) fs are = later_of_looks es fs are.1

-- ---- what comes next

-- no operation is under way
abbrev pub IsAsking : Next → Type 0
IsAsking (Ready laid) = Unit {0}
IsAsking (Unsynced laid) = Unit {0}
IsAsking (FetchAt q digest) = Unit {0}
IsAsking (GiveAt q block) = Unit {0}
IsAsking (Over e) = Unit {0}
IsAsking other = ⊥

asks_laying : (laid : List Bytes) (text : Bytes) (r : Result Bytes Stop) → IsAsking (laying laid text r)
asks_laying laid text (Ok digest) = tt
asks_laying laid text (Err e) = tt

asks_syncing : (laid : List Bytes) (r : Result (Unit {0}) Stop) → IsAsking (syncing (Ready laid) r)
asks_syncing laid (Ok x) = tt
asks_syncing laid (Err e) = tt

asks_giving : (q : Question) (r : Result (Option Bytes) Stop) → IsAsking (giving q r)
asks_giving q (Ok block) = tt
asks_giving q (Err e) = tt

asks_looking : (q : Question) (x : Result Sees ClientError) → IsAsking (looking q x)
asks_looking q (Ok (look.Need digest)) = tt
asks_looking q (Ok (look.Broken rule)) = tt
asks_looking q (Ok (look.File bytes)) = tt
asks_looking q (Ok (look.Dir entries)) = tt
asks_looking q (Ok look.None) = tt
asks_looking q (Ok (look.Kind kind)) = tt
asks_looking q (Ok (look.Free found)) = tt
asks_looking q (Err e) = tt

to : (now next : Next) → next ≡ now → IsAsking now → IsAsking next
to now next is asks = subst IsAsking (sym is) asks

of_kind : (r : Asked) (k : RequestKind) → r.kind ≡ k → IsForBlocks k → IsForBlocks r.kind
of_kind r k is for = subst IsForBlocks (sym is) for

-- ---- each move

one_quiet : (s : State) (now : Next) (m : Move) (next : Next) → IsAsking now → Follows s now m next → AreOfLooks (events_of m) → MakesNothing m × IsAsking next
one_quiet s (Over e) m next asks h are = absurd h
one_quiet s (Ready laid) (Sends r x) next asks h are = (of_kind r kind.Put (ap (λ (q : Asked). q.kind) h.0) tt, to _ next h.1 (asks_laying laid r.payload (payload_in x)))
one_quiet s (Unsynced laid) (Sends r x) next asks (inl h) are = (of_kind r kind.Put (ap (λ (q : Asked). q.kind) h.0) tt, to _ next h.1 (asks_laying laid r.payload (payload_in x)))
one_quiet s (Unsynced laid) (Sends r x) next asks (inr h) are = (of_kind r kind.Sync (ap (λ (q : Asked). q.kind) h.0) tt, to _ next h.1 (asks_syncing laid (synced_in x)))
one_quiet s (Ready laid) (Calls (Begins changes texts x)) next asks h are = absurd are.0
one_quiet s (Ready laid) (Calls (Looks q x)) next asks h are = (tt, to _ next h.1 (asks_looking q x))
one_quiet s (Ready []) LacksLeaves next asks h are = absurd are.0
one_quiet s (Ready []) LacksPlan next asks h are = (tt, to (Over stop.Memory) next h tt)
one_quiet s (FetchAt q digest) (Sends r x) next asks h are = (of_kind r kind.Get (ap (λ (p : Asked). p.kind) h.0) tt, to _ next h.1 (asks_giving q (block_in x)))
one_quiet s (GiveAt q block) (Calls (Gives p handed x)) next asks h are = (tt, to _ next h.2 (asks_looking q x))
one_quiet s (Update text left) m next asks h are = absurd asks
one_quiet s (Hear text) m next asks h are = absurd asks
one_quiet s (Resign n keys) m next asks h are = absurd asks
one_quiet s (Fetch digest) m next asks h are = absurd asks
one_quiet s (Take block) m next asks h are = absurd asks
one_quiet s (Store texts) m next asks h are = absurd asks
one_quiet s Sync m next asks h are = absurd asks
one_quiet s (CommitNew text lost) m next asks h are = absurd asks
one_quiet s (Commit text) m next asks h are = absurd asks
one_quiet s (Tell told) m next asks h are = absurd asks
one_quiet s now m next asks h are = absurd h

pub all_quiet : {T : Type 0} (answers : Answering T) (a b : At T) (ms : List Move) → IsAsking a.next → Moves answers a ms b → AreOfLooks (events ms) → All MakesNothing ms
all_quiet answers a b [] asks h are = All-nil MakesNothing
all_quiet answers a b (m ∷ ms) asks (mid, one, more) are =
    let k = one_quiet a.client a.next m mid.next asks (follows_in answers a m mid one) (first_of_looks (events_of m) (events ms) are) in
    All-cons MakesNothing m ms k.0 (all_quiet answers mid b ms k.1 more (later_of_looks (events_of m) (events ms) are))
