-- While a session looks, its client looks for the answer to the session's question.
use Rattle.std.proofs.Common.{◌≡◌, ◌<◌, ℕ, List, [], ◌∷◌, Option, Some, None, Result, Ok, Err, IfSome, IsSome, IsSomeAnd, refl, sym, ap, ◌∙◌, subst, inl, inr}
use Rattle.std.specs.Option.{unwrap_or}
use Rattle.layout.specs.Types.{Bytes, Digest}
use Rattle.update_cert.specs.Change.{Change}
use Rattle.client_tree.specs.declared.questions.Question.{Question}
use Rattle.client_releases.specs.declared.error.ClientError.{ClientError}
use Rattle.client_releases.specs.declared.phase.Phase.{Phase}
use Rattle.client_releases.specs.declared.phase.Phase.TheVariants as phase
use Rattle.client_verify.specs.declared.look.Look.TheVariants as look
use Rattle.client_verify.specs.declared.step.Step.TheVariants as step
use Rattle.client_verify.specs.declared.view.Looking.{Looking}
use Rattle.client_verify.specs.Looked.{Given, Looked}
use Rattle.client_verify.specs.State.{AcceptedView, State, holding}
use Rattle.client_steps.specs.Steps.{Asks, HasGiven, HasLooked, Sees, principal_of}
use Rattle.transport.specs.declared.transport.TransportError.{TransportError}
use Rattle.transport.specs.Asked.{Asked}
use Rattle.wire.specs.declared.kinds.Status.{Status}
use Rattle.wire.specs.declared.kinds.Status.TheVariants as status
use Rattle.file_session.specs.declared.stop.Stop.{Stop}
use Rattle.file_session.specs.declared.stop.Stop.TheVariants as stop
use Rattle.file_session.specs.Calls.{Begins, Call, Commits, Gives, Hears, Looks, Resigns, Signs, Takes, step_of}
use Rattle.file_session.specs.Calls as session
use Rattle.file_session.specs.Order.{Calls, Commit, CommitNew, Fetch, FetchAt, Follows, GiveAt, Hear, LacksLeaves, LacksNumbers, LacksPlan, Move, Next, Over, Ready, Resign, Sends, Store, Sync, Take, Tell, Unsynced, Update}
use Rattle.file_session.specs.Order as order
use Rattle.file_session.specs.Replies.{block_in, payload_in, status_in, synced_in}
use Rattle.file_session.specs.Tries.{keys_to_try}

-- a look is under way for this question
abbrev pub LooksFor : Question → State → Type 0
LooksFor q s = (principal_of q < 96) × IsSomeAnd s.view (λ v. IsSomeAnd v.looking (λ l. l.question ≡ q))

-- it is for the one that the session asked
abbrev pub IsLooking : Next → State → Type 0
IsLooking (FetchAt q digest) s = LooksFor q s
IsLooking (GiveAt q block) s = LooksFor q s
IsLooking other s = Unit {0}

-- ---- what comes next where no look is under way

abbrev IsNoLook : Next → Type 0
IsNoLook (FetchAt q digest) = ⊥
IsNoLook (GiveAt q block) = ⊥
IsNoLook other = Unit {0}

no_look : (n : Next) (s : State) → IsNoLook n → IsLooking n s
no_look (FetchAt q digest) s none = absurd none
no_look (GiveAt q block) s none = absurd none
no_look other s none = tt

at_next : (n m : Next) (s : State) → n ≡ m → IsLooking m s → IsLooking n s
at_next n m s same is = subst (λ (x : Next). IsLooking x s) (sym same) is

laying : (laid : List Bytes) (text : Bytes) (x : Result Bytes Stop) → IsNoLook (order.laying laid text x)
laying laid text (Ok digest) = tt
laying laid text (Err e) = tt

declaring : (x : Result Bytes ClientError) → IsNoLook (order.declaring x)
declaring (Ok text) = tt
declaring (Err e) = tt

trying : (keys : List ℕ) → IsNoLook (order.trying keys)
trying [] = tt
trying (n ∷ keys) = tt

hearing : (keys : List ℕ) (x : Result Bytes Stop) → IsNoLook (order.hearing keys x)
hearing keys (Ok text) = tt
hearing keys (Err (stop.Declined status.BadSignature)) = trying keys
hearing keys (Err other) = tt

resigning : (keys : List ℕ) (x : Result Bytes ClientError) → IsNoLook (order.resigning keys x)
resigning keys (Ok text) = tt
resigning keys (Err e) = tt

checking : (x : Result Asks ClientError) → IsNoLook (order.checking x)
checking (Ok (step.Need digest)) = tt
checking (Ok (step.Store texts)) = tt
checking (Ok (step.Broken rule)) = tt
checking (Err e) = tt

taking : (x : Result (Option Bytes) Stop) → IsNoLook (order.taking x)
taking (Ok block) = tt
taking (Err e) = tt

left_to_store : (texts : List Bytes) → IsNoLook (order.left_to_store texts)
left_to_store [] = tt
left_to_store (text ∷ texts) = tt

storing : (texts : List Bytes) (x : Result Bytes Stop) → IsNoLook (order.storing texts x)
storing texts (Ok digest) = left_to_store texts
storing texts (Err e) = tt

syncing : (next : Next) (x : Result (Unit {0}) Stop) → IsNoLook next → IsNoLook (order.syncing next x)
syncing next (Ok x) none = none
syncing next (Err e) none = tt

committing : (x : Result Bytes ClientError) (lost : List ℕ) → IsNoLook (order.committing x lost)
committing (Ok text) lost = tt
committing (Err e) lost = tt

telling : (x : Result Status Stop) → IsNoLook (order.telling x)
telling (Ok told) = tt
telling (Err e) = tt

committed : (st : Status) → IsNoLook (order.committed st)
committed status.Ok = tt
committed other = tt

giving : (q : Question) (s : State) (x : Result (Option Bytes) Stop) → LooksFor q s → IsLooking (order.giving q x) s
giving q s (Ok block) is = is
giving q s (Err e) is = tt

pub resuming : (p : Phase) (text : Bytes) (s : State) → IsLooking (order.resuming p text) s
resuming phase.Idle text s = tt
resuming phase.Declared text s = tt
resuming phase.Signed text s = tt
resuming phase.Failed text s = tt

-- ---- exchanges

pub sent : (n : Next) (r : Asked) (x : Result Bytes TransportError) (m : Next) (s : State) → Follows s n (Sends r x) m → IsLooking n s → IsLooking m s
sent (Ready laid) r x m s h is = at_next m _ s h.1 (no_look _ s (laying laid r.payload (payload_in x)))
sent (Unsynced laid) r x m s (inl h) is = at_next m _ s h.1 (no_look _ s (laying laid r.payload (payload_in x)))
sent (Unsynced laid) r x m s (inr h) is = at_next m _ s h.1 (no_look _ s (syncing (Ready laid) (synced_in x) tt))
sent (Update text left) r x m s h is = at_next m _ s h.1 (no_look _ s (hearing (unwrap_or left (keys_to_try s)) (payload_in x)))
sent (Fetch digest) r x m s h is = at_next m _ s h.1 (no_look _ s (taking (block_in x)))
sent (Store (text ∷ texts)) r x m s h is = at_next m _ s h.1 (no_look _ s (storing texts (payload_in x)))
sent (Store []) r x m s h is = absurd h
sent Sync r x m s h is = at_next m _ s h.1 (no_look _ s (syncing (Store []) (synced_in x) tt))
sent (CommitNew text lost) r x m s h is = at_next m _ s h.1 (no_look _ s (telling (status_in x)))
sent (Commit text) r x m s h is = at_next m _ s h.1 (no_look _ s (telling (status_in x)))
sent (FetchAt q digest) r x m s h is = at_next m _ s h.1 (giving q s (block_in x) is)
sent (Over e) r x m s h is = absurd h
sent (Hear text) r x m s h is = absurd h
sent (Resign k keys) r x m s h is = absurd h
sent (Take block) r x m s h is = absurd h
sent (Tell told) r x m s h is = absurd h
sent (GiveAt q block) r x m s h is = absurd h

-- ---- calls

looked_for : (q p : Question) (s : State) (v : AcceptedView) (digest : Digest) (new : State) → q ≡ p → principal_of p < 96 → Looked {A = Unit {0}} s v q (look.Need digest) new → LooksFor p new
looked_for q p s v digest new same low h =
    (low, subst (λ (o : Option AcceptedView). IsSomeAnd o (λ w. IsSomeAnd w.looking (λ l. l.question ≡ p))) (sym (ap (λ (n : State). n.view) h.2)) same)

looks_on : (q : Question) (s : State) (digest : Digest) (new : State) → HasLooked s q (Ok (look.Need digest)) new → LooksFor q new
looks_on q s digest new h = go s.view h.sees h.looked
  where
    go : (o : Option AcceptedView) → IsSome o → IfSome o (λ v. Looked {A = Unit {0}} s v q (look.Need digest) new) → LooksFor q new
    go None some is = absurd (cc some)
    go (Some v) some is = looked_for q q s v digest new refl h.principal is

gives_on : (q : Question) (s : State) (block : Option Bytes) (digest : Digest) (new : State) → LooksFor q s → HasGiven s block (Ok (look.Need digest)) new → LooksFor q new
gives_on q s block digest new was h = go s.view was.1 h.given
  where
    on_block : (b : Option Bytes) (v : AcceptedView) (l : Looking) → l.question ≡ q → IsSomeAnd b (λ text. Looked {A = Unit {0}} (holding s text) v l.question (look.Need digest) new) → LooksFor q new
    on_block None v l same is = absurd is
    on_block (Some text) v l same is = looked_for l.question q (holding s text) v digest new same was.0 is

    in_view : (v : AcceptedView) (o : Option Looking) → IsSomeAnd o (λ l. l.question ≡ q) → IfSome o (λ l. Given {A = Unit {0}} s v l block (look.Need digest) new) → LooksFor q new
    in_view v None same is = absurd same
    in_view v (Some l) same is = on_block block v l same is.1

    go : (o : Option AcceptedView) → IsSomeAnd o (λ v. IsSomeAnd v.looking (λ l. l.question ≡ q)) → IfSome o (λ v. IfSome v.looking (λ l. Given {A = Unit {0}} s v l block (look.Need digest) new)) → LooksFor q new
    go None same is = absurd same
    go (Some v) same is = in_view v v.looking same is

looking : (q : Question) (x : Result Sees ClientError) (new : State) → ((digest : Digest) → x ≡ Ok (look.Need digest) → LooksFor q new) → IsLooking (order.looking q x) new
looking q (Ok (look.Need digest)) new on = on digest refl
looking q (Ok (look.Broken rule)) new on = tt
looking q (Ok (look.File bytes)) new on = tt
looking q (Ok (look.Dir entries)) new on = tt
looking q (Ok look.None) new on = tt
looking q (Ok (look.Kind kind)) new on = tt
looking q (Ok (look.Free found)) new on = tt
looking q (Err e) new on = tt

pub begins_next : (s : State) (n : Next) (changes : List (Change Digest)) (texts : List Bytes) (x : Result Bytes ClientError) (m : Next) → Follows s n (Calls (Begins changes texts x)) m → m ≡ order.declaring x
begins_next s (Ready laid) changes texts x m h = h.2
begins_next s (Store []) changes texts x m h = absurd h
begins_next s (Store (t ∷ ts)) changes texts x m h = absurd h
begins_next s other changes texts x m h = absurd h

pub resigns_next : (s : State) (n : Next) (k : ℕ) (x : Result Bytes ClientError) (m : Next) → Follows s n (Calls (Resigns k x)) m → (keys : List ℕ) × (m ≡ order.resigning keys x)
resigns_next s (Resign j keys) k x m h = (keys, h.1)
resigns_next s (Store []) k x m h = absurd h
resigns_next s (Store (t ∷ ts)) k x m h = absurd h
resigns_next s other k x m h = absurd h

pub hears_next : (s : State) (n : Next) (text : Bytes) (x : Result Asks ClientError) (m : Next) → Follows s n (Calls (Hears text x)) m → m ≡ order.checking x
hears_next s (Hear told) text x m h = h.1
hears_next s (Store []) text x m h = absurd h
hears_next s (Store (t ∷ ts)) text x m h = absurd h
hears_next s other text x m h = absurd h

pub takes_next : (s : State) (n : Next) (block : Option Bytes) (x : Result Asks ClientError) (m : Next) → Follows s n (Calls (Takes block x)) m → m ≡ order.checking x
takes_next s (Take told) block x m h = h.1
takes_next s (Store []) block x m h = absurd h
takes_next s (Store (t ∷ ts)) block x m h = absurd h
takes_next s other block x m h = absurd h

pub signs_next : (s : State) (n : Next) (x : Result Bytes ClientError) (lost : List ℕ) (m : Next) → Follows s n (Calls (Signs x lost)) m → m ≡ order.committing x lost
signs_next s (Store []) x lost m h = h
signs_next s (Store (text ∷ texts)) x lost m h = absurd h
signs_next s other x lost m h = absurd h

pub commits_next : (s : State) (n : Next) (st : Status) (m : Next) → Follows s n (Calls (Commits st)) m → m ≡ order.committed st
commits_next s (Tell told) st m h = h.1 ∙ ap order.committed (sym h.0)
commits_next s (Store []) st m h = absurd h
commits_next s (Store (t ∷ ts)) st m h = absurd h
commits_next s other st m h = absurd h

pub looks_next : (s : State) (n : Next) (q : Question) (x : Result Sees ClientError) (m : Next) → Follows s n (Calls (Looks q x)) m → m ≡ order.looking q x
looks_next s (Ready laid) q x m h = h.1
looks_next s (Store []) q x m h = absurd h
looks_next s (Store (t ∷ ts)) q x m h = absurd h
looks_next s other q x m h = absurd h

-- the question of a block that is handed in is the one of the look
pub asked_for : (n : Next) (q : Question) (block : Option Bytes) (x : Result Sees ClientError) (m : Next) (s : State) → Follows s n (Calls (Gives q block x)) m → IsLooking n s → LooksFor q s
asked_for (GiveAt p told) q block x m s h is = subst (λ (r : Question). LooksFor r s) (sym h.0) is
asked_for (Store []) q block x m s h is = absurd h
asked_for (Store (t ∷ ts)) q block x m s h is = absurd h
asked_for other q block x m s h is = absurd h

pub gives_next : (s : State) (n : Next) (q : Question) (block : Option Bytes) (x : Result Sees ClientError) (m : Next) → Follows s n (Calls (Gives q block x)) m → m ≡ order.looking q x
gives_next s (GiveAt p told) q block x m h = h.2 ∙ ap (λ (r : Question). order.looking r x) (sym h.0)
gives_next s (Store []) q block x m h = absurd h
gives_next s (Store (t ∷ ts)) q block x m h = absurd h
gives_next s other q block x m h = absurd h

-- ---- after a call

pub after_call : (n m : Next) (call : Call) (s new : State) → session.Leads s call new → Follows s n (Calls call) m → IsLooking n s → IsLooking m new
unfolding session.Leads
after_call n m (Begins changes texts x) s new leads h is = at_next m _ new (begins_next s n changes texts x m h) (no_look _ new (declaring x))
after_call n m (Resigns k x) s new leads h is = let to = resigns_next s n k x m h in at_next m _ new to.1 (no_look _ new (resigning to.0 x))
after_call n m (Hears text x) s new leads h is = at_next m _ new (hears_next s n text x m h) (no_look _ new (checking x))
after_call n m (Takes block x) s new leads h is = at_next m _ new (takes_next s n block x m h) (no_look _ new (checking x))
after_call n m (Signs x lost) s new leads h is = at_next m _ new (signs_next s n x lost m h) (no_look _ new (committing x lost))
after_call n m (Commits st) s new leads h is = at_next m _ new (commits_next s n st m h) (no_look _ new (committed st))
after_call n m (Looks q x) s new leads h is =
    at_next m _ new (looks_next s n q x m h)
    (looking q x new (λ digest same. looks_on q s digest new (subst (λ (a : Result Sees ClientError). HasLooked s q a new) same leads.0)))
after_call n m (Gives q block x) s new leads h is =
    let was = asked_for n q block x m s h is in
    at_next m _ new (gives_next s n q block x m h)
    (looking q x new (λ digest same. gives_on q s block digest new was (subst (λ (a : Result Sees ClientError). HasGiven s block a new) same leads.0)))

-- ---- where leaves are lacking, or memory is refused

no_leaves : (s : State) (n m : Next) → Follows s n LacksLeaves m → IsNoLook m
no_leaves s (Ready []) m h = subst IsNoLook (sym h.1) tt
no_leaves s (Ready (t ∷ ts)) m h = absurd h
no_leaves s (Store []) m h = absurd h
no_leaves s (Store (t ∷ ts)) m h = absurd h
no_leaves s (CommitNew text []) m h = absurd h
no_leaves s (CommitNew text (k ∷ lost)) m h = absurd h
no_leaves s other m h = absurd h

no_plan : (s : State) (n m : Next) → Follows s n LacksPlan m → IsNoLook m
no_plan s (Ready []) m h = subst IsNoLook (sym h) tt
no_plan s (Ready (t ∷ ts)) m h = absurd h
no_plan s (Store []) m h = absurd h
no_plan s (Store (t ∷ ts)) m h = absurd h
no_plan s (CommitNew text []) m h = absurd h
no_plan s (CommitNew text (k ∷ lost)) m h = absurd h
no_plan s other m h = absurd h

no_numbers : (s : State) (n m : Next) → Follows s n LacksNumbers m → IsNoLook m
no_numbers s (CommitNew text (k ∷ lost)) m h = subst IsNoLook (sym h) tt
no_numbers s (CommitNew text []) m h = absurd h
no_numbers s (Ready []) m h = absurd h
no_numbers s (Ready (t ∷ ts)) m h = absurd h
no_numbers s (Store []) m h = absurd h
no_numbers s (Store (t ∷ ts)) m h = absurd h
no_numbers s other m h = absurd h

pub lacks_leaves : (n m : Next) (s : State) → Follows s n LacksLeaves m → IsLooking m s
lacks_leaves n m s h = no_look m s (no_leaves s n m h)

pub lacks_plan : (n m : Next) (s : State) → Follows s n LacksPlan m → IsLooking m s
lacks_plan n m s h = no_look m s (no_plan s n m h)

pub lacks_numbers : (n m : Next) (s : State) → Follows s n LacksNumbers m → IsLooking m s
lacks_numbers n m s h = no_look m s (no_numbers s n m h)
