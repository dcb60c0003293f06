-- Who stopped a session.
use Rattle.std.proofs.Common.{◌≡◌, ℕ, List, [], ◌∷◌, Option, Some, None, Result, Ok, Err, refl, sym, ap, ◌∙◌, subst, inl, inr}
use Rattle.std.specs.Option.{unwrap_or}
use Rattle.layout.specs.Types.{Bytes}
use Rattle.wire.specs.Frame.{reply_of}
use Rattle.client_tree.specs.declared.questions.Question.{Question}
use Rattle.wire.specs.declared.kinds.Status.{Status}
use Rattle.wire.specs.declared.kinds.Status.TheVariants as status
use Rattle.client_releases.specs.declared.error.ClientError.{ClientError}
use Rattle.client_releases.specs.declared.error.ClientError.TheVariants as error
use Rattle.client_releases.specs.declared.phase.Phase.{Phase}
use Rattle.client_releases.specs.declared.phase.Phase.TheVariants as phase
use Rattle.client_verify.specs.declared.look.Look.TheVariants as look
use Rattle.client_verify.specs.declared.step.Step.TheVariants as step
use Rattle.client_verify.specs.State.{State}
use Rattle.client_steps.specs.Steps.{Asks, Sees}
use Rattle.file_session.specs.declared.stop.Stop.{Stop}
use Rattle.file_session.specs.declared.stop.Stop.TheVariants as stop
use Rattle.transport.specs.declared.transport.TransportError.{TransportError}
use Rattle.transport.specs.declared.transport.TransportError.TheVariants as fault
use Rattle.file_session.specs.Replies.{payload_by, payload_in, reply_in, block_by, block_in, status_in, synced_by, synced_in, then, or_cut}
use Rattle.file_session.specs.Calls.{Begins, Resigns, Hears, Takes, Signs, Commits, Looks, Gives}
use Rattle.file_session.specs.Order.{Move, Calls, Sends, LacksLeaves, LacksPlan, LacksNumbers, Next, Ready, Unsynced, Update, Hear, Resign, Fetch, Take, Store, Sync, CommitNew, Commit, Tell, FetchAt, GiveAt, Over, Follows}
use Rattle.file_session.specs.Order.{laying, declaring, trying, hearing, resigning, checking, taking, left_to_store, storing, syncing, committing, telling, committed, looking, giving, ready_or, resuming}
use Rattle.file_session.specs.Tries.{keys_to_try}
use Rattle.file_session.specs.Went.{Answering, At, IsMove, Moves}
use Rattle.file_session.specs.Sessions.{IsGivenFrom}
use Rattle.file_session.specs.Given.{GaveText, GaveStep, GaveLook, GaveReply, GaveAnswer, Gave, IsLast}

same : (d e : Stop) → Over e ≡ Over d → e ≡ d
same d e h = cc

-- ---- what each answer leads to

by_text : (f : Result Bytes ClientError → Next) (x : Result Bytes ClientError) (e : Stop) → ((n : Bytes) → Over e ≡ f (Ok n) → ⊥) → ((d : ClientError) → f (Err d) ≡ Over (stop.Client d)) → Over e ≡ f x → GaveText x e
by_text f (Ok n) e not is h = absurd (not n h)
by_text f (Err d) e not is h = same (stop.Client d) e (h ∙ is d)

by_step : (x : Result Asks ClientError) (e : Stop) → Over e ≡ checking x → GaveStep x e
by_step (Ok (step.Need digest)) e h = cc
by_step (Ok (step.Store texts)) e h = cc
by_step (Ok (step.Broken rule)) e h = cc
by_step (Err d) e h = cc

by_look : (q : Question) (x : Result Sees ClientError) (e : Stop) → Over e ≡ looking q x → GaveLook x e
by_look q (Ok (look.Need digest)) e h = cc
by_look q (Ok (look.Broken rule)) e h = cc
by_look q (Ok (look.File bytes)) e h = cc
by_look q (Ok (look.Dir entries)) e h = cc
by_look q (Ok look.None) e h = cc
by_look q (Ok (look.Kind kind)) e h = cc
by_look q (Ok (look.Free found)) e h = cc
by_look q (Err d) e h = cc

-- the keys that are tried lead on while there are any
by_keys : (keys : List ℕ) (e : Stop) → Over e ≡ trying keys → e ≡ stop.Declined status.BadSignature
by_keys [] e h = same (stop.Declined status.BadSignature) e h
by_keys (n ∷ keys) e h = cc h

by_hearing : (keys : List ℕ) (e d : Stop) → Over e ≡ hearing keys (Err d) → e ≡ d
by_hearing keys e (stop.Declined status.BadSignature) h = by_keys keys e h
by_hearing keys e other h = same other e h

-- an answer that leads on where it is read as a value, and stops where it isn't
module _ {X : Type 0} (f : Result X Stop → Next) (e : Stop) (not : (n : X) → Over e ≡ f (Ok n) → ⊥) (stopped : (d : Stop) → Over e ≡ f (Err d) → e ≡ d) where
  module _ (by : Status → Bytes → Result X Stop) (declined : (s : Status) (payload : Bytes) → Over e ≡ f (by s payload) → e ≡ stop.Declined s) where
    by_reply : (o : Option (Status × Bytes)) → Over e ≡ f (then (λ r. by r.0 r.1) (or_cut o)) → GaveReply o e
    by_reply None h = stopped stop.Cut h
    by_reply (Some reply) h = declined reply.0 reply.1 h

  module _ (by : Status → Bytes → Result X Stop) (declined : (s : Status) (payload : Bytes) → Over e ≡ f (by s payload) → e ≡ stop.Declined s) where
    by_answer : (x : Result Bytes TransportError) → Over e ≡ f (then (λ r. by r.0 r.1) (reply_in x)) → GaveAnswer x e
    by_answer (Ok body) h = by_reply by declined (reply_of body) h
    by_answer (Err fault.Fault) h = stopped stop.Cut h
    by_answer (Err fault.NoFrame) h = stopped stop.Cut h
    by_answer (Err fault.Memory) h = stopped stop.Memory h

payload_declined : (f : Result Bytes Stop → Next) (e : Stop) → ((n : Bytes) → Over e ≡ f (Ok n) → ⊥) → ((d : Stop) → Over e ≡ f (Err d) → e ≡ d) → (s : Status) (payload : Bytes) → Over e ≡ f (payload_by s payload) → e ≡ stop.Declined s
payload_declined f e not is status.Ok payload h = absurd (not payload h)
payload_declined f e not is other payload h = is (stop.Declined other) h

block_declined : (f : Result (Option Bytes) Stop → Next) (e : Stop) → ((n : Option Bytes) → Over e ≡ f (Ok n) → ⊥) → ((d : Stop) → Over e ≡ f (Err d) → e ≡ d) → (s : Status) (payload : Bytes) → Over e ≡ f (block_by s payload) → e ≡ stop.Declined s
block_declined f e not is status.Ok payload h = absurd (not (Some payload) h)
block_declined f e not is status.Absent payload h = absurd (not None h)
block_declined f e not is other payload h = is (stop.Declined other) h

by_payload : (f : Result Bytes Stop → Next) (x : Result Bytes TransportError) (e : Stop) → ((n : Bytes) → Over e ≡ f (Ok n) → ⊥) → ((d : Stop) → Over e ≡ f (Err d) → e ≡ d) → Over e ≡ f (payload_in x) → GaveAnswer x e
by_payload f x e not is h = by_answer f e not is payload_by (payload_declined f e not is) x h

by_block : (f : Result (Option Bytes) Stop → Next) (x : Result Bytes TransportError) (e : Stop) → ((n : Option Bytes) → Over e ≡ f (Ok n) → ⊥) → ((d : Stop) → Over e ≡ f (Err d) → e ≡ d) → Over e ≡ f (block_in x) → GaveAnswer x e
by_block f x e not is h = by_answer f e not is block_by (block_declined f e not is) x h

synced_declined : (next : Next) (e : Stop) → (Over e ≡ next → ⊥) → (s : Status) (payload : Bytes) → Over e ≡ syncing next (synced_by s) → e ≡ stop.Declined s
synced_declined next e not status.Ok payload h = absurd (not h)
synced_declined next e not status.Form payload h = absurd (not h)
synced_declined next e not other payload h = same (stop.Declined other) e h

by_synced : (next : Next) (x : Result Bytes TransportError) (e : Stop) → (Over e ≡ next → ⊥) → Over e ≡ syncing next (synced_in x) → GaveAnswer x e
by_synced next x e not h = by_answer (syncing next) e (λ n k. not k) (λ d k. same d e k) (λ s payload. synced_by s) (synced_declined next e not) x h

-- more is to come once a text was stored
not_left : (texts : List Bytes) (e : Stop) → Over e ≡ left_to_store texts → ⊥
not_left [] e h = cc
not_left (text ∷ texts) e h = cc

by_status : (x : Result Bytes TransportError) (e : Stop) → Over e ≡ telling (status_in x) → GaveAnswer x e
by_status x e h = by_answer telling e (λ n k. cc) (λ d k. same d e k) (λ s payload. Ok s) (λ s payload k. cc) x h

by_commit : (s : Status) (e : Stop) → Over e ≡ committed s → e ≡ stop.Declined s
by_commit status.Ok e h = cc
by_commit other e h = same (stop.Declined other) e h

-- ---- each move

pub gave_by : (s : State) (now : Next) (m : Move) (e : Stop) → Follows s now m (Over e) → Gave m e
gave_by s (Over d) m e h = absurd h
gave_by s (Ready []) LacksLeaves e h = same (stop.Client error.NoLeaf) e h.1
gave_by s (Ready []) LacksPlan e h = same stop.Memory e h
gave_by s (CommitNew text (n ∷ lost)) LacksNumbers e h = same stop.Memory e h
gave_by s (Ready laid) (Sends r x) e h = by_payload (laying laid r.payload) x e (λ n k. cc) (λ d k. same d e k) h.1
gave_by s (Unsynced laid) (Sends r x) e (inl h) = by_payload (laying laid r.payload) x e (λ n k. cc) (λ d k. same d e k) h.1
gave_by s (Unsynced laid) (Sends r x) e (inr h) = by_synced (Ready laid) x e (λ k. cc) h.1
gave_by s (Ready laid) (Calls (Begins changes texts x)) e h = by_text declaring x e (λ n k. cc) (λ d. refl) h.2
gave_by s (Ready laid) (Calls (Looks q x)) e h = by_look q x e h.1
gave_by s (Update text left) (Sends r x) e h = let keys = unwrap_or left (keys_to_try s) in by_payload (hearing keys) x e (λ n k. cc) (λ d k. by_hearing keys e d k) h.1
gave_by s (Resign n keys) (Calls (Resigns m x)) e h = by_text (resigning keys) x e (λ n k. cc) (λ d. refl) h.1
gave_by s (Hear text) (Calls (Hears reply x)) e h = by_step x e h.1
gave_by s (Fetch digest) (Sends r x) e h = by_block taking x e (λ n k. cc) (λ d k. same d e k) h.1
gave_by s (Take block) (Calls (Takes handed x)) e h = by_step x e h.1
gave_by s (Store (text ∷ texts)) (Sends r x) e h = by_payload (storing texts) x e (λ n k. not_left texts e k) (λ d k. same d e k) h.1
gave_by s Sync (Sends r x) e h = by_synced (Store []) x e (λ k. cc) h.1
gave_by s (Store []) (Calls (Signs x lost)) e h = by_text (λ r. committing r lost) x e (λ n k. cc) (λ d. refl) h
gave_by s (CommitNew text lost) (Sends r x) e h = by_status x e h.1
gave_by s (Commit text) (Sends r x) e h = by_status x e h.1
gave_by s (Tell told) (Calls (Commits handed)) e h = subst (λ (s : Status). e ≡ stop.Declined s) (sym h.0) (by_commit told e h.1)
gave_by s (FetchAt q digest) (Sends r x) e h = by_block (giving q) x e (λ n k. cc) (λ d k. same d e k) h.1
gave_by s (GiveAt q block) (Calls (Gives p handed x)) e h = by_look q x e h.2
gave_by s now m e h = absurd h

-- ---- the last move

abbrev pub IsOn : Next → Type 0
IsOn (Over e) = ⊥
IsOn other = Unit {0}

on_before : (s : State) (now : Next) (m : Move) (next : Next) → Follows s now m next → IsOn now
on_before s (Over e) m next h = h
on_before s (Ready laid) m next h = tt
on_before s (Unsynced laid) m next h = tt
on_before s (Update text left) m next h = tt
on_before s (Resign n keys) m next h = tt
on_before s (Hear text) m next h = tt
on_before s (Fetch digest) m next h = tt
on_before s (Take block) m next h = tt
on_before s (Store texts) m next h = tt
on_before s Sync m next h = tt
on_before s (CommitNew text lost) m next h = tt
on_before s (Commit text) m next h = tt
on_before s (Tell told) m next h = tt
on_before s (FetchAt q digest) m next h = tt
on_before s (GiveAt q block) m next h = tt

not_over : (now : Next) (e : Stop) → now ≡ Over e → IsOn now → ⊥
not_over now e is on = subst IsOn is on

pub follows_in : {T : Type 0} (answers : Answering T) (a : At T) (m : Move) (b : At T) → IsMove answers a m b → Follows a.client a.next m b.next
follows_in answers a (Calls call) b h = h.2
follows_in answers a (Sends r x) b h = h.2
follows_in answers a LacksLeaves b h = h.2
follows_in answers a LacksPlan b h = h.2
follows_in answers a LacksNumbers b h = h.2

pub last_gave : {T : Type 0} (answers : Answering T) (a b : At T) (ms : List Move) (e : Stop) → IsOn a.next → Moves answers a ms b → b.next ≡ Over e → IsLast ms e
last_gave answers a b [] e on h is = absurd (not_over a.next e (ap (λ x. x.next) (sym h) ∙ is) on)
last_gave answers a b (m ∷ []) e on (mid, one, more) is =
    let To : Next → Type 0 = λ n. Follows a.client a.next m n in
    record { before = []; last = m; moves = refl; gave = gave_by a.client a.next m e (subst To (ap (λ x. x.next) (sym more) ∙ is) (follows_in answers a m mid one)) }
last_gave answers a b (m ∷ (n ∷ ms)) e on (mid, one, more) is =
    let k = last_gave answers mid b (n ∷ ms) e (on_before mid.client mid.next n more.0.next (follows_in answers mid n more.0 more.1)) more is in
    record { before = m ∷ k.before; last = k.last; moves = ap (λ l. m ∷ l) k.moves; gave = k.gave }

none_moved : {T : Type 0} (answers : Answering T) (a b : At T) (ms : List Move) (e : Stop) → a.next ≡ Over e → Moves answers a ms b → ms ≡ []
none_moved answers a b [] e is h = refl
none_moved answers a b (m ∷ ms) e is (mid, one, more) = absurd (not_over a.next e is (on_before a.client a.next m mid.next (follows_in answers a m mid one)))

-- what stopped a session that began in this phase
pub given_from : {T X : Type 0} (answers : Answering T) (a b : At T) (p : Phase) (text : Bytes) (ms : List Move) (r : Result X Stop) → a.next ≡ resuming p text → b.next ≡ ready_or r → Moves answers a ms b → IsGivenFrom p ms r
given_from answers a b phase.Failed text ms r starts ends h = none_moved answers a b ms (stop.Client error.Device) starts h
given_from answers a b phase.Idle text ms (Ok x) starts ends h = tt
given_from answers a b phase.Declared text ms (Ok x) starts ends h = tt
given_from answers a b phase.Signed text ms (Ok x) starts ends h = tt
given_from answers a b phase.Idle text ms (Err e) starts ends h = last_gave answers a b ms e (subst IsOn (sym starts) tt) h ends
given_from answers a b phase.Declared text ms (Err e) starts ends h = last_gave answers a b ms e (subst IsOn (sym starts) tt) h ends
given_from answers a b phase.Signed text ms (Err e) starts ends h = last_gave answers a b ms e (subst IsOn (sym starts) tt) h ends
