-- The calls of a client: each is a step of a run, and asks for fewer blocks than before.
use Rattle.std.proofs.Common.{◌≡◌, ◌≢◌, ◌<◌, ◌^◌, ℕ, length, Option, Some, None, Result, Ok, Err, IfOk, IfSome, IsSome, IsSomeAnd, IfErr, OnErr, OnOk, arith, refl, ap, ◌∙◌}
use Rattle.std.specs.Prelude.{IsErrOf}
use Rattle.std.specs.declared.vec.Vec.{Vec}
use Rattle.layout.specs.Types.{Bytes}
use Rattle.leaf_ledger.specs.Ledger.{LeafNumber}
use Rattle.wire.specs.declared.kinds.Status.{Status}
use Rattle.wire.specs.declared.kinds.Status.TheVariants as status
use Rattle.client_releases.specs.declared.phase.Phase.TheVariants as phase
use Rattle.client_releases.specs.Releasing.{IsKept, structure_record, under}
use Rattle.client_releases.specs.Told.{Released}
use Rattle.client_releases.specs.declared.error.ClientError.{ClientError}
use Rattle.client_verify.specs.declared.look.Look.{Look}
use Rattle.client_verify.specs.declared.look.Look.TheVariants as look
use Rattle.client_verify.specs.declared.step.Step.{Step}
use Rattle.client_verify.specs.declared.step.Step.TheVariants as step
use Rattle.client_verify.specs.State.{AcceptedView, Checked, IsOfDeclared, Ready, State, asked_of, committed, failed, on, over, signed_over, signed_text, signing_key}
use Rattle.client_verify.specs.Standing.{HasMore, IsLacking, LookHoldsMore, OnlyJudges}
use Rattle.client_verify.specs.Standing as client
use Rattle.client_verify.specs.Holding.{LookHoldsAfter}
use Rattle.client_verify.specs.Looked.{Looked}
use Rattle.client_steps.specs.Steps.{FromOpen, HasLooked, HasResigned, IsSound, Open, principal_of}
use Rattle.client_steps.specs.Anywhere.{asked, on_ok, seen}
use Rattle.client_steps.proofs.Anywhere.{look_holds, looked}
use Rattle.client_tree.specs.declared.questions.Question.{Question}
use Rattle.client_releases.specs.declared.error.ClientError.TheVariants as error
use Rattle.file_session.specs.Calls.{AsksForLacking, Call, Gives, Hears, Leads, Looks, Takes, TellsLost, step_of}
use Rattle.file_session.specs.Sessions.{IsUnfinished}
use Rattle.file_session.specs.Waits.{AsksFewer, AsksFewerAt, WaitsAt, left}

pub leads : (s : State) (call : Call) (new : State) → FromOpen s (step_of call) (Open new) → IsSound (Open new) → TellsLost call new → AsksForLacking s call new → Leads s call new
unfolding Leads
leads s call new h sound k more = (h, sound, k, more)

pub asks_for_lacking : (s : State) (call : Call) (new : State) → Leads s call new → AsksForLacking s call new
unfolding Leads
asks_for_lacking s call new h = h.3

-- ---- an operation is under way

declared_is : (s : State) → s.phase ≡ phase.Declared → IsUnfinished s
declared_is s is = λ idle. absurd cc

signed_is : (s : State) → s.phase ≡ phase.Signed → IsUnfinished s
signed_is s is = λ idle. absurd cc

failed_is : (s : State) → s.phase ≡ phase.Failed → IsUnfinished s
failed_is s is = λ idle. absurd cc

pub told_unfinished : (st : Status) (s new : State) → s.phase ≡ phase.Signed → new ≡ committed st s → (st ≡ status.Ok → ⊥) → IsUnfinished new
told_unfinished status.Ok s new is made not = absurd (not refl)
told_unfinished other s new is made not = signed_is new (ap (λ (x : State). x.phase) made ∙ is)

pub same_phase : {X E : Type 0} (s new : State) (x : Result X E) → OnOk x (OnlyJudges s new) → OnErr x (new ≡ s) → new.phase ≡ s.phase
same_phase s new (Ok x) only err = ap (λ (n : State). n.phase) only
same_phase s new (Err e) only err = ap (λ (n : State). n.phase) err

pub of_declared : (r : Released) (o : Option Ready) → IsSome o → IfSome o (λ y. IsOfDeclared r y.lists.own.plan) → r.phase ≡ phase.Declared
of_declared r None some h = absurd cc
of_declared r (Some y) some h = h.is_declared

-- ---- a structure was signed, or it wasn't

signed_at : (s new : State) (o : Option Ready) → IsSome o → IfSome o (λ r. (leaf : LeafNumber) × IsKept leaf (structure_record (signed_text s leaf r)) (under (signing_key s r) s.devices) (under (signing_key s r) new.devices) × (new ≡ over new.blocks (on new.devices (signed_over s leaf r)))) → new.phase ≡ phase.Signed
signed_at s new None some h = absurd cc
signed_at s new (Some r) some (leaf, kept, is) = ap (λ (n : State). n.phase) is

-- the operation isn't committed
pub sign_unfinished : {A : Type 0} (s new : State) (x : Result (Vec ℕ A) ClientError) → IsSome s.accepted → s.phase ≡ phase.Declared
    → OnOk x (IfSome s.accepted (λ r. (leaf : LeafNumber) × IsKept leaf (structure_record (signed_text s leaf r)) (under (signing_key s r) s.devices) (under (signing_key s r) new.devices) × (new ≡ over new.blocks (on new.devices (signed_over s leaf r)))))
    → (IsErrOf x error.Device → new ≡ on new.devices (failed s)) → IfErr x (λ e. e ≢ error.Device → new ≡ s)
    → IsUnfinished new
sign_unfinished s new (Ok x) some is ok device err = signed_is new (signed_at s new s.accepted some ok)
sign_unfinished s new (Err error.Device) some is ok device err = failed_is new (ap (λ (n : State). n.phase) (device refl))
sign_unfinished s new (Err error.Memory) some is ok device err = declared_is new (ap (λ (n : State). n.phase) (err (λ e. absurd cc)) ∙ is)
sign_unfinished s new (Err error.NoLeaf) some is ok device err = declared_is new (ap (λ (n : State). n.phase) (err (λ e. absurd cc)) ∙ is)
sign_unfinished s new (Err error.NoNumber) some is ok device err = declared_is new (ap (λ (n : State). n.phase) (err (λ e. absurd cc)) ∙ is)
sign_unfinished s new (Err error.NoKey) some is ok device err = declared_is new (ap (λ (n : State). n.phase) (err (λ e. absurd cc)) ∙ is)
sign_unfinished s new (Err error.Foreign) some is ok device err = declared_is new (ap (λ (n : State). n.phase) (err (λ e. absurd cc)) ∙ is)
sign_unfinished s new (Err error.Damaged) some is ok device err = declared_is new (ap (λ (n : State). n.phase) (err (λ e. absurd cc)) ∙ is)

-- ---- the declared certificate was signed again, or it wasn't

module _ (s new : State) (n : ℕ) where
  -- the operation isn't committed
  pub resign_unfinished : (x : Result Bytes ClientError) → HasResigned s n x new → IsUnfinished new
  resign_unfinished (Ok text) h = declared_is new (ap (λ (t : State). t.phase) h.resigned.2 ∙ h.declared)
  resign_unfinished (Err error.Device) h = failed_is new (ap (λ (t : State). t.phase) (h.fails refl))
  resign_unfinished (Err error.Memory) h = declared_is new (ap (λ (t : State). t.phase) (h.err (λ e. absurd cc)) ∙ h.declared)
  resign_unfinished (Err error.NoLeaf) h = declared_is new (ap (λ (t : State). t.phase) (h.err (λ e. absurd cc)) ∙ h.declared)
  resign_unfinished (Err error.NoNumber) h = declared_is new (ap (λ (t : State). t.phase) (h.err (λ e. absurd cc)) ∙ h.declared)
  resign_unfinished (Err error.NoKey) h = declared_is new (ap (λ (t : State). t.phase) (h.err (λ e. absurd cc)) ∙ h.declared)
  resign_unfinished (Err error.Foreign) h = declared_is new (ap (λ (t : State). t.phase) (h.err (λ e. absurd cc)) ∙ h.declared)
  resign_unfinished (Err error.Damaged) h = declared_is new (ap (λ (t : State). t.phase) (h.err (λ e. absurd cc)) ∙ h.declared)

  -- the keys are the same
  pub resign_secrets : (x : Result Bytes ClientError) → HasResigned s n x new → new.secrets ≡ s.secrets
  resign_secrets (Ok text) h = ap (λ (t : State). t.secrets) h.resigned.2
  resign_secrets (Err error.Device) h = ap (λ (t : State). t.secrets) (h.fails refl)
  resign_secrets (Err error.Memory) h = ap (λ (t : State). t.secrets) (h.err (λ e. absurd cc))
  resign_secrets (Err error.NoLeaf) h = ap (λ (t : State). t.secrets) (h.err (λ e. absurd cc))
  resign_secrets (Err error.NoNumber) h = ap (λ (t : State). t.secrets) (h.err (λ e. absurd cc))
  resign_secrets (Err error.NoKey) h = ap (λ (t : State). t.secrets) (h.err (λ e. absurd cc))
  resign_secrets (Err error.Foreign) h = ap (λ (t : State). t.secrets) (h.err (λ e. absurd cc))
  resign_secrets (Err error.Damaged) h = ap (λ (t : State). t.secrets) (h.err (λ e. absurd cc))

-- ---- blocks that are held

module _ {A : Type 0} (s new : State) where
  -- the block was lacking, so that more are held where one more is asked for
  more_taken : (x : Result (Step A) ClientError) (checked : Option Checked) → IsSomeAnd checked (λ k. IsLacking s (asked_of k))
      → IfSome checked (λ k. IsLacking s (asked_of k) → IfOk x (λ step. client.HoldsMore s step new)) → IfOk x (λ step. client.HoldsMore s step new)
  more_taken x None h k = absurd h
  more_taken x (Some checked) h k = k h

  pub heard_asks : (text : Bytes) (x : Result (Step A) ClientError) → IfOk x (λ step. client.StandsAfter s step new) → AsksForLacking s (Hears text (on_ok asked x)) new
  heard_asks text (Ok (step.Need digest)) stands = stands.1
  heard_asks text (Ok (step.Store texts)) stands = tt
  heard_asks text (Ok (step.Broken rule)) stands = tt
  heard_asks text (Err e) stands = tt

  step_more : (block : Option Bytes) (x : Result (Step A) ClientError) → IfOk x (λ step. client.HoldsMore s step new) → IfOk x (λ step. client.StandsAfter s step new) → AsksForLacking s (Takes block (on_ok asked x)) new
  step_more block (Ok (step.Need digest)) h stands = (h, stands.1)
  step_more block (Ok (step.Store texts)) h stands = tt
  step_more block (Ok (step.Broken rule)) h stands = tt
  step_more block (Err e) h stands = tt

  pub taken_more : (block : Option Bytes) (x : Result (Step A) ClientError) → IsSomeAnd s.checked (λ k. IsLacking s (asked_of k))
      → IfSome s.checked (λ k. IsLacking s (asked_of k) → IfOk x (λ step. client.HoldsMore s step new)) → IfOk x (λ step. client.StandsAfter s step new) → AsksForLacking s (Takes block (on_ok asked x)) new
  taken_more block x h k stands = step_more block x (more_taken x s.checked h k) stands

  more_given : (q : Question) (x : Result (Look A) ClientError) (view : Option AcceptedView) → IsSomeAnd view (λ v. IsSomeAnd v.looking (λ l. (l.question ≡ q) × IsLacking s l.asked))
      → IfSome view (λ v. IfSome v.looking (λ l. IsLacking s l.asked → IfOk x (λ look. LookHoldsMore s look new))) → IfOk x (λ look. LookHoldsMore s look new)
  more_given q x None h k = absurd h
  more_given q x (Some v) h k = elim v.looking as (λ looking. IsSomeAnd looking (λ l. (l.question ≡ q) × IsLacking s l.asked) → IfSome looking (λ l. IsLacking s l.asked → IfOk x (λ look. LookHoldsMore s look new)) → IfOk x (λ look. LookHoldsMore s look new)) [
    | None ↦ λ h k. absurd h
    | Some l ↦ λ h k. k h.1
  ] h k

  pub looked_asks : (q : Question) (x : Result (Look A) ClientError) → IfOk x (λ look. client.LookStandsAfter s look new) → AsksForLacking s (Looks q (on_ok seen x)) new
  looked_asks q (Ok (look.Need digest)) stands = stands
  looked_asks q (Ok (look.File bytes)) stands = tt
  looked_asks q (Ok (look.Dir entries)) stands = tt
  looked_asks q (Ok look.None) stands = tt
  looked_asks q (Ok (look.Kind kind)) stands = tt
  looked_asks q (Ok (look.Free found)) stands = tt
  looked_asks q (Ok (look.Broken rule)) stands = tt
  looked_asks q (Err e) stands = tt

  look_more : (q : Question) (block : Option Bytes) (x : Result (Look A) ClientError) → IfOk x (λ look. LookHoldsMore s look new) → IfOk x (λ look. client.LookStandsAfter s look new) → AsksForLacking s (Gives q block (on_ok seen x)) new
  look_more q block (Ok (look.Need digest)) h stands = (h, stands)
  look_more q block (Ok (look.File bytes)) h stands = tt
  look_more q block (Ok (look.Dir entries)) h stands = tt
  look_more q block (Ok look.None) h stands = tt
  look_more q block (Ok (look.Kind kind)) h stands = tt
  look_more q block (Ok (look.Free found)) h stands = tt
  look_more q block (Ok (look.Broken rule)) h stands = tt
  look_more q block (Err e) h stands = tt

  -- for whichever question the look is, since it is under way for one
  pub given_more : (q p : Question) (block : Option Bytes) (x : Result (Look A) ClientError) → WaitsAt q s
      → IfSome s.view (λ v. IfSome v.looking (λ l. IsLacking s l.asked → IfOk x (λ look. LookHoldsMore s look new))) → IfOk x (λ look. client.LookStandsAfter s look new) → AsksForLacking s (Gives p block (on_ok seen x)) new
  given_more q p block x h k stands = look_more p block x (more_given q x s.view h k) stands

-- ---- fewer are left

fewer : (old new : State) → HasMore old new → length new.blocks.held < 2 ^ 63 → left new < left old
fewer old new more few = omega (arith, more, few)

module _ {A : Type 0} (s new : State) (few : length new.blocks.held < 2 ^ 63) where
  step_fewer : (x : Result (Step A) ClientError) → IfOk x (λ step. client.HoldsMore s step new) → IfOk x (λ step. AsksFewer step s new)
  step_fewer (Ok (step.Need digest)) h = fewer s new h few
  step_fewer (Ok (step.Store texts)) h = tt
  step_fewer (Ok (step.Broken rule)) h = tt
  step_fewer (Err e) h = tt

  look_fewer : (x : Result (Look A) ClientError) → IfOk x (λ look. LookHoldsMore s look new) → IfOk x (λ look. AsksFewerAt look s new)
  look_fewer (Ok (look.Need digest)) h = fewer s new h few
  look_fewer (Ok (look.Broken rule)) h = tt
  look_fewer (Ok other) h = tt
  look_fewer (Err e) h = tt

  pub taken_fewer : (x : Result (Step A) ClientError) → IsSomeAnd s.checked (λ k. IsLacking s (asked_of k))
      → IfSome s.checked (λ k. IsLacking s (asked_of k) → IfOk x (λ step. client.HoldsMore s step new)) → IfOk x (λ step. AsksFewer step s new)
  taken_fewer x h k = step_fewer x (more_taken s new x s.checked h k)

  pub given_fewer : (q : Question) (x : Result (Look A) ClientError) → WaitsAt q s
      → IfSome s.view (λ v. IfSome v.looking (λ l. IsLacking s l.asked → IfOk x (λ look. LookHoldsMore s look new))) → IfOk x (λ look. AsksFewerAt look s new)
  given_fewer q x h k = look_fewer x (more_given s new q x s.view h k)

pub some_from : {X : Type 0} (P : X → Type 0) (o : Option X) → IsSomeAnd o P → IsSome o
some_from P None h = absurd h
some_from P (Some x) h = refl

pub some_looking : (q : Question) (s : State) (view : Option AcceptedView) → IsSomeAnd view (λ v. IsSomeAnd v.looking (λ l. (l.question ≡ q) × IsLacking s l.asked)) → IsSomeAnd view (λ v. IsSome v.looking)
some_looking q s None h = absurd h
some_looking q s (Some v) h = some_from (λ l. (l.question ≡ q) × IsLacking s l.asked) v.looking h

looked_over : {A : Type 0} (s new : State) (q : Question) (x : Result (Look A) ClientError) (view : Option AcceptedView) → IfSome view (λ v. IfOk x (λ a. Looked s v q a new)) → IfSome view (λ v. IfOk (on_ok seen x) (λ a. Looked s v q a new))
looked_over {A} s new q x None h = tt
looked_over {A} s new q x (Some v) h = looked {A = A} {E = ClientError} s v q x new h

pub has_looked : {A : Type 0} (s new : State) (q : Question) (x : Result (Look A) ClientError) → principal_of q < 96 → IsSome s.view
    → IfSome s.view (λ v. IfOk x (λ a. Looked s v q a new)) → IfOk x (λ a. LookHoldsAfter s None a new)
    → IfErr x (λ e. e ≡ error.Memory) → OnErr x (new ≡ s) → HasLooked s q (on_ok seen x) new
has_looked {A} s new q (Ok x) p v l k m e = record { principal = p; sees = v; looked = looked_over {A = A} s new q (Ok x) s.view l; held = look_holds {A = A} {E = ClientError} s None (Ok x) new k; only_memory = m; err = e }
has_looked {A} s new q (Err x) p v l k m e = record { principal = p; sees = v; looked = looked_over {A = A} s new q (Err x) s.view l; held = look_holds {A = A} {E = ClientError} s None (Err x) new k; only_memory = m; err = e }
