-- No step of a client makes it another user's.
use Rattle.std.proofs.Common.{◌≡◌, List, [], ◌∷◌, Ok, Err, Result, refl, sym, ap, ◌∙◌, subst}
use Rattle.std.specs.Prelude.{IsErrOf}
use Rattle.layout.specs.Types.{Bytes}
use Rattle.wire.specs.declared.kinds.Status.{Status}
use Rattle.wire.specs.declared.kinds.Status.TheVariants as status
use Rattle.leaf_ledger.specs.Ledger.{LeafNumber}
use Rattle.client_releases.specs.declared.error.ClientError.{ClientError}
use Rattle.client_releases.specs.declared.error.ClientError.TheVariants as error
use Rattle.client_releases.specs.Releasing.{IsKept, structure_record, under}
use Rattle.client_verify.specs.State.{State, on, over, released, signed_over, signed_text, signing_key}
use Rattle.client_steps.specs.Steps.{AreSteps, Begins, Caches, Call, Client, Closed, Closes, Commits, Crashes, FromOpen, Gains, Gives, HasCommitted, HasSigned, Hears, IsStep, Looks, Open, Opens, Owner, Resigns, Signs, StepTaken, Takes}
use Rattle.client_runs.proofs.Lowering.{if_ready, with_ready}
use Rattle.client_runs.proofs.Quiet as quiet

told_error : (e x : ClientError) → e ≡ x → IsErrOf {T = Bytes} {E = ClientError} (Err e) x
told_error e x is = subst (λ (y : ClientError). IsErrOf {T = Bytes} {E = ClientError} (Err e) y) is refl

module _ (s new : State) where
  stays : new ≡ s → new.user ≡ s.user
  stays e = ap (λ (n : State). n.user) e

  quietly : released new ≡ released s → new.user ≡ s.user
  quietly e = ap (λ r. r.user) e

  -- an error other than Device leaves the client
  unless_device : (e : ClientError) → (e ≡ error.Device → new.user ≡ s.user) → ((e ≡ error.Device → ⊥) → new ≡ s) → new.user ≡ s.user
  unless_device error.Device failed else_same = failed refl
  unless_device error.Memory failed else_same = stays (else_same (λ e. cc e))
  unless_device error.NoLeaf failed else_same = stays (else_same (λ e. cc e))
  unless_device error.NoNumber failed else_same = stays (else_same (λ e. cc e))
  unless_device error.NoKey failed else_same = stays (else_same (λ e. cc e))
  unless_device error.Foreign failed else_same = stays (else_same (λ e. cc e))
  unless_device error.Damaged failed else_same = stays (else_same (λ e. cc e))

  signs : (answer : Result Bytes ClientError) → HasSigned s answer new → new.user ≡ s.user
  signs (Ok text) b =
      with_ready s (new.user ≡ s.user) b.ready
      (λ y is. let done = if_ready s new y is (λ r. (leaf : LeafNumber) × IsKept leaf (structure_record (signed_text s leaf r)) (under (signing_key s r) s.devices) (under (signing_key s r) new.devices) × (new ≡ over new.blocks (on new.devices (signed_over s leaf r)))) b.signed in
      ap (λ (n : State). n.user) done.2)
  signs (Err e) b = unless_device e (λ is. ap (λ (n : State). n.user) (b.fails (told_error e error.Device is))) b.err

  commits : (answer : Status) → HasCommitted s answer new → new.user ≡ s.user
  commits status.Ok b = ap (λ (n : State). n.user) b.state
  commits other b = stays b.state

  -- a call leaves the client with its user
  called : (call : Call) → FromOpen s call (Open new) → new.user ≡ s.user
  called (Opens answer) b = absurd b
  called Closes b = absurd b
  called Gains b = absurd b
  called (Begins changes laid (Ok text)) b = ap (λ (n : State). n.user) b.declared.2
  called (Begins changes laid (Err e)) b = unless_device e (λ is. ap (λ (n : State). n.user) (b.fails (told_error e error.Device is))) b.err
  called (Resigns n (Ok text)) b = ap (λ (n : State). n.user) b.resigned.2
  called (Resigns n (Err e)) b = unless_device e (λ is. ap (λ (n : State). n.user) (b.fails (told_error e error.Device is))) b.err
  called (Hears text answer) b = quietly (quiet.hears s text answer new b)
  called (Takes block answer) b = quietly (quiet.takes s block answer new b)
  called (Signs answer) b = signs answer b
  called (Commits status) b = commits status b
  called (Looks q answer) b = quietly (ap (λ k. k.0) (quiet.looks s q answer new b))
  called (Gives block answer) b = quietly (ap (λ k. k.0) (quiet.gives s block answer new b))
  called (Caches capacity) b = ap (λ (n : State). n.user) b.state
  called Crashes b = absurd b

module _ (o : Owner) where
  -- a client that is open is its owner's
  abbrev pub IsUsers : Client → Type 0
  IsUsers (Closed p) = Unit {0}
  IsUsers (Open s) = s.user ≡ o.user

  step_users : (before : Client) (call : Call) (after : Client) → IsStep o before call after → IsUsers before → IsUsers after
  step_users (Closed p) (Opens (Ok x)) (Open s) is was = is.user
  step_users before call (Closed q) is was = tt
  step_users (Open s) call (Open new) is was = called s new call is ∙ was
  step_users (Closed p) call after is was = absurd is

  pub steps_users : (before : Client) (steps : List StepTaken) (after : Client) → AreSteps o before steps after → IsUsers before → IsUsers after
  steps_users before [] after is was = subst IsUsers (sym is) was
  steps_users before (s ∷ later) after is was = steps_users s.after later after is.2 (step_users before s.call s.after is.0 was)
