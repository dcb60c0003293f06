-- No call of an open client changes its user's keys.
use Rattle.std.proofs.Common.{◌≡◌, ℕ, List, Option, Ok, Err, Result, refl, ap, subst}
use Rattle.std.specs.Prelude.{IsErrOf}
use Rattle.layout.specs.Types.{Bytes, Digest}
use Rattle.update_cert.specs.Change.{Change}
use Rattle.wire.specs.declared.kinds.Status.{Status}
use Rattle.wire.specs.declared.kinds.Status.TheVariants as status
use Rattle.client_tree.specs.declared.questions.Question.{Question}
use Rattle.client_releases.specs.declared.error.ClientError.{ClientError}
use Rattle.client_releases.specs.declared.error.ClientError.TheVariants as error
use Rattle.client_releases.specs.Releasing.{IsKept, structure_record, under}
use Rattle.leaf_ledger.specs.Ledger.{LeafNumber}
use Rattle.client_verify.specs.State.{State, on, over, released, signed_over, signed_text, signing_key}
use Rattle.client_runs.specs.Slots.{AreSame}
use Rattle.client_steps.specs.Steps.{Asks, Begins, Caches, Call, Closes, Commits, Crashes, FromOpen, Gains, Gives, HasBegun, HasCached, HasCommitted, HasGiven, HasHeard, HasLooked, HasResigned, HasSigned, HasTaken, Hears, Looks, Open, Opens, Resigns, Sees, Signs, Takes}
use Rattle.client_runs.proofs.Lowering.{if_ready, with_ready}
use Rattle.client_runs.proofs.Quiet as quiet

-- an answer is the error that it tells
told_error : (e x : ClientError) → e ≡ x → IsErrOf {T = Bytes} {E = ClientError} (Err e) x
told_error e x is = subst (λ (y : ClientError). IsErrOf {T = Bytes} {E = ClientError} (Err e) y) is refl

module _ (s new : State) where
  quietly : released new ≡ released s → AreSame s new
  quietly e = ap (λ r. r.secrets) e

  pub stays : new ≡ s → AreSame s new
  stays e = quietly (ap released e)

  -- an error other than Device
  unless_device : (e : ClientError) → (e ≡ error.Device → AreSame s new) → ((e ≡ error.Device → ⊥) → new ≡ s) → AreSame s new
  unless_device error.Device failed else_same = failed refl
  unless_device error.Memory failed else_same = stays (else_same (λ e. cc e))
  unless_device error.NoLeaf failed else_same = stays (else_same (λ e. cc e))
  unless_device error.NoNumber failed else_same = stays (else_same (λ e. cc e))
  unless_device error.NoKey failed else_same = stays (else_same (λ e. cc e))
  unless_device error.Foreign failed else_same = stays (else_same (λ e. cc e))
  unless_device error.Damaged failed else_same = stays (else_same (λ e. cc e))

  pub begins : (changes : List (Change Digest)) (laid : List Bytes) (answer : Result Bytes ClientError) → HasBegun s changes laid answer new → AreSame s new
  begins changes laid (Ok text) b = ap (λ (n : State). n.secrets) b.declared.2
  begins changes laid (Err e) b = unless_device e (λ is. let left = b.fails (told_error e error.Device is) in ap (λ (n : State). n.secrets) left) b.err

  pub resigns : (n : ℕ) (answer : Result Bytes ClientError) → HasResigned s n answer new → AreSame s new
  resigns n (Ok text) b = ap (λ (n : State). n.secrets) b.resigned.2
  resigns n (Err e) b = unless_device e (λ is. let left = b.fails (told_error e error.Device is) in ap (λ (n : State). n.secrets) left) b.err

  pub hears : (text : Bytes) (answer : Result Asks ClientError) → HasHeard s text answer new → AreSame s new
  hears text answer b = quietly (quiet.hears s text answer new b)

  pub takes : (block : Option Bytes) (answer : Result Asks ClientError) → HasTaken s block answer new → AreSame s new
  takes block answer b = quietly (quiet.takes s block answer new b)

  pub looks : (q : Question) (answer : Result Sees ClientError) → HasLooked s q answer new → AreSame s new
  looks q answer b = quietly (ap (λ k. k.0) (quiet.looks s q answer new b))

  pub gives : (block : Option Bytes) (answer : Result Sees ClientError) → HasGiven s block answer new → AreSame s new
  gives block answer b = quietly (ap (λ k. k.0) (quiet.gives s block answer new b))

  pub signs : (answer : Result Bytes ClientError) → HasSigned s answer new → AreSame s new
  signs (Ok text) b =
      with_ready s (AreSame s new) b.ready
      (λ y is. let done = if_ready s new y is (λ r. (leaf : LeafNumber) × IsKept leaf (structure_record (signed_text s leaf r)) (under (signing_key s r) s.devices) (under (signing_key s r) new.devices) × (new ≡ over new.blocks (on new.devices (signed_over s leaf r)))) b.signed in
      ap (λ (n : State). n.secrets) done.2)
  signs (Err e) b = unless_device e (λ is. let left = b.fails (told_error e error.Device is) in ap (λ (n : State). n.secrets) left) b.err

  pub commits : (answer : Status) → HasCommitted s answer new → AreSame s new
  commits status.Ok b = ap (λ (n : State). n.secrets) b.state
  commits status.Form b = stays b.state
  commits status.UnknownUser b = stays b.state
  commits status.BadSignature b = stays b.state
  commits status.WrongNumber b = stays b.state
  commits status.NotPending b = stays b.state
  commits status.Busy b = stays b.state
  commits status.TooLarge b = stays b.state
  commits status.Absent b = stays b.state
  commits status.Memory b = stays b.state

  pub caches : (capacity : ℕ) → HasCached s capacity new → AreSame s new
  caches capacity b = ap (λ (n : State). n.secrets) b.state

  -- so no step of one that stays open does
  pub steps : (call : Call) → FromOpen s call (Open new) → AreSame s new
  steps (Opens answer) b = absurd b
  steps Closes b = absurd b
  steps Gains b = absurd b
  steps (Begins changes laid answer) b = begins changes laid answer b
  steps (Resigns n answer) b = resigns n answer b
  steps (Hears text answer) b = hears text answer b
  steps (Takes block answer) b = takes block answer b
  steps (Signs answer) b = signs answer b
  steps (Commits status) b = commits status b
  steps (Looks q answer) b = looks q answer b
  steps (Gives block answer) b = gives block answer b
  steps (Caches capacity) b = caches capacity b
  steps Crashes b = absurd b
