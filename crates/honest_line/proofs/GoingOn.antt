-- Each call of an honest run that is answered without an error leads on.
use Rattle.std.proofs.Common.{◌≡◌, ◌∙◌, ℕ, List, [], ◌∷◌, Option, Some, None, Ok, IfSome, IsSome, IsSomeAnd, refl, ap, inl, inr}
use Rattle.std.specs.List.{All}
use Rattle.std.proofs.lemmas.List.Elements.{All-head, All-tail}
use Rattle.layout.specs.Types.{Bytes, Digest}
use Rattle.leaf_ledger.specs.Ledger.{LeafNumber}
use Rattle.update_cert.specs.Change.{Change}
use Rattle.wire.specs.declared.kinds.Status.TheVariants as status
use Rattle.client_releases.specs.declared.error.ClientError.{ClientError}
use Rattle.client_verify.specs.declared.step.Step.TheVariants as step
use Rattle.client_releases.specs.declared.phase.Phase.TheVariants as phase
use Rattle.client_releases.specs.Releasing.{IsKept, structure_record, under}
use Rattle.client_verify.specs.State.{Ready, State, on, over, signed_over, signed_text, signing_key}
use Rattle.client_verify.specs.Standing.{StandsAfter}
use Rattle.client_verify.proofs.Standing.{block_stands, judged_stands}
use Rattle.client_steps.specs.Steps.{Asks, Begins, Call, Client, Commits, HasBegun, HasHeard, HasResigned, HasSigned, HasTaken, Hears, IsSound, IsStep, Open, Owner, Resigns, Signs, StepTaken, Takes}
use Rattle.client_runs.specs.Runs.{Keys, client_of, owner}
use Rattle.honest_runs.specs.HonestRuns.{HonestEvent, IsHonestRun, events}
use Rattle.honest_line.specs.GoingOn.{AllLeadOn, HasReply, LeadsOn}
use Rattle.honest_line.specs.OneLine.{IsUnbroken}

some_from : {X : Type 0} (P : X → Type 0) (o : Option X) → IsSomeAnd o P → IsSome o
some_from P None h = absurd h
some_from P (Some x) h = refl

-- after an answer that refuses nothing
has_reply : (s t : State) (answer : Asks) → IsUnbroken (Takes None (Ok answer)) → StandsAfter s answer t → HasReply t
has_reply s t (step.Need digest) u stands = inl (some_from _ t.checked stands.1)
has_reply s t (step.Store texts) u stands = inr stands.1
has_reply s t (step.Broken rule) u stands = absurd u

begins : (s t : State) (changes : List (Change Digest)) (laid : List Bytes) (text : Bytes) → HasBegun s changes laid (Ok text) t → LeadsOn (Open s) (Begins changes laid (Ok text)) (Open t)
begins s t changes laid text h =
    let is = h.declared.2 in
    (ap (λ (n : State). n.phase) is, ap (λ (n : State). n.number) is)

resigns : (s t : State) (n : ℕ) (text : Bytes) → HasResigned s n (Ok text) t → LeadsOn (Open s) (Resigns n (Ok text)) (Open t)
resigns s t n text h =
    let is = h.resigned.2 in
    (ap (λ (n : State). n.phase) is ∙ h.declared, ap (λ (n : State). n.number) is)

signs : (s t : State) (text : Bytes) → HasSigned s (Ok text) t → LeadsOn (Open s) (Signs (Ok text)) (Open t)
signs s t text h = go s.accepted h.ready h.signed
  where
    go : (o : Option Ready) → IsSome o → IfSome o (λ r. (leaf : LeafNumber) × IsKept leaf (structure_record (signed_text s leaf r)) (under (signing_key s r) s.devices) (under (signing_key s r) t.devices) × (t ≡ over t.blocks (on t.devices (signed_over s leaf r)))) → t.phase ≡ phase.Signed
    go None some h = absurd (cc some)
    go (Some r) some h = ap (λ (n : State). n.phase) h.2

hears : (s t : State) (text : Bytes) (answer : Asks) → IsUnbroken (Hears text (Ok answer)) → HasHeard s text (Ok answer) t → HasReply t
hears s t text (step.Need digest) u h = has_reply s t (step.Need digest) tt (judged_stands {A = Unit {0}} s text (step.Need digest) t h.judged h.held).stands
hears s t text (step.Store texts) u h = has_reply s t (step.Store texts) tt (judged_stands {A = Unit {0}} s text (step.Store texts) t h.judged h.held).stands
hears s t text (step.Broken rule) u h = absurd u

takes_on : (s t : State) (block : Option Bytes) (answer : Asks) → IsUnbroken (Takes block (Ok answer)) → HasTaken s block (Ok answer) t → HasReply t
takes_on s t block (step.Need digest) u h = has_reply s t (step.Need digest) tt (block_stands {A = Unit {0}} {E = ClientError} s s.checked block (Ok (step.Need digest)) t h.wants h.handed h.held)
takes_on s t block (step.Store texts) u h = has_reply s t (step.Store texts) tt (block_stands {A = Unit {0}} {E = ClientError} s s.checked block (Ok (step.Store texts)) t h.wants h.handed h.held)
takes_on s t block (step.Broken rule) u h = absurd u

leads_on : (o : Owner) (before : Client) (call : Call) (after : Client) → IsStep o before call after → IsUnbroken call → LeadsOn before call after
leads_on o (Open s) (Begins changes laid (Ok text)) (Open t) h u = begins s t changes laid text h
leads_on o (Open s) (Resigns n (Ok text)) (Open t) h u = resigns s t n text h
leads_on o (Open s) (Hears text (Ok answer)) (Open t) h u = hears s t text answer u h
leads_on o (Open s) (Takes block (Ok answer)) (Open t) h u = takes_on s t block answer u h
leads_on o (Open s) (Signs (Ok text)) (Open t) h u = signs s t text h
leads_on o (Open s) (Commits status.Ok) (Open t) h u = ap (λ (n : State). n.phase) h.state
leads_on o before call after h u = tt

pub all_lead_on : (keys : Keys) (run : List HonestEvent) → IsHonestRun keys run → All (λ h. IfSome h.step (λ s. IsUnbroken s.call)) run → AllLeadOn run
all_lead_on keys [] is unbroken = tt
all_lead_on keys (h ∷ older) is unbroken = (
  go h.step is.0.taken (All-head (λ (h : HonestEvent). IfSome h.step (λ s. IsUnbroken s.call)) h older unbroken),
  all_lead_on keys older is.1 (All-tail (λ (h : HonestEvent). IfSome h.step (λ s. IsUnbroken s.call)) h older unbroken),
)
  where
    go : (o : Option StepTaken) → IfSome o (λ s. IsStep (owner keys h.user) (client_of h.user (events older)) s.call s.after × IsSound s.after) → IfSome o (λ s. IsUnbroken s.call)
        → IfSome o (λ s. LeadsOn (client_of h.user (events older)) s.call s.after)
    go None taken u = tt
    go (Some s) taken u = leads_on (owner keys h.user) (client_of h.user (events older)) s.call s.after taken.0 u
