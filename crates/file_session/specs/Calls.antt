-- What passes between a session and its client.
use Rattle.std.specs.Prelude.{◌≡◌, ℕ, true, List, [], Option, Some, None, Result, Ok, IsSomeAnd}
use Rattle.layout.specs.Types.{Bytes, Digest}
use Rattle.update_cert.specs.Change.{Change}
use Rattle.client_tree.specs.declared.questions.Question.{Question}
use Rattle.wire.specs.declared.kinds.Status.{Status}
use Rattle.client_releases.specs.declared.error.ClientError.{ClientError}
use Rattle.client_verify.specs.declared.look.Look.TheVariants as look
use Rattle.client_verify.specs.declared.step.Step.TheVariants as step
use Rattle.tree_parts.specs.Spot.{lacks}
use Rattle.checked_blocks.specs.CheckedBlocks.{known_blocks}
use Rattle.client_verify.specs.Standing.{HasMore, IsLacking}
use Rattle.client_verify.specs.State.{AcceptedView, State, asked_of}
use Rattle.client_steps.specs.Steps.{Asks, Sees, FromOpen, IsSound, Open}
use Rattle.client_steps.specs.Steps as steps

-- A call of the client, with its answer. That of a structure to be signed with the numbers of the changes that the view
-- loses, and that of a block for a look with the question.
pub data Call : Type 0 where
  Begins : List (Change Digest) → List Bytes → Result Bytes ClientError → Call
  Resigns : ℕ → Result Bytes ClientError → Call
  Hears : Bytes → Result Asks ClientError → Call
  Takes : Option Bytes → Result Asks ClientError → Call
  Signs : Result Bytes ClientError → List ℕ → Call
  Commits : Status → Call
  Looks : Question → Result Sees ClientError → Call
  Gives : Question → Option Bytes → Result Sees ClientError → Call

-- the call, as a step of a run of the client
abbrev pub step_of : Call → steps.Call
step_of (Begins changes laid x) = steps.Begins changes laid x
step_of (Resigns n x) = steps.Resigns n x
step_of (Hears text x) = steps.Hears text x
step_of (Takes block x) = steps.Takes block x
step_of (Signs x lost) = steps.Signs x
step_of (Commits status) = steps.Commits status
step_of (Looks q x) = steps.Looks q x
step_of (Gives q block x) = steps.Gives block x

-- the numbers of the changes that the accepted view loses
abbrev pub lost_in : Option AcceptedView → List ℕ
lost_in None = []
lost_in (Some view) = view.lost

abbrev pub lost_of : State → List ℕ
lost_of s = lost_in s.view

abbrev pub TellsLost : Call → State → Type 0
TellsLost (Signs x lost) new = lost ≡ lost_of new
TellsLost call new = Unit {0}

-- the reply under check waits for the block of this digest, of which no text is known that its place takes
abbrev pub WaitsFor : Digest → State → Type 0
WaitsFor digest s = IsSomeAnd s.checked
    (λ k. ((asked_of k).digest ≡ digest) × (lacks (known_blocks s.blocks) digest (asked_of k).spot ≡ true))

-- so does the look that is under way
abbrev pub LookWaitsFor : Digest → State → Type 0
LookWaitsFor digest s = IsSomeAnd s.view
    (λ v. IsSomeAnd v.looking (λ l. (l.asked.digest ≡ digest) × IsLacking s l.asked))

-- A block is asked for only where it is lacking; and where one was handed in just before, more are held than before that.
abbrev pub AsksForLacking : State → Call → State → Type 0
AsksForLacking s (Hears text (Ok (step.Need digest))) new = WaitsFor digest new
AsksForLacking s (Takes block (Ok (step.Need digest))) new = HasMore s new × WaitsFor digest new
AsksForLacking s (Looks q (Ok (look.Need digest))) new = LookWaitsFor digest new
AsksForLacking s (Gives q block (Ok (look.Need digest))) new = HasMore s new × LookWaitsFor digest new
AsksForLacking s call new = Unit {0}

-- from this client, this call with its answer may lead to that one: it is a step of a run, which leaves a sound client
unfoldable pub Leads : State → Call → State → Type 0
Leads s call new =
    FromOpen s (step_of call) (Open new) × IsSound (Open new) × TellsLost call new × AsksForLacking s call new
