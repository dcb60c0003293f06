-- Nobody has to believe this file: an aid of private contracts.
-- What a client waits for after a step, and after a look, and how many blocks it may still ask for.
use Rattle.std.specs.Prelude.{[], Result, Ok, Err, ◌≡◌, ◌≤◌, ◌<◌, ◌-◌, ◌^◌, ℕ, IsSome, IsSomeAnd, length}
use Rattle.client_tree.specs.declared.questions.Question.{Question}
use Rattle.client_tree.specs.declared.questions.Question.TheVariants as question
use Rattle.client_verify.specs.declared.look.Look.{Look}
use Rattle.client_verify.specs.declared.look.Look.TheVariants as look
use Rattle.client_verify.specs.declared.step.Step.{Step}
use Rattle.client_verify.specs.declared.step.Step.TheVariants as step
use Rattle.client_verify.specs.State.{State, asked_of}
use Rattle.client_releases.specs.declared.error.ClientError.{ClientError}
use Rattle.file_session.specs.declared.stop.Stop.{Stop}
use Rattle.file_session.specs.declared.turn.Turn.{Turn}
use Rattle.file_session.specs.declared.turn.Turn.TheVariants as turn
use Rattle.file_session.specs.Order.{Next, Ready, Fetch, Store, FetchAt, Over, texts_of}
use Rattle.file_session.specs.Went.{IsSeenIn}
use Rattle.client_steps.specs.Anywhere.{seen}
use Rattle.update_cert.specs.World.{Tree}
use Rattle.std.specs.declared.vec.Vec.{Vec}
use Rattle.client_verify.specs.Standing.{IsLacking}

-- it waits for a block that it doesn't hold
abbrev pub WaitsForBlock : State → Type 0
WaitsForBlock s = IsSomeAnd s.checked (λ k. IsLacking s (asked_of k))

-- a look at this question waits for one
abbrev pub WaitsAt : Question → State → Type 0
WaitsAt q s = IsSomeAnd s.view (λ v. IsSomeAnd v.looking (λ l. (l.question ≡ q) × IsLacking s l.asked))

abbrev pub Awaits : {A : Type 0} → Step A → State → Type 0
Awaits (step.Need digest) s = WaitsForBlock s
Awaits (step.Store texts) s = IsSome s.accepted
Awaits (step.Broken rule) s = Unit {0}

-- this is an answer to this question
abbrev pub Fits : {A : Type 0} → Question → Look A → Type 0
Fits (question.At p i) (look.File bytes) = Unit {0}
Fits (question.At p i) (look.Dir entries) = Unit {0}
Fits (question.At p i) look.None = Unit {0}
Fits (question.Kind p i) (look.Kind kind) = Unit {0}
Fits (question.Free p first last) (look.Free found) = Unit {0}
Fits q other = ⊥

abbrev pub AwaitsAt : {A : Type 0} → Question → Look A → State → Type 0
AwaitsAt q (look.Need digest) s = WaitsAt q s
AwaitsAt q (look.Broken rule) s = Unit {0}
AwaitsAt q told s = Fits q told

-- the range of a search isn't empty
abbrev pub IsRange : Question → Type 0
IsRange (question.At p i) = Unit {0}
IsRange (question.Kind p i) = Unit {0}
IsRange (question.Free p first last) = first ≤ last

-- how many blocks more a client may hold: fewer than 2^63 stand in its memory
abbrev pub left : State → ℕ
left s = 2 ^ 63 - length s.blocks.held

-- a block that is asked for is one that is left no more
abbrev pub AsksFewer : {A : Type 0} → Step A → State → State → Type 0
AsksFewer (step.Need digest) old new = left new < left old
AsksFewer other old new = Unit {0}

abbrev pub AsksFewerAt : {A : Type 0} → Look A → State → State → Type 0
AsksFewerAt (look.Need digest) old new = left new < left old
AsksFewerAt other old new = Unit {0}

-- ---- turns

-- texts that a reply hands out, or an answer that a question has
abbrev pub Texts : Type 0 → Type 0
Texts A = Vec (Vec ℕ A) A

-- what has to come after a turn of a reply, and after one of a question
abbrev pub judging : {A : Type 0} → Result (Turn (Texts A)) Stop → Next
judging (Ok (turn.Asks digest)) = Fetch digest
judging (Ok (turn.Ends texts)) = Store (texts_of texts)
judging (Err e) = Over e

abbrev pub questioning : {A : Type 0} → Question → Result (Turn (Look A)) Stop → Next
questioning q (Ok (turn.Asks digest)) = FetchAt q digest
questioning q (Ok (turn.Ends told)) = Ready []
questioning q (Err e) = Over e

abbrev pub AwaitsTurn : {X : Type 0} → Turn X → State → Type 0
AwaitsTurn (turn.Asks digest) s = WaitsForBlock s
AwaitsTurn (turn.Ends texts) s = IsSome s.accepted

abbrev pub AwaitsTurnAt : {A : Type 0} → Question → Turn (Look A) → State → Type 0
AwaitsTurnAt q (turn.Asks digest) s = WaitsAt q s
AwaitsTurnAt q (turn.Ends told) s = Fits q told

abbrev pub TurnsFewer : {X : Type 0} → Turn X → State → State → Type 0
TurnsFewer (turn.Asks digest) old new = left new < left old
TurnsFewer (turn.Ends x) old new = Unit {0}

-- the answer is the one that was told
abbrev pub IsTold : {A : Type 0} → Turn (Look A) → Result (Look A) ClientError → Type 0
IsTold (turn.Asks digest) look = Unit {0}
IsTold (turn.Ends told) look = look ≡ Ok told

-- the answer is so in this tree
abbrev pub ShowsTurn : {A : Type 0} → Tree → Question → Turn (Look A) → Type 0
ShowsTurn tree q (turn.Asks digest) = Unit {0}
ShowsTurn tree q (turn.Ends told) = IsSeenIn tree q (seen told)

-- no block is asked for
abbrev pub IsSettled : {A : Type 0} → Result (Step A) ClientError → Type 0
IsSettled (Ok (step.Need digest)) = ⊥
IsSettled other = Unit {0}

abbrev pub IsSettledAt : {A : Type 0} → Result (Look A) ClientError → Type 0
IsSettledAt (Ok (look.Need digest)) = ⊥
IsSettledAt other = Unit {0}
