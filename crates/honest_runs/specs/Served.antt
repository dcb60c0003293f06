-- Honest steps that were carried out: they are an honest run.
use Rattle.std.specs.Prelude.{◌≡◌, ◌≢◌, ◌⊎◌, ℕ, List, [], ◌∷◌, Option, Some, None, MatchOption, map, reverse, slice_get}
use Rattle.std.specs.Option.{option_and_then}
use Rattle.std.specs.declared.vec.Vec.{Vec}
use Rattle.layout.specs.Types.{Bytes, User}
use Rattle.wire.specs.declared.kinds.Status.{Status}
use Rattle.wire.specs.declared.kinds.Status.TheVariants as status
use Rattle.client_steps.specs.Steps.{Client, StepTaken}
use Rattle.client_runs.specs.declared.world.Act.{Act}
use Rattle.client_runs.specs.declared.world.Act.TheVariants as act
use Rattle.client_runs.specs.declared.world.Answer.{Answer}
use Rattle.client_runs.specs.declared.world.Answer.TheVariants.{Committed, NotTaken, Served}
use Rattle.client_runs.specs.Runs.{client_of, owner}
use Rattle.client_runs.specs.Told.{IsTold, call_of, texts_in}
use Rattle.client_runs.specs.NotTaken.{CantBeTaken}
use Rattle.client_runs.specs.Carried.{script_keys}
use Rattle.consistency_server.specs.declared.call.CallKind.{CallKind}
use Rattle.consistency_server.specs.declared.call.CallKind.TheVariants.{Update, Commit}
use Rattle.consistency_server.specs.Answers.{Answer as ServerAnswer}
use Rattle.honest_runs.specs.declared.step.Delivery.{Delivery}
use Rattle.honest_runs.specs.declared.step.Delivery.TheVariants as delivery
use Rattle.honest_runs.specs.declared.step.HonestAct.{HonestAct}
use Rattle.honest_runs.specs.declared.step.HonestAct.TheVariants as honest
use Rattle.honest_runs.specs.declared.step.HonestStep.{HonestStep}
use Rattle.honest_runs.specs.HonestRuns.{Exchange, HonestEvent, IsHonestRun, WasDeclined, events, sent_by}

-- ---- what a client does

-- a client that is told to do this takes this step, and answers so; or it can't, and takes none
abbrev pub Does : {A : Type 0} → User → Client → Act A → Option StepTaken → Answer A → Type 0
Does u client todo (Some s) answer = (call_of todo answer ≡ Some s.call) × IsTold todo answer s.after
Does u client todo None NotTaken = CantBeTaken (owner script_keys u) client todo
Does u client todo None answer = ⊥

-- nothing is done
abbrev pub IsNotDone : {A : Type 0} → Option StepTaken → Answer A → Type 0
IsNotDone step answer = (step ≡ None) × (answer ≡ NotTaken)

-- A client signs its certificate again, if that was declined after these steps.
abbrev pub ResignsAlone : {A : Type 0} → List HonestEvent → User → Client → ℕ → Option StepTaken → Answer A → Type 0
ResignsAlone older u client n step answer = (WasDeclined older client × Does u client (act.Resign n) step answer)
    ⊎ ((WasDeclined older client → ⊥) × IsNotDone step answer)

-- A client does this alone. It hands nothing in to itself.
abbrev pub DoesAlone : {A : Type 0} → List HonestEvent → User → Client → Act A → Option StepTaken → Answer A → Type 0
DoesAlone older u client (act.Reply text) step answer = IsNotDone step answer
DoesAlone older u client (act.Block block) step answer = IsNotDone step answer
DoesAlone older u client (act.Committed status) step answer = IsNotDone step answer
DoesAlone older u client (act.Give block) step answer = IsNotDone step answer
DoesAlone older u client (act.Resign n) step answer = ResignsAlone older u client n step answer
DoesAlone older u client todo step answer = Does u client todo step answer

-- ---- what comes of a call of the server

-- how the server answered is told, and nothing is handed in
abbrev pub IsServed : {A : Type 0} → Status → Option StepTaken → Answer A → Type 0
IsServed status step answer = (step ≡ None) × (answer ≡ Served status)

-- a reply comes with status 0 alone
abbrev pub HearsReply : {A : Type 0} → User → Client → Status → Bytes → Option StepTaken → Answer A → Type 0
HearsReply {A} u client status.Ok payload step answer =
    (text : Vec ℕ A) × (text.items ≡ payload) × Does u client (act.Reply text) step answer
HearsReply u client other payload step answer = IsServed other step answer

-- the status of a structure is handed in, and told
abbrev pub HearsStatus : {A : Type 0} → User → Client → Status → Option StepTaken → Answer A → Type 0
HearsStatus {A} u client status step answer = Does {A = A} u client (act.Committed status) step Committed
    × (answer ≡ Served status)

-- what comes of an answer that arrives
abbrev pub HearsAnswer : {A : Type 0} → User → Client → CallKind → ServerAnswer → Option StepTaken → Answer A → Type 0
HearsAnswer u client Update given step answer = HearsReply u client given.status given.payload step answer
HearsAnswer u client Commit given step answer = HearsStatus u client given.status step answer

-- or is lost
abbrev pub IsDelivered : {A : Type 0} → User → Client → Delivery → Exchange → Option StepTaken → Answer A → Type 0
IsDelivered u client delivery.Lost x step answer = IsServed x.answer.status step answer
IsDelivered u client delivery.Arrives x step answer = HearsAnswer u client x.call.kind x.answer step answer

-- the client makes such a call, if it has what it sends with it
abbrev pub Calls : {A : Type 0} → User → Client → CallKind → Delivery → HonestEvent → Answer A → Type 0
Calls u client kind how h answer =
    MatchOption h.exchange ((sent_by client kind ≡ None) × IsNotDone h.step answer)
    (λ x. (x.call.kind ≡ kind) × IsDelivered u client how x h.step answer)

-- the calls in these steps with their answers, the earliest step first
abbrev pub exchanges : List HonestEvent → List (Option Exchange)
exchanges run = reverse (map (λ h. h.exchange) run)

-- the one in step n, if there was one in it; the first step is step 0
abbrev pub exchange_at : List (Option Exchange) → ℕ → Option Exchange
exchange_at xs n = option_and_then (λ x. x) (slice_get xs n)

-- An earlier answer arrives, if it was one to the very text that the client has now.
abbrev pub ComesLate : {A : Type 0} → User → Client → Option Exchange → Option StepTaken → Answer A → Type 0
ComesLate u client None step answer = IsNotDone step answer
ComesLate u client (Some x) step answer =
    ((sent_by client x.call.kind ≡ Some x.call.text) × HearsAnswer u client x.call.kind x.answer step answer)
    ⊎ ((sent_by client x.call.kind ≢ Some x.call.text) × IsNotDone step answer)

-- ---- steps

-- what comes of a step after these
abbrev pub Comes : {A : Type 0} → List HonestEvent → User → Client → HonestAct A → HonestEvent → Answer A → Type 0
Comes older u client (honest.Alone todo) h answer = (h.exchange ≡ None) × DoesAlone older u client todo h.step answer
Comes older u client (honest.Update how) h answer = Calls u client Update how h answer
Comes older u client (honest.Commit how) h answer = Calls u client Commit how h answer
Comes older u client (honest.Late n) h answer = (h.exchange ≡ None)
    × ComesLate u client (exchange_at (exchanges older) n) h.step answer
Comes {A} older u client honest.Block h answer = (h.exchange ≡ None)
    × ((block : Option (Vec ℕ A)) × Does u client (act.Block block) h.step answer)
Comes {A} older u client honest.Give h answer = (h.exchange ≡ None)
    × ((block : Option (Vec ℕ A)) × Does u client (act.Give block) h.step answer)

-- what is laid out for an operation, whether or not it can be begun
abbrev pub laid_by : {A : Type 0} → Act A → List Bytes
laid_by (act.Begin changes laid) = texts_in laid
laid_by other = []

abbrev pub laid_for : {A : Type 0} → HonestAct A → List Bytes
laid_for (honest.Alone todo) = laid_by todo
laid_for other = []

-- what happens in a step after these that gives this answer
pub record IsEventOf {A : Type 0} (older : List HonestEvent) (step : HonestStep A) (answer : Answer A)
    (h : HonestEvent) : Type 0 where
  pub user : h.user ≡ step.user
  pub comes : Comes older step.user (client_of step.user (events older)) step.act h answer
  pub laid : h.step ≡ None → h.put ≡ laid_for step.act

-- these steps gave these answers, and this happened in them, the latest first
abbrev pub Keep : {A : Type 0} → List (HonestStep A) → List (Answer A) → List HonestEvent → Type 0
Keep [] [] [] = Unit {0}
Keep (step ∷ steps) (answer ∷ answers) (h ∷ older) = IsEventOf older step answer h × Keep steps answers older
Keep steps answers run = ⊥

-- the steps with their answers are an honest run of clients with these keys
pub record AreServed {A : Type 0} (steps : List (HonestStep A)) (answers : List (Answer A)) : Type 0 where
  pub run : List HonestEvent
  pub is_run : IsHonestRun script_keys run
  pub kept : Keep (reverse steps) (reverse answers) run
