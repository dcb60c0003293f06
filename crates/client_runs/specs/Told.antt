-- What a step and its answer say of a user's client: which call was made, and what is told of the client after it.
use Rattle.std.specs.Prelude.{◌≡◌, List, [], Option, Some, None, Ok, Err, IsSomeAnd, map}
use Rattle.std.specs.Option.{option_map}
use Rattle.std.specs.Vec.{vec_items}
use Rattle.std.specs.declared.vec.Vec.{Vec}
use Rattle.layout.specs.Types.{Bytes}
use Rattle.leaf_ledger.specs.Device.{started}
use Rattle.client_tree.specs.declared.questions.Question.TheVariants as question
use Rattle.client_releases.specs.declared.phase.Phase.{Phase}
use Rattle.client_releases.specs.declared.phase.Phase.TheVariants as phase
use Rattle.client_verify.specs.State.{AcceptedView}
use Rattle.client_steps.specs.Steps.{Begins, Caches, Call, Client, Closed, Closes, Commits, Crashes, Gains, Gives, Hears, Looks, Open, Opens, Resigns, Signs, Takes, files_of}
use Rattle.client_steps.specs.Anywhere.{asked, on_ok, seen}
use Rattle.client_runs.specs.declared.world.Accepted.{Accepted}
use Rattle.client_runs.specs.declared.world.Act.{Act}
use Rattle.client_runs.specs.declared.world.Act.TheVariants as act
use Rattle.client_runs.specs.declared.world.Answer.{Answer}
use Rattle.client_runs.specs.declared.world.Answer.TheVariants as answer

-- texts that lie in memory
abbrev pub texts_in : {A B : Type 0} → Vec (Vec B A) A → List (List B)
texts_in texts = map vec_items texts.items

-- ---- the call of a step

-- the call that a step makes of a client that answers so, if it makes one
abbrev pub call_of : {A : Type 0} → Act A → Answer A → Option Call
call_of act.Open (answer.Opened how text) = Some (Opens (Ok tt))
call_of act.Open (answer.Refused e) = Some (Opens (Err e))
call_of act.Close answer.Closed = Some Closes
call_of act.Gain answer.Gained = Some Gains
call_of (act.Begin changes laid) (answer.Begun r) = Some (Begins changes.items (texts_in laid) (on_ok vec_items r))
call_of (act.Resign n) (answer.Begun r) = Some (Resigns n (on_ok vec_items r))
call_of (act.Reply text) (answer.Asks r) = Some (Hears text.items (on_ok asked r))
call_of (act.Block block) (answer.Asks r) = Some (Takes (option_map vec_items block) (on_ok asked r))
call_of act.Sign (answer.Signed r) = Some (Signs (on_ok (λ x. x.text.items) r))
call_of (act.Committed status) answer.Committed = Some (Commits status)
call_of (act.Look p i) (answer.Sees r) = Some (Looks (question.At p i) (on_ok seen r))
call_of (act.Kind p i) (answer.Sees r) = Some (Looks (question.Kind p i) (on_ok seen r))
call_of (act.Free p first last) (answer.Sees r) = Some (Looks (question.Free p first last) (on_ok seen r))
call_of (act.Give block) (answer.Sees r) = Some (Gives (option_map vec_items block) (on_ok seen r))
call_of (act.Cache capacity) answer.Cached = Some (Caches capacity)
call_of (act.Crash ledgers journal) answer.Crashed = Some Crashes
call_of other answer = None

-- ---- what else is told

-- the text that an opened client has to send again, in this phase
abbrev pub resent : Phase → Bytes → Bytes
resent phase.Declared text = text
resent phase.Signed text = text
resent other text = []

-- what is told of the accepted view is so
abbrev pub IsAcceptedBy : {A : Type 0} → Accepted A → Option AcceptedView → Type 0
IsAcceptedBy x view =
    IsSomeAnd view (λ v. (x.structures.items ≡ v.structures) × (x.table ≡ v.table) × (x.lost.items ≡ v.lost))

-- The phase and the text of an opened client, the accepted view of one that signed, and what a crash left are those of
-- the client after the step.
abbrev pub IsTold : {A : Type 0} → Act A → Answer A → Client → Type 0
IsTold act (answer.Opened how text) (Open s) = (how ≡ s.phase) × (text.items ≡ resent s.phase s.text)
IsTold act (answer.Signed (Ok x)) (Open s) = IsAcceptedBy x s.view
IsTold (act.Crash ledgers journal) answer.Crashed (Closed p) =
    (files_of p.ledgers ≡ map started (texts_in ledgers)) × (p.journal.history ≡ started journal.items)
IsTold act answer client = Unit {0}
