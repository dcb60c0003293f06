-- When a step can't be taken, by whose client it is, the client as it is and what it is told to do.
use Rattle.std.specs.Prelude.{◌⊎◌, ◌<◌, ◌≤◌, List, [], ◌∷◌, length}
use Rattle.layout.specs.Types.{Bytes}
use Rattle.leaf_ledger.specs.Device.{History, MayLeave}
use Rattle.client_verify.specs.State.{State}
use Rattle.client_steps.specs.Steps.{Client, Closed, Open, Owner, Parts, journal_of, ledgers_of}
use Rattle.client_steps.specs.NotCalled.{CantBegin, CantCache, CantCommit, CantGive, CantHear, CantLook, CantResign, CantSign, CantTake}
use Rattle.client_runs.specs.declared.world.Act.{Act}
use Rattle.client_runs.specs.declared.world.Act.TheVariants as act
use Rattle.client_runs.specs.Told.{texts_in}

-- a crash may leave these texts of these files, in their order
abbrev pub MayLeaveEach : List History → List Bytes → Type 0
MayLeaveEach [] [] = Unit {0}
MayLeaveEach (file ∷ files) (text ∷ texts) = MayLeave file.now text × MayLeaveEach files texts
MayLeaveEach [] (text ∷ texts) = ⊥
MayLeaveEach (file ∷ files) [] = ⊥

-- and those of the ledgers with that one of the journal's file
abbrev pub MayLeaveAll : List History → History → List Bytes → Bytes → Type 0
MayLeaveAll ledgers journal ledgers_left journal_left = MayLeaveEach ledgers ledgers_left
    × MayLeave journal.now journal_left

-- no crash of this client leaves them all
abbrev pub NoneLeaves : Client → List Bytes → Bytes → Type 0
NoneLeaves client ledgers_left journal_left = MayLeaveAll (ledgers_of client)
    (journal_of client) ledgers_left journal_left → ⊥

-- A closed client opens whenever it is told to, gains a key where there is a further one, and crashes wherever a crash
-- leaves this. It can't do anything else.
abbrev pub CantFromClosed : {A : Type 0} → Owner → Parts → Act A → Type 0
CantFromClosed o p act.Open = ⊥
CantFromClosed o p act.Gain = length o.secrets ≤ length p.ledgers
CantFromClosed o p (act.Crash ledgers journal) = NoneLeaves (Closed p) (texts_in ledgers) journal.items
CantFromClosed o p other = Unit {0}

-- An open one closes whenever it is told to; it can't be opened again, and gains no key.
abbrev pub CantFromOpen : {A : Type 0} → State → Act A → Type 0
CantFromOpen s act.Open = Unit {0}
CantFromOpen s act.Close = ⊥
CantFromOpen s act.Gain = Unit {0}
CantFromOpen s (act.Begin changes laid) = CantBegin s changes.items (texts_in laid)
CantFromOpen s (act.Resign n) = CantResign s n
CantFromOpen s (act.Reply text) = CantHear s
CantFromOpen s (act.Block block) = CantTake s
CantFromOpen s act.Sign = CantSign s
CantFromOpen s (act.Committed status) = CantCommit s
CantFromOpen s (act.Look p i) = CantLook s
CantFromOpen s (act.Kind p i) = CantLook s
CantFromOpen s (act.Free p first last) = CantLook s ⊎ (last < first)
CantFromOpen s (act.Give block) = CantGive s
CantFromOpen s (act.Cache capacity) = CantCache capacity
CantFromOpen s (act.Crash ledgers journal) = NoneLeaves (Open s) (texts_in ledgers) journal.items

-- the step can't be taken
abbrev pub CantBeTaken : {A : Type 0} → Owner → Client → Act A → Type 0
CantBeTaken o (Closed p) todo = CantFromClosed o p todo
CantBeTaken o (Open s) todo = CantFromOpen s todo
