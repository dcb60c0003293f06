-- What the flusher took and wrote. What a writer holds is None where it doesn't say.
use Rattle.std.specs.Prelude.{◌≡◌, List, [], ◌++◌, Bool, true, false, not, Option}
use Rattle.std.specs.Io.KnownBytes.{Appends}
use Rattle.layout.specs.Types.{Bytes}
use Rattle.connection.specs.Written.{AppendsBeginning}
use Rattle.consistency_server.specs.Answers.{Call}
use Rattle.server_workers.specs.declared.call_queue.Hand.{Hand}
use Rattle.server_workers.specs.Records.{records}

-- what a flusher's pass knows, and whether a write failed
pub record Flushing : Type 0 where
  pub hand : Hand
  pub failed : Bool

-- The records of what was taken were written, or after a failed write a beginning of them.
abbrev pub Wrote : Bool → Option Bytes → Option Bytes → List Call → Type 0
Wrote false before now taken = Appends before now (records taken)
Wrote true before now taken = AppendsBeginning before now (records taken)

-- What was taken begins the logged calls, and is all of them where it says flushed.
abbrev pub IsFlushed : Bool → Option Bytes → Option Bytes → List Call → Type 0
IsFlushed flushed before now logged =
    (taken left : List Call) × (logged ≡ taken ++ left) × Wrote (not flushed) before now taken
    × (flushed ≡ true → left ≡ [])
