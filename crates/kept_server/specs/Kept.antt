-- What of the calls is in the log, whatever crash comes.
use Rattle.std.specs.Prelude.{◌≡◌, List, ◌++◌, map, true}
use mathlib.Core.List.{IsPrefix}
use Rattle.layout.specs.Types.{Bytes}
use Rattle.leaf_ledger.specs.Device.{History}
use Rattle.record_log.specs.Records.{Record, LogFile, Tells}
use Rattle.record_log.specs.Life.{Event, IsLife, IsPossible, end_of}
use Rattle.consistency_server.specs.Answers.{Call}
use Rattle.consistency_server.specs.History.{Ordered, log_of}
use Rattle.server_log.specs.KeptLog.{record_of}

-- ---- files

-- a read gives what tells these records, and so does whatever a crash leaves
abbrev pub Tell : List Record → History → Type 0
Tell records h = (file : Bytes) → IsPossible h file → Tells records file

-- the same, with perhaps more after them
abbrev pub TellAtLeast : List Record → History → Type 0
TellAtLeast records h = (file : Bytes) → IsPossible h file → (more : List Record) × Tells (records ++ more) file

-- the file tells what it told at the start, and then just these calls
abbrev pub HasJust : History → List Call → History → Type 0
HasJust start calls h = (told : List Record) → Tell told start → Tell (told ++ map record_of calls) h

-- these calls are in the log, synced: the file tells what it told at the start, then these calls, and perhaps more
abbrev pub HasSynced : History → List Call → History → Type 0
HasSynced start calls h = (told : List Record) → Tell told start → TellAtLeast (told ++ map record_of calls) h

-- all that became of the file are calls of its log, one after another
pub record IsCalled (old new : History) : Type 0 where
  pub calls : List Event
  pub life : IsLife old calls
  pub ends : end_of old calls ≡ new

-- a log, and the calls that went into it since the start
pub record Keeping : Type 0 where
  pub log : LogFile
  pub events : List Call

-- the log has what it should: unless it failed just these calls, and else at least these
abbrev pub IsKept : History → LogFile → List Call → Type 0
IsKept start log calls = HasSynced start calls log.file × (log.usable ≡ true → HasJust start calls log.file)

-- The log has a beginning of what the order leaves in it: what it told at the start, then calls that placed or committed
-- since, each once and in order.
pub record KeepsOrder (start : History) (told : List Call) (log : LogFile) (order : Ordered) : Type 0 where
  pub events : List Call
  pub kept : IsKept start log events
  pub beginning : IsPrefix (told ++ events) (log_of order.pinned order.history)
