-- The log of a server that keeps its files: under which key its calls were made, and the calls.
-- The bytes stand in docs/FORMATS.md.
use Rattle.std.specs.Prelude.{◌≡◌, ◌≢◌, ◌⊎◌, ℕ, List, [], ◌∷◌, ◌++◌, map, reverse}
use Rattle.layout.specs.Types.{Bytes, Key}
use Rattle.record_log.specs.Records.{Record, Reaches, Tells, IsDamaged}
use Rattle.consistency_server.specs.declared.call.CallKind.{CallKind}
use Rattle.consistency_server.specs.declared.call.CallKind.TheVariants.{Update, Commit}
use Rattle.consistency_server.specs.Answers.{Call}
use Rattle.consistency_server.specs.History.{logged}
use Rattle.server_log.specs.declared.error.OpenError.{OpenError}
use Rattle.server_log.specs.declared.error.OpenError.TheVariants.{OtherKey, NoBeginning, NoCall, Foreign, Damaged, Device, Memory}

-- ---- its records

abbrev pub number_of : CallKind → ℕ
number_of Update = 1
number_of Commit = 2

-- that of a call that placed or committed
abbrev pub record_of : Call → Record
record_of call = record { kind = number_of call.kind; text = call.text }

abbrev pub kind_of_beginning : ℕ
kind_of_beginning = 3

-- the first one says under which key the calls were made
abbrev pub beginning : Key → Record
beginning key = record { kind = kind_of_beginning; text = key }

-- those of a log: its beginning, and its calls
abbrev pub records_of : Key → List Call → List Record
records_of key calls = beginning key ∷ map record_of calls

-- ---- which file it is

-- The file is the log of these calls under this key: it tells their records, or none yet, where there are no calls.
abbrev pub IsLogOf : Key → List Call → Bytes → Type 0
IsLogOf key calls file = Tells (records_of key calls) file ⊎ (Tells [] file × (calls ≡ []))

-- ---- why a file is no such log

-- the file begins with these records, each after an open gate
abbrev pub StartsWith : List Record → Bytes → Type 0
StartsWith records file = (gate : ℕ) × Reaches file gate records

-- what is wrong with the file that is refused so, under this key; a fault and want of memory say nothing of it
abbrev pub IsReason : OpenError → Key → Bytes → Type 0
IsReason OtherKey key file = (other : Key) × (other ≢ key) × StartsWith (beginning other ∷ []) file
IsReason NoBeginning key file = (r : Record) × (r.kind ≢ kind_of_beginning) × StartsWith (r ∷ []) file
IsReason NoCall key file = (calls : List Call) × (r : Record)
    × ((kind : CallKind) → number_of kind ≢ r.kind) × StartsWith (records_of key calls ++ r ∷ []) file
IsReason Foreign key file = (calls : List Call) × (call : Call)
    × (logged (record { pinned = key; history = reverse calls }) call ≡ [])
    × StartsWith (records_of key calls ++ record_of call ∷ []) file
IsReason Damaged key file = IsDamaged file
IsReason Device key file = Unit {0}
IsReason Memory key file = Unit {0}
