-- Records of a log, and the file that has them.
-- The bytes stand in docs/FORMATS.md.
use Rattle.std.specs.Prelude.{◌≡◌, ◌≢◌, ◌⊎◌, ℕ, Bool, ◌+◌, ◌<◌, ◌≤◌, ◌^◌, List, [], ◌∷◌, ◌++◌, length, take, drop}
use Rattle.std.specs.Int.{w32, to_be_bytes, from_be_bytes}
use Rattle.layout.specs.Types.{Bytes}
use Rattle.leaf_ledger.specs.Device.{History, MayLeave, IsAtMostSynced}

-- a text, and a number that says what it is
pub record Record : Type 0 where
  pub kind : ℕ
  pub text : Bytes

abbrev pub open_gate : ℕ
open_gate = 1

abbrev pub closed_gate : ℕ
closed_gate = 0

-- the kind of a record and the length of its text
unfoldable pub header : ℕ → ℕ → Bytes
header kind size = kind ∷ to_be_bytes w32 size

abbrev pub size_of_header : ℕ
size_of_header = 5

abbrev pub spelled : Record → Bytes
spelled r = header r.kind (length r.text) ++ r.text

-- records, each after an open gate
abbrev pub chain : List Record → Bytes
chain [] = []
chain (r ∷ rs) = open_gate ∷ (spelled r ++ chain rs)

-- the length of the text has four bytes
abbrev pub IsShort : Record → Type 0
IsShort r = length r.text < 2 ^ 32

abbrev pub AllShort : List Record → Type 0
AllShort [] = Unit {0}
AllShort (r ∷ rs) = IsShort r × AllShort rs

-- ---- what a file tells

-- The file begins with these records, each after an open gate; then comes a gate that isn't open, and whatever stands
-- after it doesn't count.
pub record BeginsWith (records : List Record) (file : Bytes) : Type 0 where
  pub gate : ℕ
  pub rest : Bytes
  pub split : file ≡ chain records ++ gate ∷ rest
  pub shut : gate ≢ open_gate
  pub short : AllShort records

-- up to a gate, the file is a chain of these records
pub record Reaches (file : Bytes) (gate : ℕ) (records : List Record) : Type 0 where
  pub split : file ≡ chain records ++ drop gate file
  pub size : length (chain records) ≡ gate
  pub inside : gate < length file
  pub short : AllShort records

-- a file of at most one byte is a new log
abbrev pub IsNew : Bytes → Type 0
IsNew file = length file ≤ 1

-- these are the records of the file
abbrev pub Tells : List Record → Bytes → Type 0
Tells records file = (IsNew file × (records ≡ [])) ⊎ BeginsWith records file

-- the length that a header tells
unfoldable pub length_told : Bytes → ℕ
length_told bytes = from_be_bytes w32 (take 4 (drop 1 bytes))

-- these bytes from a header on end before the gate that comes after the text
abbrev pub EndsEarly : Bytes → Type 0
EndsEarly bytes = length bytes ≤ size_of_header + length_told bytes

-- The file is damaged: after some records an open gate stands where the file ends before the next gate.
pub record IsDamaged (file : Bytes) : Type 0 where
  pub there : 1 < length file
  pub records : List Record
  pub bytes : Bytes
  pub split : file ≡ chain records ++ open_gate ∷ bytes
  pub short : AllShort records
  pub wrong : EndsEarly bytes

-- the records are these, or these and all of those: never a part of those
abbrev pub TellsWithOrWithout : List Record → List Record → Bytes → Type 0
TellsWithOrWithout records added file = Tells records file ⊎ Tells (records ++ added) file

-- ---- opening

-- a file of more than one byte is synced, at most
abbrev pub KeepsLog : History → History → Type 0
KeepsLog old new = 1 < length old.now.text → IsAtMostSynced old new

-- What a crash may leave while a log is opened: what it could leave before, what a read gave, or, of a new log, a new
-- log.
abbrev pub MayBeLeft : History → Bytes → Type 0
MayBeLeft old left = MayLeave old.now left ⊎ ((left ≡ old.now.text) ⊎ (IsNew old.now.text × IsNew left))

-- a log as its callers see it
pub record LogFile : Type 0 where
  pub file : History
  pub faults : ℕ
  pub usable : Bool

-- a log that is read back, as its callers see it: how far it is, where the file ends, and whether all was read
pub record Reading : Type 0 where
  pub file : History
  pub faults : ℕ
  pub place : ℕ
  pub size : ℕ
  pub ended : Bool

-- these records were read
abbrev pub HasRead : List Record → Reading → Type 0
HasRead records r = Reaches r.file.now.text r.place records
