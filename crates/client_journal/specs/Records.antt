-- Records of a journal, the state that they tell, and the file that has them.
-- The bytes stand in docs/FORMATS.md.
use Rattle.std.specs.Prelude.{◌≡◌, ◌≢◌, ◌⊎◌, ℕ, ◌+◌, ◌-◌, ◌<◌, ◌≤◌, ◌^◌, Bool, ◌&&◌, nat_lt, List, [], ◌∷◌, ◌++◌, length, take, drop, Option, Some, None, IsSome, ◌==◌, if◌then◌else◌}
use Rattle.std.specs.Int.{w32, to_be_bytes, from_be_bytes}
use Rattle.std.specs.Option.{option_and_then}
use Rattle.std.specs.Str.{bytes_eq}
use Rattle.layout.specs.Types.{Bytes}
use Rattle.leaf_ledger.specs.Device.{History, MayLeave, IsAtMostSynced}
use Rattle.client_journal.specs.declared.kind.Kind.{Kind}
use Rattle.client_journal.specs.declared.kind.Kind.TheVariants.{Certificate, Structure}

-- a signed text, and what it is
pub record Record : Type 0 where
  pub kind : Kind
  pub text : Bytes

-- what records tell: nothing yet; that a certificate was signed, after this structure if there is one; that a structure
-- was
pub data State : Type 0 where
  Idle : State
  Declared : Option Bytes → Bytes → State
  Signed : Bytes → State

-- the size of the signature at the end of a text
abbrev pub signature_size : ℕ
signature_size = 2508

-- the text that was signed
abbrev pub unsigned : Bytes → Bytes
unsigned text = take (length text - signature_size) text

-- the signature at its end
abbrev pub signature_in : Bytes → Bytes
signature_in text = drop (length text - signature_size) text

-- two texts, each longer than a signature, of which the same was signed
unfoldable pub same_unsigned : Bytes → Bytes → Bool
same_unsigned a b =
    nat_lt signature_size (length a) && nat_lt signature_size (length b) && bytes_eq (unsigned a) (unsigned b)

-- the state after a record of this kind and text: a certificate follows nothing, a structure, or the same certificate
-- signed once more, and a structure follows a certificate, else the record is out of turn
abbrev pub next_state : State → Kind → Bytes → Option State
next_state Idle Certificate text = Some (Declared None text)
next_state Idle Structure text = None
next_state (Declared last certificate) Certificate text =
    if same_unsigned certificate text then Some (Declared last text) else None
next_state (Declared last certificate) Structure text = Some (Signed text)
next_state (Signed structure) Certificate text = Some (Declared (Some structure) text)
next_state (Signed structure) Structure text = None

-- the state that records lead to, the first of them first, if none is out of turn
abbrev pub state_after : State → List Record → Option State
state_after state [] = Some state
state_after state (r ∷ rs) = option_and_then (λ next. state_after next rs) (next_state state r.kind r.text)

abbrev pub state_of : List Record → Option State
state_of rs = state_after Idle rs

-- ---- the file

abbrev pub open_gate : ℕ
open_gate = 1

abbrev pub closed_gate : ℕ
closed_gate = 0

abbrev pub number_of : Kind → ℕ
number_of Certificate = 1
number_of Structure = 2

abbrev pub kind_of : ℕ → Option Kind
kind_of n = if n == 1 then Some Certificate else if n == 2 then Some Structure else None

-- the kind of a record and the length of its text
unfoldable pub header : Kind → ℕ → Bytes
header kind size = number_of kind ∷ to_be_bytes w32 size

abbrev pub size_of_header : ℕ
size_of_header = 5

abbrev pub spelled : Record → Bytes
spelled r = header r.kind (length r.text) ++ r.text

-- records, each after an open gate
abbrev pub chain : List Record → Bytes
chain [] = []
chain (r ∷ rs) = open_gate ∷ (spelled r ++ chain rs)

-- the length of the text has four bytes
abbrev pub IsShort : Record → Type 0
IsShort r = length r.text < 2 ^ 32

abbrev pub AllShort : List Record → Type 0
AllShort [] = Unit {0}
AllShort (r ∷ rs) = IsShort r × AllShort rs

-- ---- what a file tells

-- The file begins with these records, none of them out of turn, each after an open gate; then comes a gate that isn't
-- open, and whatever stands after it doesn't count.
pub record BeginsWith (records : List Record) (file : Bytes) : Type 0 where
  pub gate : ℕ
  pub rest : Bytes
  pub split : file ≡ chain records ++ gate ∷ rest
  pub shut : gate ≢ open_gate
  pub short : AllShort records
  pub state : State
  pub in_turn : state_of records ≡ Some state

-- a file of at most one byte is a new journal
abbrev pub IsNew : Bytes → Type 0
IsNew file = length file ≤ 1

-- these are the records of the file
abbrev pub Tells : List Record → Bytes → Type 0
Tells records file = (IsNew file × (records ≡ [])) ⊎ BeginsWith records file

-- another kind stands there
abbrev pub IsOtherKind : Bytes → Type 0
IsOtherKind [] = ⊥
IsOtherKind (number ∷ bytes) = kind_of number ≡ None

-- a record stands there that is out of turn in this state
abbrev pub IsOutOfTurn : State → Bytes → Type 0
IsOutOfTurn state bytes = (r : Record) × (rest : Bytes) × (bytes ≡ spelled r ++ rest) × IsShort r
    × (next_state state r.kind r.text ≡ None)

-- the length that a header tells
unfoldable pub length_told : Bytes → ℕ
length_told bytes = from_be_bytes w32 (take 4 (drop 1 bytes))

-- these bytes from a header on end before the gate that comes after the text
abbrev pub EndsEarly : Bytes → Type 0
EndsEarly bytes = length bytes ≤ size_of_header + length_told bytes

-- The file is damaged: after some records an open gate stands before another kind, before a record out of turn, or
-- where the file ends before the next gate.
pub record IsDamaged (file : Bytes) : Type 0 where
  pub there : 1 < length file
  pub records : List Record
  pub bytes : Bytes
  pub split : file ≡ chain records ++ open_gate ∷ bytes
  pub short : AllShort records
  pub state : State
  pub in_turn : state_of records ≡ Some state
  pub wrong : IsOtherKind bytes ⊎ (IsOutOfTurn state bytes ⊎ EndsEarly bytes)

-- the file tells records that lead to this state
pub record TellsState (state : State) (file : Bytes) : Type 0 where
  pub records : List Record
  pub tells : Tells records file
  pub leads : state_of records ≡ Some state

-- the record may come after those of the file: it isn't out of turn
pub record MayCome (r : Record) (file : Bytes) : Type 0 where
  pub state : State
  pub tells : TellsState state file
  pub in_turn : IsSome (next_state state r.kind r.text)

-- the records are these, or these and one more
abbrev pub TellsWithOrWithout : List Record → Record → Bytes → Type 0
TellsWithOrWithout records r file = Tells records file ⊎ Tells (records ++ r ∷ []) file

-- ---- opening

-- a file of more than one byte is synced, at most
abbrev pub KeepsJournal : History → History → Type 0
KeepsJournal old new = 1 < length old.now.text → IsAtMostSynced old new

-- What a crash may leave while a journal is opened: what it could leave before, what a read gave, or, of a new journal,
-- a new journal.
abbrev pub MayBeLeft : History → Bytes → Type 0
MayBeLeft old left = MayLeave old.now left ⊎ ((left ≡ old.now.text) ⊎ (IsNew old.now.text × IsNew left))

-- a journal as its callers see it
pub record JournalFile : Type 0 where
  pub file : History
  pub faults : ℕ
  pub usable : Bool
