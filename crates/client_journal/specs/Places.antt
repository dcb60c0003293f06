-- Nobody has to believe this file: an aid of private contracts.
-- Where the texts of the last records lie in a journal's file.
use Rattle.std.specs.Prelude.{◌≡◌, ◌≢◌, ℕ, ◌+◌, ◌<◌, ◌≤◌, List, ◌++◌, length, take, drop, get_or, Some, option_map, IfSome}
use Rattle.layout.specs.Types.{Bytes}
use Rattle.leaf_ledger.specs.Device.{Disk, end_of_files, at_rest}
use Rattle.leaf_ledger.specs.declared.extent.Extent.{Extent}
use Rattle.client_journal.specs.Records.{Record, State, open_gate, Idle, Declared, Signed, state_of, chain, AllShort}
use Rattle.client_journal.specs.declared.phase.Phase.{Phase}
use Rattle.client_journal.specs.declared.phase.Phase.TheVariants as phase

-- the bytes of an extent
abbrev pub part : Extent → Bytes → Bytes
part e file = take e.size (drop e.at file)

-- the state whose texts lie there
abbrev pub state_at : Bytes → Phase → State
state_at file phase.Idle = Idle
state_at file (phase.Declared last certificate) = Declared (option_map (λ e. part e file) last) (part certificate file)
state_at file (phase.Signed structure) = Signed (part structure file)

-- the extent ends before a place
abbrev pub IsBelow : ℕ → Extent → Type 0
IsBelow end e = e.at + e.size ≤ end

-- and so do all extents of the state
abbrev pub AreBelow : ℕ → Phase → Type 0
AreBelow end phase.Idle = Unit {0}
AreBelow end (phase.Declared last certificate) = IfSome last (IsBelow end) × IsBelow end certificate
AreBelow end (phase.Signed structure) = IsBelow end structure

-- up to a gate, the file is a chain of records, with the state whose texts lie there
pub record Reaches (file : Bytes) (gate : ℕ) (phase : Phase) : Type 0 where
  pub records : List Record
  pub split : file ≡ chain records ++ drop gate file
  pub size : length (chain records) ≡ gate
  pub inside : gate < length file
  pub short : AllShort records
  pub state : state_of records ≡ Some (state_at file phase)
  pub below : AreBelow gate phase

-- and there the records end: the gate isn't open
pub record Ends (file : Bytes) (gate : ℕ) (phase : Phase) : Type 0 where
  pub reaches : Reaches file gate phase
  pub shut : get_or file gate 0 ≢ open_gate

-- what stands in a file at rest, which may be as long as a file can be
pub record IsReady (disk : Disk) (gate : ℕ) (phase : Phase) : Type 0 where
  pub rest : disk ≡ at_rest disk.text
  pub ends : Ends disk.text gate phase
  pub bounded : gate + 1 < end_of_files

-- the bytes before a place are the same
abbrev pub KeepsFront : ℕ → Bytes → Bytes → Type 0
KeepsFront n old new = take n new ≡ take n old
