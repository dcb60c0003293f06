-- Nobody has to believe this file: an aid of private contracts.
-- Where the records of a log end, and what an append makes of them.
use Rattle.std.specs.Prelude.{◌≡◌, ◌≢◌, ℕ, Bool, true, ◌<◌, List, [], ◌∷◌, ◌++◌, length, take, get_or}
use Rattle.layout.specs.Types.{Bytes}
use Rattle.leaf_ledger.specs.Device.{Disk, History, Throughout, at_rest, written}
use Rattle.record_log.specs.Records.{Record, open_gate, closed_gate, chain, AllShort, Reaches, Tells, TellsWithOrWithout}

-- at a gate the records end: it isn't open
pub record Ends (file : Bytes) (gate : ℕ) : Type 0 where
  pub records : List Record
  pub reaches : Reaches file gate records
  pub shut : get_or file gate 0 ≢ open_gate

-- what stands in a file at rest
pub record IsReady (disk : Disk) (gate : ℕ) : Type 0 where
  pub rest : disk ≡ at_rest disk.text
  pub ends : Ends disk.text gate

-- the bytes before a place are the same
abbrev pub KeepsFront : ℕ → Bytes → Bytes → Type 0
KeepsFront n old new = take n new ≡ take n old

-- these bytes are those of some records, each after an open gate, and a closed gate
pub record IsLaidOut (added : List Record) (bytes : Bytes) : Type 0 where
  pub some : 0 < length added
  pub short : AllShort added
  pub laid : bytes ≡ chain added ++ closed_gate ∷ []

-- At every moment from the old one to the new one a crash leaves the records before with all of these or with none, and
-- in the end a read gives such a file, too.
pub record MayAddAll (added : List Record) (old new : History) : Type 0 where
  pub any_moment : (rs : List Record) → Tells rs old.now.text → Throughout (TellsWithOrWithout rs added) old new
  pub reads : (rs : List Record) → Tells rs old.now.text → TellsWithOrWithout rs added new.now.text

-- and they are there, for good
pub record AddsAll (added : List Record) (old new : History) : Type 0 where
  pub may : MayAddAll added old new
  pub rest : new.now ≡ at_rest new.now.text
  pub appended : (rs : List Record) → Tells rs old.now.text → Tells (rs ++ added) new.now.text
  pub file : (rs : List Record) → Tells rs old.now.text
      → new.now.text ≡ written 0 (chain (rs ++ added) ++ closed_gate ∷ []) old.now.text

-- At every moment from the old one to the new one a crash leaves the records before, and in the end a read gives them.
pub record KeepsRecords (old new : History) : Type 0 where
  pub any_moment : (rs : List Record) → Tells rs old.now.text → Throughout (Tells rs) old new
  pub reads : (rs : List Record) → Tells rs old.now.text → Tells rs new.now.text

-- What is true of a log that is read back: its file is at rest, it has reached a gate after some records, and where it
-- has ended that gate isn't open.
pub record IsAt (disk : Disk) (size gate : ℕ) (ended : Bool) : Type 0 where
  pub rest : disk ≡ at_rest disk.text
  pub length_is : size ≡ length disk.text
  pub records : List Record
  pub reaches : Reaches disk.text gate records
  pub shut : ended ≡ true → get_or disk.text gate 0 ≢ open_gate
