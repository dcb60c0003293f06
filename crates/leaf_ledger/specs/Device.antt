-- What a device holds, what its calls do to it, and what a crash may leave.
use Rattle.std.specs.Prelude.{◌≡◌, ◌⊎◌, ℕ, ◌+◌, ◌-◌, ◌^◌, ◌<◌, ◌≤◌, max, List, [], ◌∷◌, ◌++◌, length, take, drop, get_or, Result, IsErr}
use Rattle.layout.specs.Types.{Bytes}
use Rattle.leaf_ledger.specs.declared.extent.Extent.{Extent}

-- where each text ends at last: offsets of files are signed
abbrev pub end_of_files : ℕ
end_of_files = 2 ^ 63

-- so many bytes from a place on
abbrev pub extent : ℕ → ℕ → Extent
extent at n = record { at = at; size = n }

-- What a device holds: the text that a read gives, the text at the last sync that succeeded, and what was written
-- since, the first of it first.
pub record Disk : Type 0 where
  pub text : Bytes
  pub synced_text : Bytes
  pub unsynced : List Extent

-- the place is in none of the extents
abbrev pub IsOutside : List Extent → ℕ → Type 0
IsOutside [] i = Unit {0}
IsOutside (e ∷ extents) i = ((i < e.at) ⊎ (e.at + e.size ≤ i)) × IsOutside extents i

-- the greatest of a size and the ends of the extents
abbrev pub reach : ℕ → List Extent → ℕ
reach size [] = size
reach size (e ∷ extents) = max (e.at + e.size) (reach size extents)

-- After writes of these extents that may be cut short: any bytes in the extents and past the old end, where the text
-- may end anywhere up to their reach; outside the same bytes.
pub record Torn (old : Bytes) (extents : List Extent) (new : Bytes) : Type 0 where
  pub no_shorter : length old ≤ length new
  pub no_longer : length new ≤ reach (length old) extents
  pub outside : (i : ℕ) → i < length old → IsOutside extents i → get_or new i 0 ≡ get_or old i 0

-- what a crash now may leave
abbrev pub MayLeave : Disk → Bytes → Type 0
MayLeave disk left = Torn disk.synced_text disk.unsynced left

-- each text that a crash now may leave has P
abbrev pub Leaves : (Bytes → Type 0) → Disk → Type 0
Leaves P disk = (left : Bytes) → MayLeave disk left → P left

-- nothing was written since the last sync
abbrev pub at_rest : Bytes → Disk
at_rest text = record { text = text; synced_text = text; unsynced = [] }

-- what a device holds now, and what it held at each moment before, the last of them first
pub record History : Type 0 where
  pub now : Disk
  pub past : List Disk

abbrev pub moments : History → List Disk
moments h = h.now ∷ h.past

-- one moment more
abbrev pub then : History → Disk → History
then h disk = record { now = disk; past = moments h }

-- as after a restart, which found this text
abbrev pub started : Bytes → History
started text = record { now = at_rest text; past = [] }

-- the text with these bytes at this offset
abbrev pub written : ℕ → Bytes → Bytes → Bytes
written at bytes text = take at text ++ bytes ++ drop (at + length bytes) text

-- after a write of n bytes, from which on a read gives this text
abbrev pub wrote : ℕ → ℕ → Bytes → History → History
wrote at n text h =
    then h (record { text = text; synced_text = h.now.synced_text; unsynced = h.now.unsynced ++ extent at n ∷ [] })

-- after a write of these bytes
abbrev pub wrote_bytes : ℕ → Bytes → History → History
wrote_bytes at bytes h = wrote at (length bytes) (written at bytes h.now.text) h

-- after a write of n bytes, of which any part was done, or none
abbrev pub WroteSome : ℕ → ℕ → History → History → Type 0
WroteSome at n old new =
    (new ≡ old) ⊎ ((text : Bytes) × Torn old.now.text (extent at n ∷ []) text × (new ≡ wrote at n text old))

-- after a sync that succeeded
abbrev pub synced : History → History
synced h = then h (at_rest h.now.text)

-- all that happened is a sync, at most
abbrev pub IsAtMostSynced : History → History → Type 0
IsAtMostSynced old new = (new ≡ old) ⊎ (new ≡ synced old)

-- each of these moments leaves what has P
abbrev pub EachLeaves : (Bytes → Type 0) → List Disk → Type 0
EachLeaves P [] = Unit {0}
EachLeaves P (disk ∷ disks) = Leaves P disk × EachLeaves P disks

-- At every moment from the old one to the new one, both among them, a crash leaves what has P.
pub record Throughout (P : Bytes → Type 0) (old new : History) : Type 0 where
  pub since : List Disk
  pub goes_on : moments new ≡ since ++ moments old
  pub at_start : Leaves P old.now
  pub each : EachLeaves P since

-- a crash at one of these moments may leave this
abbrev pub OneLeaves : List Disk → Bytes → Type 0
OneLeaves [] left = ⊥
OneLeaves (disk ∷ disks) left = MayLeave disk left ⊎ OneLeaves disks left

-- a crash at some moment from the old one to the new one, both among them, may leave this
pub record LeftDuring (old new : History) (left : Bytes) : Type 0 where
  pub since : List Disk
  pub goes_on : moments new ≡ since ++ moments old
  pub some : MayLeave old.now left ⊎ OneLeaves since left

-- the greatest count of faults, at which it stays
abbrev pub last_count : ℕ
last_count = 2 ^ 64 - 1

-- the count of faults rose, or stands at its last value
abbrev pub HasRisen : ℕ → ℕ → Type 0
HasRisen before now = now < last_count → before < now

-- The count of faults doesn't fall, and an error of the device comes only where it rose or stands at its last value.
pub record HasCause {T E : Type 0} (before now : ℕ) (result : Result T E) : Type 0 where
  pub later : before ≤ now
  pub rose : IsErr result → HasRisen before now
