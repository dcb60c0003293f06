-- What the file of a ledger says: 56 bytes of key, and a byte a leaf.
use Rattle.std.specs.Prelude.{◌≡◌, ◌≢◌, ◌⊎◌, ℕ, ◌+◌, ◌<◌, ◌≤◌, Bool, true, false, not, ◌||◌, ◌==◌, nat_eq, length, take, drop, get_or, set}
use Rattle.std.specs.List.{filter}
use Rattle.layout.specs.Types.{Bytes, Key}
use Rattle.leaf_ledger.specs.Device.{History, IsAtMostSynced}

-- the number of a leaf: 0 to 1,023
abbrev pub LeafNumber : Type 0
LeafNumber = ℕ

abbrev pub number_of_leaves : ℕ
number_of_leaves = 1024

abbrev pub size_of_key : ℕ
size_of_key = 56

abbrev pub size_of_file : ℕ
size_of_file = 1080

-- where the byte of a leaf stands
abbrev pub mark_place : LeafNumber → ℕ
mark_place leaf = size_of_key + leaf

abbrev pub free_mark : ℕ
free_mark = 0

-- what is written for a leaf that is handed out
abbrev pub used_mark : ℕ
used_mark = 1

-- used: whether the byte of the leaf isn't 0
abbrev pub is_used : Bytes → LeafNumber → Bool
is_used file leaf = not (get_or file (mark_place leaf) free_mark == free_mark)

-- the file with the mark of a leaf, and else as it was
abbrev pub with_mark : LeafNumber → Bytes → Bytes
with_mark leaf file = set file (mark_place leaf) used_mark

abbrev pub UsedAsBefore : Bytes → Bytes → Type 0
UsedAsBefore before file = (leaf : LeafNumber) → is_used file leaf ≡ is_used before leaf

abbrev pub UsedWith : LeafNumber → Bytes → Bytes → Type 0
UsedWith new before file = (leaf : LeafNumber) → is_used file leaf ≡ (nat_eq leaf new || is_used before leaf)

-- the same leaves are used, or the new one too
abbrev pub UsedWithOrWithout : LeafNumber → Bytes → Bytes → Type 0
UsedWithOrWithout new before file = UsedAsBefore before file ⊎ UsedWith new before file

-- the least leaf that isn't used
pub record IsLeastFree (file : Bytes) (leaf : LeafNumber) : Type 0 where
  pub below : leaf < number_of_leaves
  pub free : is_used file leaf ≡ false
  pub least : (i : LeafNumber) → i < leaf → is_used file i ≡ true

abbrev pub IsFull : Bytes → Type 0
IsFull file = (leaf : LeafNumber) → leaf < number_of_leaves → is_used file leaf ≡ true

-- how many leaves aren't used
abbrev pub free_leaves : Bytes → ℕ
free_leaves file = length (filter (λ mark. mark == free_mark) (drop size_of_key file))

-- a ledger as its callers see it
pub record LedgerState : Type 0 where
  pub key : Key
  pub file : History
  pub faults : ℕ
  pub outstanding : ℕ
  pub usable : Bool

-- what is true of a ledger's fields: no leaf before the next is free, and no more are outstanding than there are
pub record IsLedger (key : Key) (marks : Bytes) (next outstanding : ℕ) (AtRest : Type 0) : Type 0 where
  pub key_size : length key ≡ size_of_key
  pub size : length marks ≡ number_of_leaves
  pub next_in : next ≤ number_of_leaves
  pub few : outstanding ≤ next
  pub used : (k : ℕ) → k < next → get_or marks k 0 ≢ free_mark
  pub at_rest : AtRest

-- a file of this key: the key and the marks, and nothing else
abbrev pub IsFileOf : Key → Bytes → Type 0
IsFileOf key file = (length file ≡ size_of_file) × (take size_of_key file ≡ key)

-- a file that is there and is no ledger of this key
abbrev pub IsForeign : Key → Bytes → Type 0
IsForeign key file = (length file ≢ 0) × ((length file ≢ size_of_file) ⊎ (take size_of_key file ≢ key))

-- a file that is there is synced, at most
abbrev pub KeepsLedger : History → History → Type 0
KeepsLedger old new = length old.now.text ≢ 0 → IsAtMostSynced old new
