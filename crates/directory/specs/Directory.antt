-- Directories: names, and what each stands for.
-- The bytes stand in docs/FORMATS.md.
use Rattle.std.specs.Prelude.{◌≡◌, ◌≢◌, List, Option, codes}
use Rattle.std.specs.Int.{w16}
use Rattle.std.specs.Option.{option_map}
use Rattle.std.specs.Ordering.{nat_cmp}
use Rattle.std.specs.Cmp.Lexicographic.{slice_cmp}
use Rattle.std.specs.declared.cmp.Ordering.{Ordering}
use Rattle.layout.specs.Format.{Format, RowAfter, uint_in, pair, guarded, headed, mapped, listed}
use Rattle.layout.specs.Ranges.{principal, i_number}
use Rattle.layout.specs.Types.{Bytes}
use Rattle.layout.specs.Ascending.{above, row_at, with_row, without_row}
use Rattle.layout.specs.declared.error.ReadError.TheVariants.{Order}
use Rattle.directory.specs.declared.directory.TheConstants.{MOST_ENTRIES}
use Rattle.directory.specs.declared.target.Target.{Target}
use Rattle.directory.specs.Name.{name}

-- a name, and what it stands for
pub record Entry : Type 0 where
  pub name : Bytes
  pub target : Target

abbrev pub name_of : Entry → Bytes
name_of entry = entry.name

-- names stand in the order of their bytes
abbrev pub by_bytes : Bytes → Bytes → Ordering
by_bytes = slice_cmp nat_cmp

-- ---- the text

-- a file or directory: whose it is, and its number among theirs
abbrev pub target : Format Target
target = mapped (λ (principal, i_number). record { principal = principal; i_number = i_number })
    (λ t. (t.principal, t.i_number)) (pair principal i_number)

-- a name, and its target
abbrev pub named : Format Entry
named = mapped (λ (name, target). record { name = name; target = target }) (λ e. (e.name, e.target)) (pair name target)

-- a name above the one before, and its target
abbrev pub entry : RowAfter Entry
entry before = mapped (λ (name, target). record { name = name; target = target }) (λ e. (e.name, e.target))
    (pair (guarded name (above by_bytes name_of before) Order) target)

abbrev pub directory : Format (List Entry)
directory = headed (codes "SDI1") (listed (uint_in w16 0 MOST_ENTRIES) entry)

-- ---- the map

-- what a name stands for
unfoldable pub target_of : List Entry → Bytes → Option Target
target_of entries name = option_map (λ e. e.target) (row_at by_bytes name_of entries name)

-- the entries with this one among them
unfoldable pub linked : List Entry → Entry → List Entry
linked entries entry = with_row by_bytes name_of entries entry

-- the entries but the one of this name
unfoldable pub unlinked : List Entry → Bytes → List Entry
unlinked entries name = without_row by_bytes name_of entries name

-- this name stands for this now, or for nothing, and each other name for what it stood for
pub record ChangesOnly (old new : List Entry) (name : Bytes) (target : Option Target) : Type 0 where
  pub changed : target_of new name ≡ target
  pub others : (other : Bytes) → other ≢ name → target_of new other ≡ target_of old other
