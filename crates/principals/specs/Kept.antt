-- Nobody has to believe this file: no public contract names it.
-- What the code keeps beside a table: which pairs of a group and a user have an open row.
use Rattle.std.specs.Prelude.{◌≡◌, ℕ, ◌+◌, ◌*◌, ◌-◌, ◌≤◌, ◌<◌, Bool, false, List, ◌∷◌, length, None, slice_index_or}
use Rattle.std.specs.Int.{w8}
use Rattle.std.specs.List.{list_any}
use Rattle.layout.specs.Format.{FitRows, RowAfter, after_row, uint_in}
use Rattle.principals.specs.declared.table.Row.{Row}
use Rattle.principals.specs.Table.{Listing, is_open}
use Rattle.principals.specs.TableText.{listing_by, may_have}

-- a user after another one, with any keys
abbrev pub any_listing : RowAfter Listing
any_listing before = listing_by before (may_have before)

-- users that have a text, whether one has more than one key or not
pub record AreUsers (users : List Listing) : Type 0 where
  pub count : (uint_in w8 1 255).Fits (length users)
  pub rows : FitRows (after_row any_listing) None users

-- where a pair stands among all pairs
abbrev pub slot : ℕ → ℕ → ℕ
slot group user = 64 * (group - 64) + user

-- there is a mark at a pair exactly where it has an open row
pub record Marks (marks : List Bool) (rows : List Row) : Type 0 where
  pub size : length marks ≡ 2048
  pub tells : (group user : ℕ) → 64 ≤ group → group < 96 → user < 64 → slice_index_or marks (slot group user) false ≡ list_any (is_open group user) rows

-- a table's parts
pub record IsKept (superuser : Listing) (others : List Listing) (rows : List Row) (marks : List Bool) : Type 0 where
  pub listed : AreUsers (superuser ∷ others)
  pub few : length rows ≤ 65535
  pub marked : Marks marks rows
