-- Rows that ascend by a number, of which there are so few that one byte tells their count.
use Rattle.std.proofs.Common.{ℕ, ◌+◌, ◌≤◌, List, None, refl, arith}
use Rattle.std.specs.Int.{w8}
use Rattle.std.specs.List.{All}
use Rattle.std.specs.Ordering.{nat_cmp}
use Rattle.std.proofs.lemmas.Cmp.{nat_cmp_total}
use Rattle.layout.specs.Format.{RowAfter, uint_in, listed}
use Rattle.layout.specs.Laws.{listed_fits}
use Rattle.layout.specs.Sizes.{KeysAscend, few_rows}
use Rattle.layout.specs.Ascending.{Ascends, with_row}
use Rattle.layout.specs.AscendingLaws.{Ordered, ascends_from_fits, fits_from_ascends, ascends_with_row, all_with_row}

-- what each row is, wherever it stands, and that they ascend
abbrev pub AreRows : {T : Type 0} → (T → ℕ) → (T → Type 0) → List T → Type 0
AreRows key Each xs = All Each xs × Ascends nat_cmp key None xs

module _ {T : Type 0} (row : RowAfter T) (key : T → ℕ) (Each : T → Type 0) (ordered : Ordered nat_cmp key nat_cmp_total row Each) where
  pub rows_of : (xs : List T) → (listed (uint_in w8 0 255) row).Fits xs → AreRows key Each xs
  rows_of xs fits = ascends_from_fits nat_cmp key nat_cmp_total row Each ordered None xs fits.1.1

  pub are_listed : (low many : ℕ) → KeysAscend row key low (low + many) → many ≤ 255 → (xs : List T) → AreRows key Each xs → (listed (uint_in w8 0 255) row).Fits xs
  are_listed low many ascend le xs are =
      let rows = fits_from_ascends nat_cmp key nat_cmp_total row Each ordered None xs are.0 are.1 in
      let few = few_rows row key low (low + many) ascend None xs rows (omega arith) in
      listed_fits w8 255 row xs (omega arith) (omega (arith, few, le)) rows

  -- they fit with one more among them
  pub listed_with : (low many : ℕ) → KeysAscend row key low (low + many) → many ≤ 255 → (xs : List T) (x : T) → Each x → (listed (uint_in w8 0 255) row).Fits xs → (listed (uint_in w8 0 255) row).Fits (with_row nat_cmp key xs x)
  listed_with low many ascend le xs x one fits =
      let old = rows_of xs fits in
      are_listed low many ascend le (with_row nat_cmp key xs x) (
        all_with_row nat_cmp key nat_cmp_total Each xs x one old.0,
        ascends_with_row nat_cmp key nat_cmp_total None xs x refl old.1,
      )
