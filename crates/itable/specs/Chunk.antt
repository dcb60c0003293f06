-- Chunks of an i-table: `STC1`, the number of the chunk, and the pairs of the i-numbers in it, ascending.
-- The bytes stand in docs/FORMATS.md.
use Rattle.std.specs.Prelude.{ℕ, ◌/◌, ◌==◌, List, codes}
use Rattle.std.specs.Int.{w8}
use Rattle.std.specs.Ordering.{nat_cmp}
use Rattle.layout.specs.Format.{Format, RowAfter, uint_in, raw, pair, guarded, followed, headed, mapped, listed}
use Rattle.layout.specs.Ranges.{i_number}
use Rattle.layout.specs.Types.{INumber}
use Rattle.layout.specs.Ascending.{above}
use Rattle.layout.specs.declared.error.ReadError.TheVariants.{Order, Range}
use Rattle.itable.specs.declared.chunk.Pair.{Pair}

-- a chunk without where it lies in memory
pub record Chunk : Type 0 where
  pub number : ℕ
  pub pairs : List Pair

-- which chunk an i-number is in
abbrev pub chunk_number : INumber → ℕ
chunk_number i = i / 64

-- the key by which pairs ascend
abbrev pub i_number_of : Pair → INumber
i_number_of p = p.i_number

-- a pair in a chunk: another chunk's i-number is out of range
abbrev pub pair_row : ℕ → RowAfter Pair
pair_row number before =
    mapped (λ (i_number, digest). record { i_number = i_number; digest = digest }) (λ p. (p.i_number, p.digest))
    (pair (guarded (guarded i_number (λ i. chunk_number i == number) Range) (above nat_cmp i_number_of before) Order)
    (raw 32))

-- a chunk has at least one pair
abbrev pub chunk : Format Chunk
chunk =
    headed (codes "STC1")
    (mapped (λ (number, pairs). record { number = number; pairs = pairs }) (λ c. (c.number, c.pairs))
    (followed (uint_in w8 0 63) (λ number. listed (uint_in w8 1 64) (pair_row number))))
