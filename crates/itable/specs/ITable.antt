-- I-tables: a digest for each i-number of a principal that has one, and the chunks, the root and the handle by which
-- the table is stored. Of the chunks that aren't loaded it has the digests alone.
-- The bytes stand in docs/FORMATS.md.
use Rattle.std.specs.Prelude.{◌≡◌, ℕ, ◌==◌, ◌<◌, Bool, true, false, not, List, [], ◌∷◌, ◌++◌, Option, Some, None}
use Rattle.std.specs.Prelude.{filter, filter_map, length, if◌then◌else◌}
use Rattle.std.specs.List.{All, range_with_len}
use Rattle.std.specs.Option.{is_some, option_map, option_or}
use Rattle.std.specs.Ordering.{nat_cmp}
use Rattle.std.specs.Str.{bytes_eq}
use Rattle.layout.specs.Format.{raw}
use Rattle.layout.specs.Ranges.{principal as principals, i_number as i_numbers}
use Rattle.layout.specs.Ascending.{Ascends, row_at, with_row, without_row}
use Rattle.layout.specs.Hash.{hash}
use Rattle.layout.specs.Types.{Bytes, Digest, Handle, INumber, Principal}
use Rattle.itable.specs.declared.chunk.Pair.{Pair}
use Rattle.itable.specs.declared.root.ListedChunk.{ListedChunk}
use Rattle.itable.specs.Chunk.{Chunk, chunk, chunk_number, i_number_of}
use Rattle.itable.specs.Root.{Root, root, number_of}

-- a table without where it lies in memory
pub record ITable : Type 0 where
  pub principal : Principal
  -- those of the chunks that are loaded
  pub pairs : List Pair
  -- the others, as the root lists them
  pub unloaded : List ListedChunk

-- the chunk of this number, if it isn't loaded
abbrev pub unloaded_at : ITable → ℕ → Option ListedChunk
unloaded_at t n = row_at nat_cmp number_of t.unloaded n

-- the chunk of an i-number is loaded, or the table has none there: so the pairs tell its digest
abbrev pub loaded : ITable → INumber → Bool
loaded t i = not (is_some (unloaded_at t (chunk_number i)))

-- all chunks are loaded
abbrev pub IsWhole : ITable → Type 0
IsWhole t = t.unloaded ≡ []

-- an i-number, and bytes that are a digest
abbrev pub IsPair : Pair → Type 0
IsPair p = i_numbers.Fits p.i_number × (raw 32).Fits p.digest

-- the number of a chunk, and bytes that are a digest
abbrev pub IsListed : ListedChunk → Type 0
IsListed c = (c.number < 64) × (raw 32).Fits c.digest

-- the table of a principal, whose pairs ascend by i-number and are in loaded chunks, and whose other chunks ascend
pub record IsTable (t : ITable) : Type 0 where
  pub of_principal : principals.Fits t.principal
  pub of_pairs : All IsPair t.pairs
  pub ascending : Ascends nat_cmp i_number_of None t.pairs
  pub in_loaded : All (λ p. loaded t p.i_number ≡ true) t.pairs
  pub of_unloaded : All IsListed t.unloaded
  pub unloaded_ascend : Ascends nat_cmp number_of None t.unloaded

-- the digest that pairs have at an i-number, if they have one
abbrev pub digest_in : List Pair → INumber → Option Digest
digest_in pairs i = option_map (λ p. p.digest) (row_at nat_cmp i_number_of pairs i)

-- and that a table has, where the chunk of the i-number is loaded
abbrev pub digest_at : ITable → INumber → Option Digest
digest_at t i = digest_in t.pairs i

-- the table with this digest at an i-number
abbrev pub with_digest : ITable → INumber → Digest → ITable
with_digest t i d = record t { pairs = with_row nat_cmp i_number_of t.pairs (record { i_number = i; digest = d }) }

-- and with none there
abbrev pub without_digest : ITable → INumber → ITable
without_digest t i = record t { pairs = without_row nat_cmp i_number_of t.pairs i }

-- the pair's i-number is in this chunk
abbrev pub is_in : ℕ → Pair → Bool
is_in n p = chunk_number p.i_number == n

-- the pairs of a chunk
abbrev pub chunk_of : ℕ → ITable → Chunk
chunk_of n t = record { number = n; pairs = filter (is_in n) t.pairs }

-- no i-number of the chunk has a digest among the pairs
abbrev pub IsBare : ℕ → ITable → Type 0
IsBare n t = (i : INumber) → chunk_number i ≡ n → digest_at t i ≡ None

-- the text of a chunk, if it has pairs
unfoldable pub text_of_chunk : ITable → ℕ → Option Bytes
text_of_chunk t n = if length (chunk_of n t).pairs == 0 then None else Some (chunk.spell (chunk_of n t))

-- a chunk as the root lists it, if it isn't loaded or has pairs
abbrev pub listing : ITable → ℕ → Option ListedChunk
listing t n =
    option_or (unloaded_at t n) (option_map (λ text. record { number = n; digest = hash text }) (text_of_chunk t n))

-- those of the chunks 0 to 63
unfoldable pub listings : ITable → List ListedChunk
listings t = filter_map (listing t) (range_with_len 0 64)

-- whose table it is, and the chunks that it has
abbrev pub root_of : ITable → Root
root_of t = record { principal = t.principal; chunks = listings t }

-- the handle of a table is the digest of its root's text
abbrev pub handle_of : ITable → Handle
handle_of t = hash (root.spell (root_of t))

-- the text of the root
abbrev pub root_text : ITable → Bytes
root_text t = root.spell (root_of t)

-- The texts by which a table is stored: of each loaded chunk, ascending, and of the root. A chunk that isn't loaded has
-- no text here.
unfoldable pub texts : ITable → List Bytes
texts t = filter_map (text_of_chunk t) (range_with_len 0 64) ++ root_text t ∷ []

-- both are there, and are one text
abbrev pub is_same_text : Option Bytes → Option Bytes → Bool
is_same_text (Some old) (Some new) = bytes_eq old new
is_same_text None new = false
is_same_text (Some old) None = false

-- the text of a chunk, unless another table has this very text of it
abbrev pub new_chunk : ITable → ITable → ℕ → Option Bytes
new_chunk before t n = if is_same_text (text_of_chunk before n) (text_of_chunk t n) then None else text_of_chunk t n

-- The texts by which a table is stored and another one isn't. Texts are compared, and not their digests alone.
unfoldable pub new_texts : ITable → ITable → List Bytes
new_texts before t = filter_map (new_chunk before t) (range_with_len 0 64)
    ++ (if bytes_eq (root_text t) (root_text before) then [] else root_text t ∷ [])

-- a table of the same principal with the same digests has the same handle, if the same chunks aren't loaded
abbrev pub IsKnownByDigests : ITable → Type 0
IsKnownByDigests t = (u : ITable) → IsTable u → u.principal ≡ t.principal → u.unloaded ≡ t.unloaded
    → ((i : INumber) → digest_at u i ≡ digest_at t i) → handle_of u ≡ handle_of t

-- no text of the one has the digest of a different text of the other: neither the roots, nor two chunks of one number
pub record KeepApart (t u : ITable) : Type 0 where
  pub roots : hash (root.spell (root_of u)) ≡ hash (root.spell (root_of t))
      → root.spell (root_of u) ≡ root.spell (root_of t)
  pub chunks : (n : ℕ) (x y : Bytes) → text_of_chunk u n ≡ Some x → text_of_chunk t n ≡ Some y → hash x ≡ hash y → x ≡ y

-- no other whole table has this whole one's handle, unless texts collide
abbrev pub IsKnownByHandle : ITable → Type 0
IsKnownByHandle t =
    IsWhole t → (u : ITable) → IsTable u → IsWhole u → KeepApart t u → handle_of u ≡ handle_of t → u ≡ t
