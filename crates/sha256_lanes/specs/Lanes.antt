-- Eight messages side by side: of each word that SHA-256 knows, there is one a lane.
use Rattle.std.specs.Prelude.{ℕ, ◌/◌, ◌%◌, ◌<◌, ◌^◌, List, [], ◌∷◌, ◌++◌, map, slice_index, take, drop}
use Rattle.std.specs.List.{range_with_len}
use Rattle.std.specs.Int.{to_be_bytes, w32}
use Rattle.sha2.specs.Sha256.{digest_bytes}

-- the words of one lane
abbrev pub lane : ℕ → List (List ℕ) → List ℕ
lane i words = map (λ word. slice_index word i) words

-- so many bytes from a place on
abbrev pub part : ℕ → ℕ → List ℕ → List ℕ
part at size bytes = take size (drop at bytes)

-- the value of 32 bytes that the words of each lane are
abbrev pub values_of : List (List ℕ) → List (List ℕ)
values_of words = map (λ i. digest_bytes (lane i words) 8) (range_with_len 0 8)

-- numbers of 32 bits
abbrev pub AreWords : List ℕ → Type 0
AreWords words = (k : ℕ) → slice_index words k < 2 ^ 32

-- a text: a prefix, a number of four bytes, one of three, and a value; each number with its high byte first
abbrev pub short_text : List ℕ → ℕ → ℕ → List ℕ → List ℕ
short_text prefix number mark value =
    prefix ++ to_be_bytes w32 number ++ (mark / 65536 ∷ mark / 256 % 256 ∷ mark % 256 ∷ []) ++ value
