-- What a block begins with, and a block at the front of bytes.
use Rattle.std.proofs.Common.{◌≡◌, inl, inr, ℕ, ◌+◌, ◌<◌, ◌≤◌, ◌^◌, List, [], ◌∷◌, ◌++◌, length, take, drop, get_or, refl, sym, ◌∙◌, ap, arith, take-append-drop}
use Rattle.std.specs.Int.{w32, to_be_bytes, from_be_bytes}
use Rattle.std.proofs.lemmas.Nat.{be_bytes_4, from_be_bytes-to_be_bytes_4}
use Rattle.std.proofs.lemmas.Bool.{cases_lt}
use Rattle.std.proofs.lemmas.List.{append_assoc, take_at, drop_at, drop-drop, length-append, length-take, length-drop, get_or-take, get_or_past}
use Rattle.block_file.specs.Blocks.{Block, head, spelled, size_told, end_mark, IsBlock}

-- the first four bytes of a list
pub four_cells : (bytes : List ℕ) → 4 ≤ length bytes → get_or bytes 0 0 ∷ get_or bytes 1 0 ∷ get_or bytes 2 0 ∷ get_or bytes 3 0 ∷ [] ≡ take 4 bytes
four_cells [] size = absurd (omega (arith, size))
four_cells (a ∷ []) size = absurd (omega (arith, size))
four_cells (a ∷ b ∷ []) size = absurd (omega (arith, size))
four_cells (a ∷ b ∷ c ∷ []) size = absurd (omega (arith, size))
four_cells (a ∷ b ∷ c ∷ d ∷ rest) size = refl

-- the length has four bytes
four : (n : ℕ) → length (to_be_bytes w32 n) ≡ 4
four n = refl

pub length-head : (n : ℕ) (digest : List ℕ) → length digest ≡ 32 → length (head n digest) ≡ 36
unfolding head
length-head n digest size = omega (arith, length-append (to_be_bytes w32 n) digest, four n, size)

pub length-spelled : (b : Block) → IsBlock b → length (spelled b) ≡ 36 + length b.text
length-spelled b is = omega (arith, length-append (head (length b.text) b.digest) b.text, length-head (length b.text) b.digest is.0)

-- a head says which length and which digest it is of
pub head_same : (m n : ℕ) (d e : List ℕ) → m < 2 ^ 32 → n < 2 ^ 32 → head m d ≡ head n e → (m ≡ n) × (d ≡ e)
unfolding head
head_same m n d e small small' is = (
  sym (from_be_bytes-to_be_bytes_4 m small)
      ∙ ap (λ (bytes : List ℕ). from_be_bytes w32 bytes) (sym (take_at (to_be_bytes w32 m) d 4 (four m)) ∙ ap (λ (l : List ℕ). take 4 l) is ∙ take_at (to_be_bytes w32 n) e 4 (four n))
      ∙ from_be_bytes-to_be_bytes_4 n small',
  sym (drop_at (to_be_bytes w32 m) d 4 (four m)) ∙ ap (λ (l : List ℕ). drop 4 l) is ∙ drop_at (to_be_bytes w32 n) e 4 (four n),
)

whole : (b : Block) (rest : List ℕ) → spelled b ++ rest ≡ head (length b.text) b.digest ++ (b.text ++ rest)
whole b rest = append_assoc (head (length b.text) b.digest) b.text rest

-- what begins with two blocks begins with one
pub one_block : (b c : Block) (x y : List ℕ) → IsBlock b → IsBlock c → spelled b ++ x ≡ spelled c ++ y → (b ≡ c) × (x ≡ y)
one_block b c x y small small' is = (ap (λ (d : List ℕ). of d b.text) heads.1 ∙ ap (λ (t : List ℕ). of c.digest t) texts, rests)
  where
    of : List ℕ → List ℕ → Block
    of digest text = record { digest = digest; text = text }

    both : head (length b.text) b.digest ++ (b.text ++ x) ≡ head (length c.text) c.digest ++ (c.text ++ y)
    both = sym (whole b x) ∙ is ∙ whole c y

    heads : (length b.text ≡ length c.text) × (b.digest ≡ c.digest)
    heads =
        head_same (length b.text) (length c.text) b.digest c.digest (omega (arith, small.1)) (omega (arith, small'.1))
        (sym (take_at (head (length b.text) b.digest) (b.text ++ x) 36 (length-head (length b.text) b.digest small.0))
        ∙ ap (λ (l : List ℕ). take 36 l) both
        ∙ take_at (head (length c.text) c.digest) (c.text ++ y) 36 (length-head (length c.text) c.digest small'.0))

    following : b.text ++ x ≡ c.text ++ y
    following =
        sym (drop_at (head (length b.text) b.digest) (b.text ++ x) 36 (length-head (length b.text) b.digest small.0))
        ∙ ap (λ (l : List ℕ). drop 36 l) both
        ∙ drop_at (head (length c.text) c.digest) (c.text ++ y) 36 (length-head (length c.text) c.digest small'.0)

    texts : b.text ≡ c.text
    texts =
        sym (take_at b.text x (length c.text) heads.0)
        ∙ ap (λ (l : List ℕ). take (length c.text) l) following
        ∙ take_at c.text y (length c.text) refl

    rests : x ≡ y
    rests =
        sym (drop_at b.text x (length c.text) heads.0)
        ∙ ap (λ (l : List ℕ). drop (length c.text) l) following
        ∙ drop_at c.text y (length c.text) refl

-- a head tells the length of its text
pub head_tells : (n : ℕ) (digest rest : List ℕ) → n < 2 ^ 32 → size_told (head n digest ++ rest) ≡ n
unfolding head size_told
head_tells n digest rest small =
    ap (λ (l : List ℕ). from_be_bytes w32 l) (ap (λ (l : List ℕ). take 4 l) (append_assoc (to_be_bytes w32 n) digest rest) ∙ take_at (to_be_bytes w32 n) (digest ++ rest) 4 (four n))
    ∙ from_be_bytes-to_be_bytes_4 n small

pub block_tells : (b : Block) (rest : List ℕ) → IsBlock b → size_told (spelled b ++ rest) ≡ length b.text
block_tells b rest is = ap size_told (whole b rest) ∙ head_tells (length b.text) b.digest (b.text ++ rest) (omega (arith, is.1))

-- bytes that begin with a head tell its length
pub told : (bytes : List ℕ) (n : ℕ) (digest : List ℕ) → n < 2 ^ 32 → take 36 bytes ≡ head n digest → size_told bytes ≡ n
told bytes n digest small is =
    ap size_told (sym (take-append-drop 36 bytes) ∙ ap (λ (l : List ℕ). l ++ drop 36 bytes) is)
    ∙ head_tells n digest (drop 36 bytes) small

-- 36 bytes are a head
pub head_so : (bytes : List ℕ) (n : ℕ) → length bytes ≡ 36 → ((i : ℕ) → get_or bytes i 0 < 256) → n ≡ from_be_bytes w32 (take 4 bytes) → bytes ≡ head n (drop 4 bytes)
unfolding head
head_so bytes n size fits number =
    let first : to_be_bytes w32 n ≡ take 4 bytes =
    be_bytes_4 (take 4 bytes) n (omega (arith, length-take 4 bytes, size)) each number in
    sym (take-append-drop 4 bytes) ∙ ap (λ (l : List ℕ). l ++ drop 4 bytes) (sym first)
  where
    each : (i : ℕ) → get_or (take 4 bytes) i 0 < 256
    each i = elim (cases_lt i 4) [
      | inl less ↦ omega (arith, get_or-take 4 bytes i 0 less, fits i)
      | inr past ↦ omega (arith, get_or_past (take 4 bytes) i 0 (omega (arith, length-take 4 bytes, past)))
    ]

-- bytes from a place on that begin with a head, and have as many after it
pub spells : (text : List ℕ) (from n : ℕ) (digest : List ℕ) → length digest ≡ 32 → from + 36 + n ≤ length text → take 36 (drop from text) ≡ head n digest
    → drop from text ≡ spelled (record { digest = digest; text = take n (drop (from + 36) text) }) ++ drop (from + 36 + n) text
spells text from n digest wide fits begins =
    let size : length (take n (drop (from + 36) text)) ≡ n = omega (arith, length-take n (drop (from + 36) text), length-drop (from + 36) text, fits) in
    sym (take-append-drop 36 (drop from text))
    ∙ ap (λ (l : List ℕ). l ++ drop 36 (drop from text)) begins
    ∙ ap (λ (l : List ℕ). head n digest ++ l) (drop-drop 36 from text ∙ sym (take-append-drop n (drop (from + 36) text)) ∙ ap (λ (l : List ℕ). take n (drop (from + 36) text) ++ l) (drop-drop n (from + 36) text))
    ∙ sym (append_assoc (head n digest) (take n (drop (from + 36) text)) (drop (from + 36 + n) text))
    ∙ ap (λ (m : ℕ). head m digest ++ take n (drop (from + 36) text) ++ drop (from + 36 + n) text) (sym size)

-- what is laid out in four pieces, after nothing
module _ (none size digest text mark a b c d : List ℕ) (n : ℕ) (wanted : List ℕ) where
  pub laid : none ≡ [] → size ≡ to_be_bytes w32 n → digest ≡ wanted → mark ≡ end_mark → a ≡ none ++ size → b ≡ a ++ digest → c ≡ b ++ text → d ≡ c ++ mark → d ≡ head n wanted ++ text ++ end_mark
  unfolding head
  laid none_is size_is digest_is mark_is first second third fourth =
      fourth ∙ ap (λ (l : List ℕ). c ++ l) mark_is ∙ ap (λ (l : List ℕ). l ++ end_mark) (third ∙ ap (λ (l : List ℕ). l ++ text) both)
    where
      one : a ≡ to_be_bytes w32 n
      one = first ∙ ap (λ (l : List ℕ). l ++ size) none_is ∙ size_is

      both : b ≡ to_be_bytes w32 n ++ wanted
      both = second ∙ ap (λ (l : List ℕ). l ++ digest) one ∙ ap (λ (l : List ℕ). to_be_bytes w32 n ++ l) digest_is
