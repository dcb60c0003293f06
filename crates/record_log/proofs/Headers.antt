-- What a record begins with, and a record at the front of bytes.
use Rattle.std.proofs.Common.{◌≡◌, ℕ, ◌+◌, ◌<◌, ◌^◌, List, [], ◌∷◌, ◌++◌, length, take, drop, get_or, refl, sym, ◌∙◌, ap, arith, take-append-drop}
use Rattle.std.specs.Int.{w32, to_be_bytes, from_be_bytes}
use Rattle.std.proofs.lemmas.Nat.{be_bytes_4, from_be_bytes-to_be_bytes_4}
use Rattle.std.proofs.lemmas.List.{append_assoc, take_at, drop_at, drop-drop, drop-take, length-append, length-take, length-drop, get_or-drop}
use Rattle.record_log.specs.Records.{Record, header, spelled, length_told, IsShort}

-- lists of four and of five bytes
pub four : (bs : List ℕ) → length bs ≡ 4 → get_or bs 0 0 ∷ get_or bs 1 0 ∷ get_or bs 2 0 ∷ get_or bs 3 0 ∷ [] ≡ bs
four (a ∷ b ∷ c ∷ d ∷ []) size = refl
four [] size = absurd (omega arith)
four (a ∷ []) size = absurd (omega arith)
four (a ∷ b ∷ []) size = absurd (omega arith)
four (a ∷ b ∷ c ∷ []) size = absurd (omega arith)
four (a ∷ b ∷ c ∷ d ∷ e ∷ rest) size = absurd (omega arith)

pub five : (bs : List ℕ) → length bs ≡ 5 → get_or bs 0 0 ∷ get_or bs 1 0 ∷ get_or bs 2 0 ∷ get_or bs 3 0 ∷ get_or bs 4 0 ∷ [] ≡ bs
five [] size = absurd (omega arith)
five (x ∷ bs) size = ap (λ (l : List ℕ). x ∷ l) (four bs (omega arith))

pub cells : (bytes : List ℕ) → length bytes ≡ 5 → get_or bytes 1 0 ∷ get_or bytes 2 0 ∷ get_or bytes 3 0 ∷ get_or bytes 4 0 ∷ [] ≡ drop 1 bytes
cells bytes size = ap (λ (l : List ℕ). drop 1 l) (five bytes size)

pub header_so : (bytes : List ℕ) (n : ℕ) → length bytes ≡ 5 → ((i : ℕ) → get_or bytes i 0 < 256) → n ≡ from_be_bytes w32 (drop 1 bytes) → bytes ≡ header (get_or bytes 0 0) n
unfolding header
header_so bytes n size fits number =
    let rest : to_be_bytes w32 n ≡ drop 1 bytes =
    be_bytes_4 (drop 1 bytes) n (omega (arith, length-drop 1 bytes, size)) (λ i. omega (arith, get_or-drop 1 bytes i 0, fits (1 + i))) number in
    sym (five bytes size) ∙ ap (λ (l : List ℕ). get_or bytes 0 0 ∷ l) (cells bytes size ∙ sym rest)

pub length-header : (kind n : ℕ) → length (header kind n) ≡ 5
unfolding header
length-header kind n = refl

-- a header says which kind and which length it is of
pub header_same : (k l m n : ℕ) → m < 2 ^ 32 → n < 2 ^ 32 → header k m ≡ header l n → (k ≡ l) × (m ≡ n)
unfolding header
header_same k l m n small small' is = (
  ap (λ (bytes : List ℕ). get_or bytes 0 0) is,
  sym (from_be_bytes-to_be_bytes_4 m small) ∙ ap (λ (bytes : List ℕ). from_be_bytes w32 (drop 1 bytes)) is ∙ from_be_bytes-to_be_bytes_4 n small',
)

pub length-spelled : (r : Record) → length (spelled r) ≡ 5 + length r.text
length-spelled r = omega (arith, length-append (header r.kind (length r.text)) r.text, length-header r.kind (length r.text))

whole : (r : Record) (rest : List ℕ) → spelled r ++ rest ≡ header r.kind (length r.text) ++ (r.text ++ rest)
whole r rest = append_assoc (header r.kind (length r.text)) r.text rest

-- what begins with two records begins with one
pub one_record : (r s : Record) (a b : List ℕ) → IsShort r → IsShort s → spelled r ++ a ≡ spelled s ++ b → (r ≡ s) × (a ≡ b)
one_record r s a b short short' is = (ap (λ (k : ℕ). named k r.text) kinds.0 ∙ ap (λ (t : List ℕ). named s.kind t) texts, rests)
  where
    named : ℕ → List ℕ → Record
    named kind text = record { kind = kind; text = text }

    both : header r.kind (length r.text) ++ (r.text ++ a) ≡ header s.kind (length s.text) ++ (s.text ++ b)
    both = sym (whole r a) ∙ is ∙ whole s b

    kinds : (r.kind ≡ s.kind) × (length r.text ≡ length s.text)
    kinds =
        header_same r.kind s.kind (length r.text) (length s.text) short short'
        (sym (take_at (header r.kind (length r.text)) (r.text ++ a) 5 (length-header r.kind (length r.text)))
        ∙ ap (λ (l : List ℕ). take 5 l) both
        ∙ take_at (header s.kind (length s.text)) (s.text ++ b) 5 (length-header s.kind (length s.text)))

    following : r.text ++ a ≡ s.text ++ b
    following =
        sym (drop_at (header r.kind (length r.text)) (r.text ++ a) 5 (length-header r.kind (length r.text)))
        ∙ ap (λ (l : List ℕ). drop 5 l) both
        ∙ drop_at (header s.kind (length s.text)) (s.text ++ b) 5 (length-header s.kind (length s.text))

    texts : r.text ≡ s.text
    texts =
        sym (take_at r.text a (length s.text) kinds.1)
        ∙ ap (λ (l : List ℕ). take (length s.text) l) following
        ∙ take_at s.text b (length s.text) refl

    rests : a ≡ b
    rests =
        sym (drop_at r.text a (length s.text) kinds.1)
        ∙ ap (λ (l : List ℕ). drop (length s.text) l) following
        ∙ drop_at s.text b (length s.text) refl

-- a header tells the length of its text
pub tells_length : (k n : ℕ) (bytes : List ℕ) → n < 2 ^ 32 → take 5 bytes ≡ header k n → length_told bytes ≡ n
unfolding header length_told
tells_length k n bytes small is =
    ap (λ (l : List ℕ). from_be_bytes w32 l) (sym (drop-take 1 4 bytes) ∙ ap (λ (l : List ℕ). drop 1 l) is)
    ∙ from_be_bytes-to_be_bytes_4 n small

pub record_tells_length : (r : Record) (rest : List ℕ) → IsShort r → length_told (spelled r ++ rest) ≡ length r.text
record_tells_length r rest short =
    tells_length r.kind (length r.text) (spelled r ++ rest) short
    (ap (λ (l : List ℕ). take 5 l) (whole r rest) ∙ take_at (header r.kind (length r.text)) (r.text ++ rest) 5 (length-header r.kind (length r.text)))

-- bytes that begin with a header, and have as many after it
pub spells : (text : List ℕ) (at n kind : ℕ) → at + 5 + n < length text → take 5 (drop at text) ≡ header kind n
    → drop at text ≡ spelled (record { kind = kind; text = take n (drop (at + 5) text) }) ++ drop (at + 5 + n) text
spells text at n kind fits begins =
    let size : length (take n (drop (at + 5) text)) ≡ n = omega (arith, length-take n (drop (at + 5) text), length-drop (at + 5) text, fits) in
    sym (take-append-drop 5 (drop at text))
    ∙ ap (λ (l : List ℕ). l ++ drop 5 (drop at text)) begins
    ∙ ap (λ (l : List ℕ). header kind n ++ l) (drop-drop 5 at text ∙ sym (take-append-drop n (drop (at + 5) text)) ∙ ap (λ (l : List ℕ). take n (drop (at + 5) text) ++ l) (drop-drop n (at + 5) text))
    ∙ sym (append_assoc (header kind n) (take n (drop (at + 5) text)) (drop (at + 5 + n) text))
    ∙ ap (λ (m : ℕ). header kind m ++ take n (drop (at + 5) text) ++ drop (at + 5 + n) text) (sym size)
