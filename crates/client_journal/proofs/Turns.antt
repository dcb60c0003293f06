-- Records that are in turn, and certificates that are the one before them, signed once more.
use Rattle.std.proofs.Common.{◌≡◌, ℕ, ◌+◌, ◌-◌, ◌<◌, ◌≤◌, Bool, true, false, ◌&&◌, nat_lt, List, ◌++◌, length, take, drop, Option, Some, None, is_some, IfSome, refl, sym, ◌∙◌, ap, arith}
use Rattle.std.specs.Str.{bytes_eq}
use Rattle.std.proofs.lemmas.Bool.{and_parts, false_from_ne_true, lt-ltb, ltb-true}
use Rattle.std.proofs.lemmas.List.{take-take, length-take, length-drop, drop-drop, drop-take}
use Rattle.std.proofs.lemmas.Slice.Eq.{bytes_eq-Decides}
use Rattle.std.proofs.Math.Seq.{take-add}
use Rattle.leaf_ledger.specs.declared.extent.Extent.{Extent}
use Rattle.client_journal.specs.Records.{unsigned, same_unsigned}
use Rattle.client_journal.specs.Places.{part}

-- ---- options

pub some_there : {A : Type 0} (o : Option A) → is_some o ≡ true → (x : A) × (o ≡ Some x)
some_there None is = absurd (cc is)
some_there (Some x) is = (x, refl)

pub none_there : {A : Type 0} (o : Option A) → is_some o ≡ false → o ≡ None
none_there None is = refl
none_there (Some x) is = absurd (cc is)

-- what is there is what it is said to be
pub there : {A : Type 0} (o : Option A) (y : A) → is_some o ≡ true → IfSome o (λ x. x ≡ y) → o ≡ Some y
there None y is said = absurd (cc is)
there (Some x) y is said = ap (λ z. Some z) said

-- ---- bytes from two places on

module _ (file : List ℕ) (a b : ℕ) where
  abbrev first : ℕ → List ℕ
  first n = take n (drop a file)

  abbrev second : ℕ → List ℕ
  second n = take n (drop b file)

  -- some more bytes
  pub more_same : (done count : ℕ) → first done ≡ second done → bytes_eq (take count (drop (a + done) file)) (take count (drop (b + done) file)) ≡ true → first (done + count) ≡ second (done + count)
  more_same done count before piece_same =
      take-add done count (drop a file)
      ∙ ap (λ (l : List ℕ). l ++ take count (drop done (drop a file))) before
      ∙ ap (λ (l : List ℕ). second done ++ l) (ap (λ (l : List ℕ). take count l) (drop-drop done a file) ∙ piece ∙ ap (λ (l : List ℕ). take count l) (sym (drop-drop done b file)))
      ∙ sym (take-add done count (drop b file))
    where
      piece : take count (drop (a + done) file) ≡ take count (drop (b + done) file)
      piece = (bytes_eq-Decides (take count (drop (a + done) file)) (take count (drop (b + done) file))).0 piece_same

  -- where some among them differ
  pub not_same : (done count size : ℕ) → done + count ≤ size → bytes_eq (take count (drop (a + done) file)) (take count (drop (b + done) file)) ≡ false → bytes_eq (first size) (second size) ≡ false
  not_same done count size within differs = false_from_ne_true (bytes_eq (first size) (second size)) other
    where
      piece : (c : ℕ) → take count (drop done (take size (drop c file))) ≡ take count (drop (c + done) file)
      piece c =
          sym (drop-take done count (take size (drop c file)))
          ∙ ap (λ (l : List ℕ). drop done l) (take-take (done + count) size (drop c file) within)
          ∙ drop-take done count (drop c file)
          ∙ ap (λ (l : List ℕ). take count l) (drop-drop done c file)

      other : bytes_eq (first size) (second size) ≡ true → ⊥
      other whole =
          let all : first size ≡ second size = (bytes_eq-Decides (first size) (second size)).0 whole in
          let both : take count (drop (a + done) file) ≡ take count (drop (b + done) file) = sym (piece a) ∙ ap (λ (l : List ℕ). take count (drop done l)) all ∙ piece b in
          let same : bytes_eq (take count (drop (a + done) file)) (take count (drop (b + done) file)) ≡ true = (bytes_eq-Decides (take count (drop (a + done) file)) (take count (drop (b + done) file))).1 both in
          absurd (cc (same, differs))

  pub all_same : (size : ℕ) → first size ≡ second size → bytes_eq (first size) (second size) ≡ true
  all_same size = (bytes_eq-Decides (first size) (second size)).1

-- ---- texts of which the same was signed

pub signed_same : (a b : List ℕ) → same_unsigned a b ≡ true → (2508 < length a) × (2508 < length b) × (unsigned a ≡ unsigned b)
unfolding same_unsigned
signed_same a b test =
    let parts = and_parts (nat_lt 2508 (length a) && nat_lt 2508 (length b)) (bytes_eq (unsigned a) (unsigned b)) test in
    let sizes = and_parts (nat_lt 2508 (length a)) (nat_lt 2508 (length b)) parts.0 in
    (ltb-true 2508 (length a) sizes.0, ltb-true 2508 (length b) sizes.1, (bytes_eq-Decides (unsigned a) (unsigned b)).0 parts.1)

length-part : (file : List ℕ) (e : Extent) → e.at + e.size ≤ length file → length (part e file) ≡ e.size
length-part file e inside = omega (arith, length-take e.size (drop e.at file), length-drop e.at file, inside)

-- the signed part of a text that lies in a file
unsigned_part : (file : List ℕ) (e : Extent) → e.at + e.size ≤ length file → unsigned (part e file) ≡ take (e.size - 2508) (drop e.at file)
unsigned_part file e inside =
    ap (λ (n : ℕ). take (n - 2508) (part e file)) (length-part file e inside)
    ∙ take-take (e.size - 2508) e.size (drop e.at file) (omega arith)

module _ (file : List ℕ) (a b : Extent) (a_inside : a.at + a.size ≤ length file) (b_inside : b.at + b.size ≤ length file) where
  -- of one size, longer than a signature
  pub one_size : a.size ≡ b.size → 2508 < a.size → same_unsigned (part a file) (part b file) ≡ bytes_eq (take (a.size - 2508) (drop a.at file)) (take (a.size - 2508) (drop b.at file))
  unfolding same_unsigned
  one_size size long =
      ap (λ (x : Bool). x && nat_lt 2508 (length (part b file)) && bytes_eq (unsigned (part a file)) (unsigned (part b file))) (lt-ltb 2508 (length (part a file)) (omega (arith, length-part file a a_inside, long)))
      ∙ ap (λ (x : Bool). x && bytes_eq (unsigned (part a file)) (unsigned (part b file))) (lt-ltb 2508 (length (part b file)) (omega (arith, length-part file b b_inside, long, size)))
      ∙ ap (λ (l : List ℕ). bytes_eq l (unsigned (part b file))) (unsigned_part file a a_inside)
      ∙ ap (λ (l : List ℕ). bytes_eq (take (a.size - 2508) (drop a.at file)) l) (unsigned_part file b b_inside ∙ ap (λ (n : ℕ). take (n - 2508) (drop b.at file)) (sym size))

  -- of two sizes, or no longer than a signature
  pub other_texts : (a.size ≡ b.size → a.size ≤ 2508) → same_unsigned (part a file) (part b file) ≡ false
  other_texts other = false_from_ne_true (same_unsigned (part a file) (part b file)) differ
    where
      differ : same_unsigned (part a file) (part b file) ≡ true → ⊥
      differ test =
          let told = signed_same (part a file) (part b file) test in
          let long : 2508 < a.size = omega (arith, told.0, length-part file a a_inside) in
          let long' : 2508 < b.size = omega (arith, told.1, length-part file b b_inside) in
          let same = ap length (sym (unsigned_part file a a_inside) ∙ told.2 ∙ unsigned_part file b b_inside) in
          let size : a.size ≡ b.size = omega (arith, same, length-take (a.size - 2508) (drop a.at file), length-take (b.size - 2508) (drop b.at file), length-drop a.at file, length-drop b.at file, a_inside, b_inside, long, long') in
          absurd (omega (arith, other size, long))
