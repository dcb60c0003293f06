-- Nobody has to believe this file: laws, which are proved.
-- What a write makes of a text, and what a torn one leaves of it: laws for the proofs of those who call a device.
use Rattle.std.proofs.Common.{◌≡◌, inl, inr, ℕ, suc, ◌+◌, ◌<◌, ◌≤◌, List, [], ◌∷◌, ◌++◌, length, get_or, set, take, drop, sym, ◌∙◌, ap, arith}
use Rattle.std.proofs.lemmas.Bool.{cases_eq, cases_lt}
use Rattle.std.proofs.lemmas.List.{append_assoc, ext_get_or, set_split, take_at, drop_at, drop-drop, length-append, length-take, length-take-le, length-set, get_or-take, get_or-set_same, get_or-set_other}
use Rattle.layout.specs.Types.{Bytes}
use Rattle.leaf_ledger.specs.Device.{Torn, IsOutside, extent, written}
use Rattle.leaf_ledger.specs.declared.extent.Extent.{Extent}

-- one byte
pub written_one : (text : Bytes) (at x : ℕ) → at < length text → written at (x ∷ []) text ≡ set text at x
written_one text at x below =
    append_assoc (take at text) (x ∷ []) (drop (at + 1) text)
    ∙ (let next : at + 1 ≡ suc at = omega arith in ap (λ (k : ℕ). take at text ++ x ∷ drop k text) next)
    ∙ sym (set_split text at x below)

-- in a torn byte that was there, that byte alone may be another
pub torn_one : (file left : Bytes) (at : ℕ) → at < length file → Torn file (extent at 1 ∷ []) left → left ≡ set file at (get_or left at 0)
torn_one file left at below torn =
    let size : length left ≡ length (set file at (get_or left at 0)) = omega (arith, length-set file at (get_or left at 0), torn.no_shorter, torn.no_longer) in
    ext_get_or 0 left (set file at (get_or left at 0)) size (λ i inside. elim (cases_eq i at) [
      | inl same ↦ ap (λ (k : ℕ). get_or left k 0) same ∙ sym (get_or-set_same file at (get_or left at 0) 0 below) ∙ ap (λ (k : ℕ). get_or (set file at (get_or left at 0)) k 0) (sym same)
      | inr apart ↦ torn.outside i (omega (arith, inside, torn.no_longer, below)) (elim (cases_lt i at) [ inl less ↦ inl less | inr more ↦ inr (omega (arith, more, apart)) ], tt) ∙ sym (get_or-set_other file at i (get_or left at 0) 0 apart)
    ])

-- the extents begin at a place or after it
abbrev pub AreAfter : ℕ → List Extent → Type 0
AreAfter place [] = Unit {0}
AreAfter place (e ∷ extents) = (place ≤ e.at) × AreAfter place extents

pub after-push : (place : ℕ) (extents : List Extent) (e : Extent) → AreAfter place extents → place ≤ e.at → AreAfter place (extents ++ e ∷ [])
after-push place [] e all one = (one, tt)
after-push place (x ∷ extents) e all one = (all.0, after-push place extents e all.1 one)

before_all : (place : ℕ) (extents : List Extent) (i : ℕ) → AreAfter place extents → i < place → IsOutside extents i
before_all place [] i all less = tt
before_all place (e ∷ extents) i all less = (inl (omega (arith, all.0, less)), before_all place extents i all.1 less)

-- before torn extents all stays
pub torn_front : (file left : Bytes) (place : ℕ) (extents : List Extent) → AreAfter place extents → place ≤ length file → Torn file extents left → take place left ≡ take place file
torn_front file left place extents all fits torn =
    let size : length (take place left) ≡ length (take place file) = omega (arith, length-take place left, length-take place file, fits, torn.no_shorter) in
    ext_get_or 0 (take place left) (take place file) size (λ i below.
    let less : i < place = omega (arith, below, length-take place left) in
    get_or-take place left i 0 less ∙ torn.outside i (omega (arith, less, fits)) (before_all place extents i all less) ∙ sym (get_or-take place file i 0 less))

module _ (text a : Bytes) (at : ℕ) (fits : at ≤ length text) where
  both : length (take at text ++ a) ≡ at + length a
  both = omega (arith, length-take-le at text fits, length-append (take at text) a)

  pub written_front : take at (written at a text) ≡ take at text
  written_front =
      ap (λ (l : Bytes). take at l) (append_assoc (take at text) a (drop (at + length a) text))
      ∙ take_at (take at text) (a ++ drop (at + length a) text) at (length-take-le at text fits)

  pub length-written : at + length a ≤ length (written at a text)
  length-written = omega (arith, both, length-append (take at text ++ a) (drop (at + length a) text))

  -- one write on from another is one write
  pub written_on : (b : Bytes) → written (at + length a) b (written at a text) ≡ written at (a ++ b) text
  written_on b =
      ap (λ (l : Bytes). l ++ b ++ drop (at + length a + length b) (written at a text)) (take_at (take at text ++ a) (drop (at + length a) text) (at + length a) both)
      ∙ ap (λ (l : Bytes). take at text ++ a ++ b ++ l) end
      ∙ ap (λ (l : Bytes). l ++ drop (at + length (a ++ b)) text) (append_assoc (take at text) a b)
    where
      end : drop (at + length a + length b) (written at a text) ≡ drop (at + length (a ++ b)) text
      end =
          sym (drop-drop (length b) (at + length a) (written at a text))
          ∙ ap (λ (l : Bytes). drop (length b) l) (drop_at (take at text ++ a) (drop (at + length a) text) (at + length a) both)
          ∙ drop-drop (length b) (at + length a) text
          ∙ (let same : at + length a + length b ≡ at + length (a ++ b) = omega (arith, length-append a b) in ap (λ (k : ℕ). drop k text) same)
