-- Texts of paths: their numbers, and their parts between slashes.
use Rattle.std.proofs.Common.{◌≡◌, ◌≢◌, ◌==◌, ◌&&◌, ◌+◌, ◌<◌, ◌≤◌, ◌^◌, ℕ, Bool, true, false, true≢false, List, [], ◌∷◌, length, Option, Some, None, Result, Ok, Err, refl, sym, ap, ◌∙◌, arith, nat_lt, nat_le, ltb-true, leb-true, ltb-false, eqb-true}
use Rattle.std.specs.Borrow.{Bor}
use Rattle.std.specs.Prelude.{MatchResult, MatchBool, is_some}
use Rattle.std.specs.List.{list_all, position_or_len, onto_first, AllWithin, HoldsAt}
use Rattle.std.specs.Char.{digit_value, is_ascii_digit}
use Rattle.std.specs.Str.Parse.{AllDigits, ParsesUnsigned, digits_value, without_leading_plus}
use Rattle.std.proofs.lemmas.Str.{digit_value_digit}
use Rattle.std.proofs.lemmas.Str.Parse.{without_leading_plus_none}
use Rattle.std.proofs.lemmas.List.Splits.{length-slice_split}
use Rattle.std.proofs.lemmas.List.Sums.{AllPass-from_list_all, list_all-from_AllPass}
use Rattle.layout.specs.Types.{Bytes}
use Rattle.commands.specs.Paths.{is_number, within, number_in, place_of, parts, parts_of, has_some}

both : (a b : Bool) → (a && b) ≡ true → (a ≡ true) × (b ≡ true)
both true b e = (refl, e)
both false b e = absurd (true≢false (sym e))

-- ---- numbers

digit_below : (d : ℕ) → is_ascii_digit d ≡ true → digit_value d < 10
digit_below d h =
    let two = both _ _ h in
    let low : 48 ≤ d = leb-true _ _ two.0 in
    let high : d ≤ 57 = leb-true _ _ two.1 in
    omega (arith, digit_value_digit d (low, high), high)

digits_are : (ds : Bytes) → list_all is_ascii_digit ds ≡ true → AllDigits 10 ds
digits_are [] h = tt
digits_are (d ∷ ds) h = let two = both _ _ h in (digit_below d two.0, digits_are ds two.1)

no_plus : (ds : Bytes) → list_all is_ascii_digit ds ≡ true → without_leading_plus ds ≡ ds
no_plus [] h = refl
no_plus (d ∷ ds) h =
    without_leading_plus_none (d ∷ ds) (λ plus. let two = both _ _ h in absurd (true≢false (sym two.0 ∙ ap is_ascii_digit plus)))

too_large : (low high n : ℕ) → high < n → within low high n ≡ None
too_large low high n few = go (nat_le n high) (nat_le low n) refl refl
  where
    go : (b a : Bool) → nat_le n high ≡ b → nat_le low n ≡ a → within low high n ≡ None
    go true a e f = absurd (omega (arith, few, leb-true n high e))
    go false true e f = rw (e, f) refl
    go false false e f = rw f refl

pub parsed_in : {E : Type 0} (low high : ℕ) (text : Bytes) (r : Result ℕ E) → high < 2 ^ 16 → is_number text ≡ true
    → ParsesUnsigned 16 10 text r
    → MatchResult r (λ n. number_in low high text ≡ within low high n) (λ _. number_in low high text ≡ None)
parsed_in low high text (Ok n) few is h =
    let two = both _ _ is in
    let value : n ≡ digits_value 10 text = h.1 ∙ ap (digits_value 10) (no_plus text two.1) in
    rw (is, value) refl
parsed_in low high text (Err e) few is h =
    let two = both _ _ is in
    let same = no_plus text two.1 in
    rw is (too_large low high (digits_value 10 text) (go two.0 (digits_are text two.1) same (nat_lt (digits_value 10 text) (2 ^ 16)) refl))
  where
    go : nat_lt 0 (length text) ≡ true → AllDigits 10 text → without_leading_plus text ≡ text → (b : Bool)
        → nat_lt (digits_value 10 text) (2 ^ 16) ≡ b → high < digits_value 10 text
    go some digits same true t =
        absurd (h (rw same (((ltb-true _ _ some, digits), ltb-true (digits_value 10 text) (2 ^ 16) t))))
    go some digits same false t = omega (arith, few, ltb-false (digits_value 10 text) (2 ^ 16) t)

-- ---- parts

some_part : (text : Bytes) → has_some (parts text) ≡ true
some_part text = go (parts text) _ (length-slice_split (λ b. b == 47) text)
  where
    go : (xs : List Bytes) (n : ℕ) → length xs ≡ n + 1 → has_some xs ≡ true
    go [] n e = absurd (omega (arith, e))
    go (x ∷ xs) n e = refl

pub has_some_is : (left : Option (Bor Bytes)) → has_some (parts_of left) ≡ is_some left
has_some_is None = refl
has_some_is (Some text) = some_part text.now

pub one_part : (text : Bytes) → position_or_len (λ b. b == 47) text ≡ length text → parts text ≡ text ∷ []
one_part [] e = refl
one_part (x ∷ xs) e = go (λ rest. one_part xs rest) (x == 47) refl
  where
    go : (position_or_len (λ b. b == 47) xs ≡ length xs → parts xs ≡ xs ∷ []) → (b : Bool) → (x == 47) ≡ b
        → parts (x ∷ xs) ≡ (x ∷ xs) ∷ []
    go others true t = absurd (omega (arith, rw t at e))
    go others false t =
        let rest : position_or_len (λ b. b == 47) xs ≡ length xs = omega (arith, rw t at e) in
        rw t (ap (onto_first x) (others rest))

-- what `all` answers of a list
pub all_is : {X : Type 0} (p : X → Bool) (xs : List X) (r : Bool)
    → MatchBool r (AllWithin (λ x. p x ≡ true) xs 0 (length xs)) ((k : ℕ) × (k < length xs) × HoldsAt (λ x. p x ≡ false) xs k)
    → r ≡ list_all p xs
all_is p xs true h = sym (list_all-from_AllPass p xs (λ k d few. h k d (omega arith) few))
all_is p [] false (k, few, fails) = absurd (omega (arith, few))
all_is p (x ∷ xs) false (k, few, fails) = sym (go (list_all p (x ∷ xs)) refl)
  where
    go : (b : Bool) → list_all p (x ∷ xs) ≡ b → list_all p (x ∷ xs) ≡ false
    go true t = absurd (true≢false (sym (AllPass-from_list_all p (x ∷ xs) t k x few) ∙ fails x))
    go false t = t

-- ---- places

pub no_place : (word : Bytes) → ((rest : Bytes) → word ≢ 64 ∷ rest) → place_of word ≡ None
no_place [] h = refl
no_place (mark ∷ text) h = go (mark == 64) refl
  where
    go : (b : Bool) → (mark == 64) ≡ b → place_of (mark ∷ text) ≡ None
    go true t = absurd (h text (ap (λ m. m ∷ text) (eqb-true mark 64 t)))
    go false t = rw t refl
