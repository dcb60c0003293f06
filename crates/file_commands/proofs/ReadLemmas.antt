-- Values that clap finds.
use Rattle.std.proofs.Common.{◌≡◌, ◌&&◌, ℕ, Bool, true, false, not, List, [], ◌∷◌, Option, Some, None, Result, Ok, Err, refl, sym, ap, length, lt-ltb, ltb-true, nat_lt}
use Rattle.std.specs.Prelude.{option_map}
use Rattle.std.specs.Option.{ok_or, option_map_or}
use Rattle.std.specs.Borrow.{Bor}
use Rattle.std.specs.List.{list_all}
use Rattle.std.specs.Char.{digit_value}
use Rattle.std.specs.Str.Parse.{AllDigits, ParsesUnsigned, digits_value, without_leading_plus}
use Rattle.clap.specs.Words.{ReadsOne, Text}
use Rattle.clap.proofs.WalkLemmas.{both}
use Rattle.file_commands.specs.Lines.{is_byte, number_of, reads}
use Rattle.file_commands.specs.declared.reading.Unread.TheVariants.{Words}

pub text_said : (o : Option (Bor Text)) (x : Option Text) → option_map (λ s. s.now) o ≡ x → reads (λ (s : Bor Text). s.now) (ok_or o Words) ≡ ok_or x Words
text_said None x e = rw (← e) refl
text_said (Some s) x e = rw (← e) refl

digits_pass : (ds : List ℕ) → AllDigits 10 ds → list_all (λ d. nat_lt (digit_value d) 10) ds ≡ true
digits_pass [] h = refl
digits_pass (d ∷ ds) h = rw (lt-ltb (digit_value d) 10 h.0) (digits_pass ds h.1)

digits_from : (ds : List ℕ) → list_all (λ d. nat_lt (digit_value d) 10) ds ≡ true → AllDigits 10 ds
digits_from [] e = tt
digits_from (d ∷ ds) e =
    let parts = both _ _ e in
    (ltb-true _ _ parts.0, digits_from ds parts.1)

number_read : (E : Type 0) (text : Text) (n : ℕ) → ParsesUnsigned {E = E} 8 10 text (Ok n) → number_of text ≡ Some n
number_read E text n h =
    let ds = without_leading_plus text in
    rw (lt-ltb 0 (length ds) h.0.0.0, digits_pass ds h.0.0.1, lt-ltb (digits_value 10 ds) 256 h.0.1) (ap (λ k. Some k) (sym h.1))

no_number : (E : Type 0) (text : Text) (e : E) → ParsesUnsigned {E = E} 8 10 text (Err e) → number_of text ≡ None
no_number E text e h = go (is_byte (without_leading_plus text)) refl
  where
    go : (b : Bool) → is_byte (without_leading_plus text) ≡ b → number_of text ≡ None
    go false t = rw t refl
    go true t =
        let outer = both _ _ t in
        let inner = both _ _ outer.0 in
        absurd (h ((ltb-true _ _ inner.0, digits_from (without_leading_plus text) inner.1), ltb-true _ _ outer.1))

-- what `get_one` reads is the number of the text
pub number_said : {E : Type 0} (gives : Text → Result ℕ E → Type 0) (o : Option Text) (r : Option ℕ)
    → ((t : Text) (x : Result ℕ E) → gives t x → ParsesUnsigned 8 10 t x)
    → (o ≡ None → r ≡ None) → ((t : Text) → o ≡ Some t → ReadsOne gives t r) → r ≡ option_map_or number_of o None
number_said {E} gives None r weak none value = none refl
number_said {E} gives (Some t) (Some n) weak none value = sym (number_read E t n (weak t (Ok n) (value t refl)))
number_said {E} gives (Some t) None weak none value =
    let failed = value t refl in
    sym (no_number E t failed.0 (weak t (Err failed.0) failed.1))

pub is_local : (a b g r : Bool) → (a && (not b && (not g && r))) ≡ true → g ≡ false
is_local a b false r e = refl
is_local true true true r e = cc
is_local true false true r e = cc
is_local false b true r e = cc
