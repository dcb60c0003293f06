-- Formats whose spellings are bytes, each below 256: one law for each way to join formats.
use Rattle.std.proofs.Common.{◌≡◌, ℕ, zero, suc, ◌-◌, ◌<◌, Bool, true, ◌&&◌, List, [], ◌∷◌, ◌++◌, length, Option, Some, None, inl, inr, arith, refl}
use Rattle.std.specs.Prelude.{slice_index, nat_lt, IsSomeAnd}
use Rattle.std.specs.Int.{Width, bytes_high_first, byte_at}
use Rattle.std.specs.List.{list_all, flat_map}
use Rattle.std.specs.Option.{option_map_or}
use Rattle.std.proofs.lemmas.Bool.{and_parts, cases_lt, ltb-true}
use Rattle.std.proofs.lemmas.List.{get_or_append_left}
use Rattle.std.proofs.Math.Seq.{get_or-append_right}
use Rattle.layout.specs.Types.{Bytes}
use Rattle.layout.specs.declared.error.ReadError.{ReadError}
use Rattle.layout.specs.Format.{Format, Rows, RowAfter, after_row, IsBytes, be, uint, raw, guarded, followed, headed, mapped, rows_from, spell_rows, FitRows, sized, listed_from, listed, string, nested, nothing, variant}

-- ---- bytes

no_bytes : IsBytes []
no_bytes i = omega arith

byte_before : (b : ℕ) (bytes : Bytes) → b < 256 → IsBytes bytes → IsBytes (b ∷ bytes)
byte_before b bytes here later zero = here
byte_before b bytes here later (suc i) = later i

pub bytes_joined : (xs ys : Bytes) → IsBytes xs → IsBytes ys → IsBytes (xs ++ ys)
bytes_joined xs ys first second i =
    elim (cases_lt i (length xs)) [
      | inl lt ↦ rw (get_or_append_left xs ys 0 i lt) (first i)
      | inr le ↦ rw (get_or-append_right xs ys i 0 le) (second (i - length xs))
    ]

-- texts joined one after another, one for each of these
pub each_is_bytes : {X : Type 0} (f : X → Bytes) (xs : List X) → ((x : X) → IsBytes (f x)) → IsBytes (flat_map f xs)
each_is_bytes f [] all = no_bytes
each_is_bytes f (x ∷ xs) all = bytes_joined (f x) (flat_map f xs) (all x) (each_is_bytes f xs all)

byte_small : (k n : ℕ) → byte_at k n < 256
byte_small zero n = omega arith
byte_small (suc k) n = omega arith

high_first_is_bytes : (k n : ℕ) → IsBytes (bytes_high_first k n)
high_first_is_bytes zero n = no_bytes
high_first_is_bytes (suc k) n = byte_before (byte_at k n) (bytes_high_first k n) (byte_small k n) (high_first_is_bytes k n)

pub number_is_bytes : (w : Width) (n : ℕ) → IsBytes (be w n)
unfolding be
number_is_bytes w n = high_first_is_bytes _ n

-- whether each number is below 256
abbrev are_small : Bytes → Bool
are_small bytes = list_all (λ b. nat_lt b 256) bytes

small_is_bytes : (bytes : Bytes) → are_small bytes ≡ true → IsBytes bytes
small_is_bytes [] e = no_bytes
small_is_bytes (b ∷ bytes) e =
    let both = and_parts (nat_lt b 256) (are_small bytes) e in
    byte_before b bytes (ltb-true b 256 both.0) (small_is_bytes bytes both.1)

-- ---- formats

-- what fits is spelled by bytes
pub record SpellsBytes {A : Type 0} (f : Format A) : Type 0 where
  pub holds : (x : A) → f.Fits x → IsBytes (f.spell x)

pub bytes_uint : (w : Width) → SpellsBytes (uint w)
bytes_uint w = record { holds = λ n fits. number_is_bytes w n }

pub bytes_raw : (count : ℕ) → SpellsBytes (raw count)
bytes_raw count = record { holds = λ bytes fits. fits.1 }

pub bytes_nothing : SpellsBytes nothing
bytes_nothing = record { holds = λ x fits. no_bytes }

pub bytes_guarded : {A : Type 0} (f : Format A) (test : A → Bool) (fault : ReadError) → SpellsBytes f → SpellsBytes (guarded f test fault)
bytes_guarded f test fault law = record { holds = λ x fits. law.holds x fits.0 }

pub bytes_followed : {A B : Type 0} (f : Format A) (g : A → Format B) → SpellsBytes f → ((x : A) → SpellsBytes (g x)) → SpellsBytes (followed f g)
bytes_followed f g law laws = record {
  holds = λ p fits. bytes_joined (f.spell p.0) ((g p.0).spell p.1) (law.holds p.0 fits.0) ((laws p.0).holds p.1 fits.1);
}

pub bytes_headed : {A : Type 0} (tag : Bytes) (f : Format A) → are_small tag ≡ true → SpellsBytes f → SpellsBytes (headed tag f)
bytes_headed tag f small law = record {
  holds = λ x fits. bytes_joined tag (f.spell x) (small_is_bytes tag small) (law.holds x fits);
}

pub bytes_mapped : {A B : Type 0} (to : A → B) (from : B → A) (f : Format A) → SpellsBytes f → SpellsBytes (mapped to from f)
bytes_mapped to from f law = record { holds = λ y fits. law.holds (from y) fits }

spelled_rows : {S A : Type 0} (rows : Rows S A) → ((s : S) → SpellsBytes (rows.row s)) → (s : S) (xs : List A) → FitRows rows s xs → IsBytes (spell_rows rows s xs)
unfolding spell_rows FitRows
spelled_rows rows laws s [] fits = no_bytes
spelled_rows rows laws s (x ∷ xs) fits =
    bytes_joined ((rows.row s).spell x) (spell_rows rows (rows.next s x) xs) ((laws s).holds x fits.0) (spelled_rows rows laws (rows.next s x) xs fits.1)

pub bytes_rows_from : {S A : Type 0} (rows : Rows S A) (first : S) (count : ℕ) → ((s : S) → SpellsBytes (rows.row s)) → SpellsBytes (rows_from rows first count)
bytes_rows_from rows first count laws = record { holds = λ xs fits. spelled_rows rows laws first xs fits.1 }

pub bytes_sized : {A : Type 0} (count : Format ℕ) (size : A → ℕ) (f : ℕ → Format A) → SpellsBytes count → ((n : ℕ) → SpellsBytes (f n)) → SpellsBytes (sized count size f)
bytes_sized {A} count size f law laws = bytes_mapped (λ (p : ℕ × A). p.1) (λ (x : A). (size x, x)) (followed count f) (bytes_followed count f law laws)

pub bytes_listed_from : {S A : Type 0} (count : Format ℕ) (rows : Rows S A) (first : S) → SpellsBytes count → ((s : S) → SpellsBytes (rows.row s)) → SpellsBytes (listed_from count rows first)
bytes_listed_from count rows first law laws = bytes_sized count length (rows_from rows first) law (λ n. bytes_rows_from rows first n laws)

pub bytes_listed : {A : Type 0} (count : Format ℕ) (row : RowAfter A) → SpellsBytes count → ((before : Option A) → SpellsBytes (row before)) → SpellsBytes (listed count row)
bytes_listed count row law laws = bytes_listed_from count (after_row row) None law laws

pub bytes_string : (count : Format ℕ) → SpellsBytes count → SpellsBytes (string count)
bytes_string count law = bytes_sized count length raw law bytes_raw

pub bytes_nested : {A : Type 0} (count : Format ℕ) (f : Format A) → SpellsBytes count → SpellsBytes f → SpellsBytes (nested count f)
bytes_nested count f law inner = record {
  holds = λ x fits. bytes_joined (count.spell (length (f.spell x))) (f.spell x) (law.holds (length (f.spell x)) fits.0) (inner.holds x fits.1);
}

spelled_variant : {A : Type 0} (f : Format A) → SpellsBytes f → (o : Option A) → IsSomeAnd o f.Fits → IsBytes (option_map_or f.spell o [])
spelled_variant f law None fits = absurd fits
spelled_variant f law (Some x) fits = law.holds x fits

pub bytes_variant : {A B : Type 0} (to : A → B) (from : B → Option A) (f : Format A) → SpellsBytes f → SpellsBytes (variant to from f)
bytes_variant to from f law = record { holds = λ y fits. spelled_variant f law (from y) fits }

-- every law, for `search`
pub ruleset spelling = (bytes_uint, bytes_raw, bytes_nothing, bytes_guarded, bytes_followed, bytes_headed, bytes_mapped, bytes_sized, bytes_listed, bytes_string, bytes_nested, bytes_variant, refl)
