-- Nobody has to believe this file: laws, which are proved.
-- The laws of formats: what is read is spelled so and fits, and what fits and is spelled so is read.
use Rattle.std.proofs.Common.{◌≡◌, ℕ, zero, suc, ◌+◌, ◌*◌, ◌%◌, ◌^◌, ◌<◌, ◌≤◌, Bool, true, false, cond, ◌&&◌, ltb, List, [], ◌∷◌, ◌++◌, length, get_or, take, drop, Option, Some, None, Result, Ok, Err, refl, sym, ap, subst, ◌∙◌, append_assoc, arith, inl, inr}
use Rattle.std.specs.Prelude.{IfOk, IsSomeAnd, nat_eq, nat_lt, nat_le}
use Rattle.std.specs.Int.{Width, w8, w16, w32, byte_len, from_be_bytes, to_be_bytes}
use Rattle.std.specs.List.{starts_with, All}
use Rattle.std.specs.Option.{option_map_or}
use Rattle.std.proofs.lemmas.Bool.{cases_lt, ltb-false, le-ltb, le-leb, leb-true, eqb-true, and_from}
use Rattle.std.proofs.lemmas.List.{append-nil, nil_from_length, take_at, drop_at, take-append-drop, length-append, length-take, get_or-drop, get_or-take, get_or_past}
use Rattle.std.proofs.lemmas.List.Elements.{All-head, All-tail}
use Rattle.std.proofs.lemmas.Slice.Eq.{starts_is}
use Rattle.std.proofs.lemmas.Bool.Decides.{Decides-eqb}
use Rattle.std.proofs.lemmas.Nat.{be_bytes_2, be_bytes_4, from_be_bytes-to_be_bytes_2, from_be_bytes-to_be_bytes_4}
use Rattle.layout.specs.declared.error.ReadError.{ReadError}
use Rattle.layout.specs.declared.error.ReadError.TheVariants.{Short, BadTag, Range, Trailing}
use Rattle.layout.specs.Format.{Answer, Format, Rows, RowAfter, after_row, IsBytes, ◌>>=◌, ends, be, uint, uint_in, raw, tagged, guarded, followed, headed, mapped, rows_from, read_rows, spell_rows, rows_onto, FitRows, sized, listed_from, listed, string, nested, nothing, variant, whole, Gives, Takes, Lawful}

-- ---- steps

-- the value of a step that did not fail
bind_ok : {A B : Type 0} (r : Result A ReadError) (f : A → Result B ReadError) (y : B) → (r >>= f) ≡ Ok y → (x : A) × (r ≡ Ok x) × (f x ≡ Ok y)
bind_ok (Ok x) f y e = (x, refl, e)
bind_ok (Err d) f y e = absurd cc

-- a test that did not fail, where failing is first and where it is last
guard_ok : {A : Type 0} (b : Bool) (d : ReadError) (x y : A) → cond b (Err d) (Ok x) ≡ Ok y → (b ≡ false) × (x ≡ y)
guard_ok true d x y e = absurd cc
guard_ok false d x y e = (refl, cc)

pass_ok : {A : Type 0} (b : Bool) (d : ReadError) (x y : A) → cond b (Ok x) (Err d) ≡ Ok y → (b ≡ true) × (x ≡ y)
pass_ok true d x y e = (refl, cc)
pass_ok false d x y e = absurd cc

abbrev done : {A : Type 0} → A → Result A ReadError
done x = Ok x

ok_is : {A : Type 0} (x y : A) → done x ≡ done y → x ≡ y
ok_is x y e = cc

IsBytes-drop : (n : ℕ) (bytes : List ℕ) → IsBytes bytes → IsBytes (drop n bytes)
IsBytes-drop n bytes h i = rw get_or-drop (h (n + i))

IsBytes-take : (n : ℕ) (bytes : List ℕ) → IsBytes bytes → IsBytes (take n bytes)
IsBytes-take n bytes h i =
    elim (cases_lt i n) [
      | inl lt ↦ rw (get_or-take n bytes i 0 lt) (h i)
      | inr le ↦ rw (get_or_past (take n bytes) i 0 (omega (arith, length-take n bytes))) (omega arith)
    ]

-- ---- numbers

pub record IsWide (w : Width) : Type 0 where
  pub len : (n : ℕ) → length (to_be_bytes w n) ≡ byte_len w
  pub back : (bytes : List ℕ) → length bytes ≡ byte_len w → IsBytes bytes → to_be_bytes w (from_be_bytes w bytes) ≡ bytes
  pub again : (n : ℕ) → n < 256 ^ byte_len w → from_be_bytes w (to_be_bytes w n) ≡ n
  pub below : (bytes : List ℕ) → IsBytes bytes → from_be_bytes w bytes < 256 ^ byte_len w

one_byte : (bytes : List ℕ) → length bytes ≡ 1 → IsBytes bytes → to_be_bytes w8 (from_be_bytes w8 bytes) ≡ bytes
one_byte [] len fits = absurd (omega arith)
one_byte (b ∷ []) len fits = let lt : b < 256 = fits 0 in let same : b % 256 ≡ b = omega arith in ap (λ (k : ℕ). k ∷ []) same
one_byte (b ∷ c ∷ bytes) len fits = absurd (omega arith)

pub wide8 : IsWide w8
wide8 = record {
  len = λ n. refl;
  back = one_byte;
  again = λ n lt. let below : n < 256 = lt in omega arith;
  below = λ bytes fits. fits 0;
}

pub wide16 : IsWide w16
wide16 = record {
  len = λ n. refl;
  back = λ bytes len fits. be_bytes_2 bytes _ len fits refl;
  again = λ n lt. from_be_bytes-to_be_bytes_2 n lt;
  below = λ bytes fits. omega (arith, fits 0, fits 1);
}

pub wide32 : IsWide w32
wide32 = record {
  len = λ n. refl;
  back = λ bytes len fits. be_bytes_4 bytes _ len fits refl;
  again = λ n lt. from_be_bytes-to_be_bytes_4 n lt;
  below = λ bytes fits. omega (arith, fits 0, fits 1, fits 2, fits 3);
}

uint_takes : (w : Width) → IsWide w → (bytes : List ℕ) (n : ℕ) (rest : List ℕ) → IsBytes bytes → (uint w).read bytes ≡ Ok (n, rest) → Takes (uint w) bytes n rest
unfolding be
uint_takes w wide bytes n rest fits e =
    let g = guard_ok (ltb (length bytes) (byte_len w)) Short (from_be_bytes w (take (byte_len w) bytes), drop (byte_len w) bytes) (n, rest) e in
    let long : byte_len w ≤ length bytes = ltb-false _ _ g.0 in
    let n-is : from_be_bytes w (take (byte_len w) bytes) ≡ n = ap (λ (p : ℕ × List ℕ). p.0) g.1 in
    let rest-is : drop (byte_len w) bytes ≡ rest = ap (λ (p : ℕ × List ℕ). p.1) g.1 in
    let front : to_be_bytes w n ≡ take (byte_len w) bytes = rw (← n-is) (wide.back (take (byte_len w) bytes) (omega (arith, length-take (byte_len w) bytes)) (IsBytes-take (byte_len w) bytes fits)) in
    record {
      parts = rw (front, ← rest-is) (sym (take-append-drop (byte_len w) bytes));
      rest_fits = rw (← rest-is) (IsBytes-drop (byte_len w) bytes fits);
      fits = rw (← n-is) (wide.below (take (byte_len w) bytes) (IsBytes-take (byte_len w) bytes fits));
    }

uint_again : (w : Width) → IsWide w → (n : ℕ) (rest : List ℕ) → n < 256 ^ byte_len w → (uint w).read (be w n ++ rest) ≡ Ok (n, rest)
unfolding be
uint_again w wide n rest lt =
    let len = wide.len n in
    let long : ltb (length (to_be_bytes w n ++ rest)) (byte_len w) ≡ false = le-ltb _ _ (omega (arith, length-append (to_be_bytes w n) rest)) in
    rw (long, take_at (to_be_bytes w n) rest (byte_len w) len, drop_at (to_be_bytes w n) rest (byte_len w) len, wide.again n lt) refl

pub lawful_uint : (w : Width) → IsWide w → Lawful (uint w)
lawful_uint w wide = record { takes = uint_takes w wide; onto = λ old n. refl; again = uint_again w wide }

-- ---- bytes

raw_takes : (count : ℕ) (bytes x rest : List ℕ) → IsBytes bytes → (raw count).read bytes ≡ Ok (x, rest) → Takes (raw count) bytes x rest
raw_takes count bytes x rest fits e =
    let g = guard_ok (ltb (length bytes) count) Short (take count bytes, drop count bytes) (x, rest) e in
    let long : count ≤ length bytes = ltb-false _ _ g.0 in
    let made : Takes (raw count) bytes (take count bytes) (drop count bytes) = record {
      parts = sym (take-append-drop count bytes);
      rest_fits = IsBytes-drop count bytes fits;
      fits = (omega (arith, length-take count bytes), IsBytes-take count bytes fits);
    } in
    subst (λ (p : List ℕ × List ℕ). Takes (raw count) bytes p.0 p.1) g.1 made

raw_again : (count : ℕ) (x rest : List ℕ) → length x ≡ count → (raw count).read (x ++ rest) ≡ Ok (x, rest)
raw_again count x rest len =
    let long : ltb (length (x ++ rest)) count ≡ false = le-ltb _ _ (omega (arith, length-append x rest)) in
    rw (long, take_at x rest count len, drop_at x rest count len) refl

pub lawful_raw : (count : ℕ) → Lawful (raw count)
lawful_raw count = record { takes = raw_takes count; onto = λ old x. refl; again = λ x rest fits. raw_again count x rest fits.0 }

-- ---- tests

pub lawful_guarded : {A : Type 0} (f : Format A) (test : A → Bool) (fault : ReadError) → Lawful f → Lawful (guarded f test fault)
lawful_guarded {A} f test fault law = record {
  takes = λ bytes x rest fits e.
      let a = bind_ok (f.read bytes) (λ (y : A × List ℕ). cond (test y.0) (Ok y) (Err fault)) (x, rest) e in
      let g = pass_ok (test a.0.0) fault a.0 (x, rest) a.2 in
      let t = law.takes bytes x rest fits (a.1 ∙ ap done g.1) in
      record { parts = t.parts; rest_fits = t.rest_fits; fits = (t.fits, ap (λ (y : A × List ℕ). test y.0) (sym g.1) ∙ g.0) };
  onto = law.onto;
  again = λ x rest fits. rw (law.again x rest fits.0, fits.1) refl;
}

pub lawful_followed : {A B : Type 0} (f : Format A) (g : A → Format B) → Lawful f → ((x : A) → Lawful (g x)) → Lawful (followed f g)
lawful_followed {A} {B} f g law laws = record {
  takes = λ bytes x rest fits e.
      let a = bind_ok (f.read bytes) (λ (y : A × List ℕ). (g y.0).read y.1 >>= λ z. Ok ((y.0, z.0), z.1)) (x, rest) e in
      let b = bind_ok ((g a.0.0).read a.0.1) (λ (z : B × List ℕ). Ok ((a.0.0, z.0), z.1)) (x, rest) a.2 in
      let t = law.takes bytes a.0.0 a.0.1 fits a.1 in
      let u = (laws a.0.0).takes a.0.1 b.0.0 b.0.1 t.rest_fits b.1 in
      let made : Takes (followed f g) bytes (a.0.0, b.0.0) b.0.1 = record {
        parts = t.parts ∙ ap (λ (r : List ℕ). f.spell a.0.0 ++ r) u.parts ∙ sym (append_assoc (f.spell a.0.0) ((g a.0.0).spell b.0.0) b.0.1);
        rest_fits = u.rest_fits;
        fits = (t.fits, u.fits);
      } in
      subst (λ (p : (A × B) × List ℕ). Takes (followed f g) bytes p.0 p.1) (ok_is ((a.0.0, b.0.0), b.0.1) (x, rest) b.2) made;
  onto = λ old x. (laws x.0).onto (f.onto old x.0) x.1 ∙ ap (λ (t : List ℕ). t ++ (g x.0).spell x.1) (law.onto old x.0) ∙ append_assoc old (f.spell x.0) ((g x.0).spell x.1);
  again = λ x rest fits.
      rw (append_assoc (f.spell x.0) ((g x.0).spell x.1) rest, law.again x.0 ((g x.0).spell x.1 ++ rest) fits.0, (laws x.0).again x.1 rest fits.1) refl;
}

pub lawful_mapped : {A B : Type 0} (to : A → B) (from : B → A) (f : Format A) → ((y : B) → to (from y) ≡ y) → ((x : A) → f.Fits x → from (to x) ≡ x) → Lawful f → Lawful (mapped to from f)
lawful_mapped {A} {B} to from f there back law = record {
  takes = λ bytes y rest fits e.
      let a = bind_ok (f.read bytes) (λ (x : A × List ℕ). Ok (to x.0, x.1)) (y, rest) e in
      let t = law.takes bytes a.0.0 a.0.1 fits a.1 in
      let same : from (to a.0.0) ≡ a.0.0 = back a.0.0 t.fits in
      let made : Takes (mapped to from f) bytes (to a.0.0) a.0.1 = record { parts = rw same t.parts; rest_fits = t.rest_fits; fits = rw same t.fits } in
      subst (λ (p : B × List ℕ). Takes (mapped to from f) bytes p.0 p.1) (ok_is (to a.0.0, a.0.1) (y, rest) a.2) made;
  onto = λ old y. law.onto old (from y);
  again = λ y rest fits. rw (law.again (from y) rest fits, there y) refl;
}

-- ---- rows

rows_take : {S A : Type 0} (rows : Rows S A) → ((s : S) → Lawful (rows.row s)) → (n : ℕ) (s : S) (bytes : List ℕ) (x : List A × List ℕ) → IsBytes bytes → read_rows rows n s bytes ≡ Ok x
    → (bytes ≡ spell_rows rows s x.0 ++ x.1) × IsBytes x.1 × (length x.0 ≡ n) × FitRows rows s x.0
unfolding read_rows spell_rows FitRows
rows_take {S} {A} rows laws zero s bytes x fits e =
    subst (λ (y : List A × List ℕ). (bytes ≡ spell_rows rows s y.0 ++ y.1) × IsBytes y.1 × (length y.0 ≡ 0) × FitRows rows s y.0) (ok_is ([], bytes) x e) (refl, fits, refl, tt)
rows_take {S} {A} rows laws (suc n) s bytes x fits e =
    let a = bind_ok ((rows.row s).read bytes) (λ (y : A × List ℕ). read_rows rows n (rows.next s y.0) y.1 >>= λ ys. Ok (y.0 ∷ ys.0, ys.1)) x e in
    let s' = rows.next s a.0.0 in
    let c = bind_ok (read_rows rows n s' a.0.1) (λ (ys : List A × List ℕ). Ok (a.0.0 ∷ ys.0, ys.1)) x a.2 in
    let t = (laws s).takes bytes a.0.0 a.0.1 fits a.1 in
    let u = rows_take rows laws n s' a.0.1 c.0 t.rest_fits c.1 in
    let parts : bytes ≡ ((rows.row s).spell a.0.0 ++ spell_rows rows s' c.0.0) ++ c.0.1
    = t.parts ∙ ap (λ (r : List ℕ). (rows.row s).spell a.0.0 ++ r) u.0 ∙ sym (append_assoc ((rows.row s).spell a.0.0) (spell_rows rows s' c.0.0) c.0.1) in
    subst (λ (y : List A × List ℕ). (bytes ≡ spell_rows rows s y.0 ++ y.1) × IsBytes y.1 × (length y.0 ≡ suc n) × FitRows rows s y.0) (ok_is (a.0.0 ∷ c.0.0, c.0.1) x c.2)
    (parts, u.1, ap suc u.2, (t.fits, u.3))

rows_again : {S A : Type 0} (rows : Rows S A) → ((s : S) → Lawful (rows.row s)) → (s : S) (xs : List A) (rest : List ℕ) → FitRows rows s xs → read_rows rows (length xs) s (spell_rows rows s xs ++ rest) ≡ Ok (xs, rest)
unfolding read_rows spell_rows FitRows
rows_again rows laws s [] rest fits = refl
rows_again rows laws s (x ∷ xs) rest fits =
    rw (append_assoc ((rows.row s).spell x) (spell_rows rows (rows.next s x) xs) rest, (laws s).again x (spell_rows rows (rows.next s x) xs ++ rest) fits.0, rows_again rows laws (rows.next s x) xs rest fits.1) refl

rows_onto_is : {S A : Type 0} (rows : Rows S A) → ((s : S) → Lawful (rows.row s)) → (s : S) (old : List ℕ) (xs : List A) → rows_onto rows s old xs ≡ old ++ spell_rows rows s xs
unfolding rows_onto spell_rows
rows_onto_is rows laws s old [] = sym (append-nil old)
rows_onto_is rows laws s old (x ∷ xs) =
    rows_onto_is rows laws (rows.next s x) ((rows.row s).onto old x) xs ∙ ap (λ (t : List ℕ). t ++ spell_rows rows (rows.next s x) xs) ((laws s).onto old x) ∙ append_assoc old ((rows.row s).spell x) (spell_rows rows (rows.next s x) xs)

pub lawful_rows_from : {S A : Type 0} (rows : Rows S A) (first : S) (count : ℕ) → ((s : S) → Lawful (rows.row s)) → Lawful (rows_from rows first count)
lawful_rows_from {S} {A} rows first count laws = record {
  takes = λ bytes x rest fits e. let t = rows_take rows laws count first bytes (x, rest) fits e in record { parts = t.0; rest_fits = t.1; fits = (t.2, t.3) };
  onto = rows_onto_is rows laws first;
  again = λ x rest fits. let same : length x ≡ count = fits.0 in subst (λ n. read_rows rows n first (spell_rows rows first x ++ rest) ≡ Ok (x, rest)) same (rows_again rows laws first x rest fits.1);
}

pub lawful_sized : {A : Type 0} (count : Format ℕ) (size : A → ℕ) (f : ℕ → Format A) → Lawful count → ((n : ℕ) → Lawful (f n)) → ((n : ℕ) (x : A) → count.Fits n → (f n).Fits x → size x ≡ n) → Lawful (sized count size f)
lawful_sized {A} count size f law laws same =
    lawful_mapped (λ (p : ℕ × A). p.1) (λ (x : A). (size x, x)) (followed count f) (λ y. refl) (λ p fits. ap (λ n. (n, p.1)) (same p.0 p.1 fits.0 fits.1)) (lawful_followed count f law laws)

pub lawful_listed_from : {S A : Type 0} (count : Format ℕ) (rows : Rows S A) (first : S) → Lawful count → ((s : S) → Lawful (rows.row s)) → Lawful (listed_from count rows first)
lawful_listed_from count rows first law laws = lawful_sized count length (rows_from rows first) law (λ n. lawful_rows_from rows first n laws) (λ n x few fits. fits.0)

pub lawful_listed : {A : Type 0} (count : Format ℕ) (row : RowAfter A) → Lawful count → ((b : Option A) → Lawful (row b)) → Lawful (listed count row)
lawful_listed count row law laws = lawful_listed_from count (after_row row) None law laws

pub lawful_uint_in : (w : Width) (low high : ℕ) → IsWide w → Lawful (uint_in w low high)
lawful_uint_in w low high wide = lawful_guarded (uint w) _ Range (lawful_uint w wide)

-- ---- tags

guard_nested : {A : Type 0} (a b : Bool) (x y : A) → cond a (Err Short) (cond b (Ok x) (Err BadTag)) ≡ Ok y → (b ≡ true) × (x ≡ y)
guard_nested true b x y e = absurd cc
guard_nested false true x y e = (refl, cc)
guard_nested false false x y e = absurd cc

tagged_takes : (tag bytes : List ℕ) (x : Unit {0}) (rest : List ℕ) → IsBytes bytes → (tagged tag).read bytes ≡ Ok (x, rest) → Takes (tagged tag) bytes x rest
tagged_takes tag bytes x rest fits e =
    let g = guard_nested (ltb (length bytes) (length tag)) (starts_with nat_eq bytes tag) (tt, drop (length tag) bytes) (x, rest) e in
    let rest-is : drop (length tag) bytes ≡ rest = ap (λ (p : Unit {0} × List ℕ). p.1) g.1 in
    record {
      parts = (starts_is Decides-eqb bytes tag (starts_with nat_eq bytes tag) refl).0 g.0 ∙ ap (λ (r : List ℕ). tag ++ r) rest-is;
      rest_fits = rw (← rest-is) (IsBytes-drop (length tag) bytes fits);
      fits = tt;
    }

tagged_again : (tag : List ℕ) (x : Unit {0}) (rest : List ℕ) → Unit {0} → (tagged tag).read (tag ++ rest) ≡ Ok (x, rest)
tagged_again tag x rest fits =
    let long : ltb (length (tag ++ rest)) (length tag) ≡ false = le-ltb _ _ (omega (arith, length-append tag rest)) in
    let starts : starts_with nat_eq (tag ++ rest) tag ≡ true = (starts_is Decides-eqb (tag ++ rest) tag (starts_with nat_eq (tag ++ rest) tag) refl).1 rest refl in
    rw (long, starts, drop_at tag rest (length tag) refl) refl

pub lawful_tagged : (tag : List ℕ) → Lawful (tagged tag)
lawful_tagged tag = record { takes = tagged_takes tag; onto = λ old x. refl; again = tagged_again tag }

pub lawful_headed : {A : Type 0} (tag : List ℕ) (f : Format A) → Lawful f → Lawful (headed tag f)
lawful_headed {A} tag f law = record {
  takes = λ bytes x rest fits e.
      let a = bind_ok ((tagged tag).read bytes) (λ (t : Unit {0} × List ℕ). f.read t.1) (x, rest) e in
      let t = tagged_takes tag bytes a.0.0 a.0.1 fits a.1 in
      let u = law.takes a.0.1 x rest t.rest_fits a.2 in
      record {
        parts = t.parts ∙ ap (λ (r : List ℕ). tag ++ r) u.parts ∙ sym (append_assoc (tag) (f.spell x) rest);
        rest_fits = u.rest_fits;
        fits = u.fits;
      };
  onto = λ old x. law.onto (old ++ tag) x ∙ append_assoc old tag (f.spell x);
  again = λ x rest fits.
      ap (headed tag f).read (append_assoc (tag) (f.spell x) rest)
      ∙ ap (λ (r : Answer (Unit {0})). r >>= λ t. f.read t.1) (tagged_again tag tt (f.spell x ++ rest) tt)
      ∙ law.again x rest fits;
}

-- ---- whole texts

whole_takes : {A : Type 0} (f : Format A) → Lawful f → (bytes : List ℕ) (x : A) → IsBytes bytes → whole f bytes ≡ Ok x → f.Fits x × (bytes ≡ f.spell x)
whole_takes {A} f law bytes x fits e =
    let a = bind_ok (f.read bytes) (λ (y : A × List ℕ). cond (ends y.1) (Ok y.0) (Err Trailing)) x e in
    let g = pass_ok (ends a.0.1) Trailing a.0.0 x a.2 in
    let t = law.takes bytes a.0.0 a.0.1 fits a.1 in
    let nothing : a.0.1 ≡ [] = nil_from_length a.0.1 (eqb-true _ _ g.0) in
    let parts : bytes ≡ f.spell a.0.0 = t.parts ∙ ap (λ (r : List ℕ). f.spell a.0.0 ++ r) nothing ∙ append-nil (f.spell a.0.0) in
    subst (λ (y : A). f.Fits y × (bytes ≡ f.spell y)) g.1 (t.fits, parts)

pub whole_again : {A : Type 0} (f : Format A) → Lawful f → (x : A) → f.Fits x → whole f (f.spell x) ≡ Ok x
whole_again {A} f law x fits =
    let read : f.read (f.spell x) ≡ Ok (x, []) = ap f.read (sym (append-nil (f.spell x))) ∙ law.again x [] fits in
    rw read refl

-- What a reader of the whole text returned is spelled so, and fits.
pub is_found : {X A : Type 0} (f : Format A) → Lawful f → (view : X → A) (bytes : List ℕ) (r : Result X ReadError) → IsBytes bytes → Gives view r (whole f bytes) → IfOk r (λ v. f.Fits (view v) × (bytes ≡ f.spell (view v)))
is_found f law view bytes (Ok v) fits given = whole_takes f law bytes (view v) fits given
is_found f law view bytes (Err e) fits given = tt

-- What fits and is spelled so was returned, unless memory ran out.
pub is_only : {X A : Type 0} (f : Format A) → Lawful f → (view : X → A) (bytes : List ℕ) (r : Result X ReadError) → Gives view r (whole f bytes) → (x : A) → f.Fits x → bytes ≡ f.spell x → Gives view r (Ok x)
is_only f law view bytes r given x fits e = subst (λ answer. Gives view r answer) (ap (whole f) e ∙ whole_again f law x fits) given

pub lawful_string : (count : Format ℕ) → Lawful count → Lawful (string count)
lawful_string count law = lawful_sized count length raw law lawful_raw (λ n x few fits. fits.0)

string_again : (count : Format ℕ) → Lawful count → (text rest : List ℕ) → count.Fits (length text) → (string count).read ((string count).spell text ++ rest) ≡ Ok (text, rest)
string_again count law text rest fits =
    rw (append_assoc (count.spell (length text)) text rest, law.again (length text) (text ++ rest) fits, raw_again (length text) text rest refl) refl

pub lawful_nested : {A : Type 0} (count : Format ℕ) (f : Format A) → Lawful count → Lawful f → Lawful (nested count f)
lawful_nested {A} count f law inner =
    let outer : Lawful (string count) = lawful_string count law in
    record {
      takes = λ bytes x rest fits e.
          let a = bind_ok ((string count).read bytes) (λ (t : List ℕ × List ℕ). whole f t.0 >>= λ y. Ok (y, t.1)) (x, rest) e in
          let b = bind_ok (whole f a.0.0) (λ (y : A). Ok (y, a.0.1)) (x, rest) a.2 in
          let t = outer.takes bytes a.0.0 a.0.1 fits a.1 in
          let w = whole_takes f inner a.0.0 b.0 t.fits.1.1 b.1 in
          let made : Takes (nested count f) bytes b.0 a.0.1 = record {
            parts = subst (λ (text : List ℕ). bytes ≡ (string count).spell text ++ a.0.1) w.1 t.parts;
            rest_fits = t.rest_fits;
            fits = (subst (λ (text : List ℕ). count.Fits (length text)) w.1 t.fits.0, w.0);
          } in
          subst (λ (p : A × List ℕ). Takes (nested count f) bytes p.0 p.1) (ok_is (b.0, a.0.1) (x, rest) b.2) made;
      onto = λ old x. outer.onto old (f.spell x);
      again = λ x rest fits. rw (string_again count law (f.spell x) rest fits.0, whole_again f inner x fits.1) refl;
    }

-- ---- variants

both_le : (a b : Bool) (low high n : ℕ) → (a ≡ true → low ≤ n) → (b ≡ true → n ≤ high) → (a && b) ≡ true → (low ≤ n) × (n ≤ high)
both_le true true low high n p q h = (p refl, q refl)
both_le true false low high n p q h = absurd cc
both_le false b low high n p q h = absurd cc

pub lawful_nothing : Lawful nothing
lawful_nothing = record { takes = λ bytes x rest fits e. let same : bytes ≡ rest = ap (λ (p : Unit {0} × List ℕ). p.1) (ok_is (tt, bytes) (x, rest) e) in record { parts = same; rest_fits = subst IsBytes same fits; fits = tt }; onto = λ old x. sym (append-nil old); again = λ x rest fits. refl }

variant_onto : {A : Type 0} (f : Format A) → Lawful f → (old : List ℕ) (o : Option A) → option_map_or (f.onto old) o old ≡ old ++ option_map_or f.spell o []
variant_onto f law old None = sym (append-nil old)
variant_onto f law old (Some x) = law.onto old x

variant_again : {A B : Type 0} (to : A → B) (from : B → Option A) (f : Format A) → ((y : B) (x : A) → from y ≡ Some x → to x ≡ y) → Lawful f → (y : B) (rest : List ℕ) (o : Option A) → from y ≡ o → IsSomeAnd o f.Fits
    → (variant to from f).read (option_map_or f.spell o [] ++ rest) ≡ Ok (y, rest)
variant_again to from f back law y rest None e fits = absurd fits
variant_again {A} {B} to from f back law y rest (Some x) e fits = rw (law.again x rest fits) (ap (λ (z : B). done (z, rest)) (back y x e))

pub lawful_variant : {A B : Type 0} (to : A → B) (from : B → Option A) (f : Format A) → ((x : A) → from (to x) ≡ Some x) → ((y : B) (x : A) → from y ≡ Some x → to x ≡ y) → Lawful f → Lawful (variant to from f)
lawful_variant {A} {B} to from f there back law = record {
  takes = λ bytes y rest fits e.
      let a = bind_ok (f.read bytes) (λ (x : A × List ℕ). Ok (to x.0, x.1)) (y, rest) e in
      let t = law.takes bytes a.0.0 a.0.1 fits a.1 in
      let made : Takes (variant to from f) bytes (to a.0.0) a.0.1 = record {
        parts = subst (λ (o : Option A). bytes ≡ option_map_or f.spell o [] ++ a.0.1) (sym (there a.0.0)) t.parts;
        rest_fits = t.rest_fits;
        fits = subst (λ (o : Option A). IsSomeAnd o f.Fits) (sym (there a.0.0)) t.fits;
      } in
      subst (λ (p : B × List ℕ). Takes (variant to from f) bytes p.0 p.1) (ok_is (to a.0.0, a.0.1) (y, rest) a.2) made;
  onto = λ old y. variant_onto f law old (from y);
  again = λ y rest fits. variant_again to from f back law y rest (from y) refl fits;
}

variant_is_at : {A B : Type 0} (to : A → B) (from : B → Option A) (f : Format A) → ((y : B) (x : A) → from y ≡ Some x → to x ≡ y) → (y : B) (o : Option A) → from y ≡ o → IsSomeAnd o f.Fits → (x : A) × (to x ≡ y)
variant_is_at to from f back y None e fits = absurd fits
variant_is_at to from f back y (Some x) e fits = (x, back y x e)

-- what fits a variant is made by it
pub variant_is : {A B : Type 0} (to : A → B) (from : B → Option A) (f : Format A) → ((y : B) (x : A) → from y ≡ Some x → to x ≡ y) → (y : B) → (variant to from f).Fits y → (x : A) × (to x ≡ y)
variant_is to from f back y fits = variant_is_at to from f back y (from y) refl fits

-- a number in a range
pub in_range : (w : Width) (low high n : ℕ) → (uint_in w low high).Fits n → (low ≤ n) × (n ≤ high)
in_range w low high n fits = both_le (nat_le low n) (nat_le n high) low high n (leb-true low n) (leb-true n high) fits.1

pub in_range_fits : (w : Width) (low high n : ℕ) → n < 256 ^ byte_len w → low ≤ n → n ≤ high → (uint_in w low high).Fits n
in_range_fits w low high n wide above below = (wide, and_from _ _ (le-leb low n above) (le-leb n high below))

-- few enough rows that fit
pub listed_from_fits : {S A : Type 0} (w : Width) (high : ℕ) (rows : Rows S A) (first : S) (xs : List A) → high < 256 ^ byte_len w → length xs ≤ high → FitRows rows first xs → (listed_from (uint_in w 0 high) rows first).Fits xs
listed_from_fits w high rows first xs wide few fits = (in_range_fits w 0 high (length xs) (omega arith) (omega arith) few, (refl, fits))

pub listed_fits : {A : Type 0} (w : Width) (high : ℕ) (row : RowAfter A) (xs : List A) → high < 256 ^ byte_len w → length xs ≤ high → FitRows (after_row row) None xs → (listed (uint_in w 0 high) row).Fits xs
listed_fits w high row xs wide few fits = listed_from_fits w high (after_row row) None xs wide few fits

-- rows that don't depend on the one before
pub rows_fit : {A : Type 0} (f : Format A) (b : Option A) (xs : List A) → All f.Fits xs → FitRows (after_row (λ _. f)) b xs
unfolding FitRows
rows_fit f b [] all = tt
rows_fit f b (x ∷ xs) all = (All-head f.Fits x xs all, rows_fit f (Some x) xs (All-tail f.Fits x xs all))

-- rows that are written alike at any state are written alike
pub onto_alike : {S T A : Type 0} (these : Rows S A) (those : Rows T A) → ((s : S) (t : T) (old : List ℕ) (x : A) → (these.row s).onto old x ≡ (those.row t).onto old x) → (s : S) (t : T) (old : List ℕ) (xs : List A)
    → rows_onto these s old xs ≡ rows_onto those t old xs
unfolding rows_onto
onto_alike these those alike s t old [] = refl
onto_alike these those alike s t old (x ∷ xs) =
    onto_alike these those alike (these.next s x) (those.next t x) ((these.row s).onto old x) xs ∙ ap (λ (text : List ℕ). rows_onto those (those.next t x) text xs) (alike s t old x)

-- every law, for `search`
pub ruleset laws = (lawful_raw, lawful_uint_in, wide8, wide16, wide32, lawful_guarded, lawful_followed, lawful_headed, lawful_mapped, lawful_sized, lawful_listed, lawful_string, lawful_nested, lawful_nothing, refl)

-- a text that was written is the spelling
pub is_text : {A : Type 0} (f : Format A) → Lawful f → (x : A) (text : List ℕ) → text ≡ f.onto [] x → text ≡ f.spell x
is_text f law x text e = e ∙ law.onto [] x
