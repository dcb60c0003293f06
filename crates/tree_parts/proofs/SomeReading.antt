-- Whatever blocks are held, some reading of the digests agrees with them.
use Rattle.std.proofs.Common.{◌≡◌, ℕ, zero, suc, ◌≤◌, replicate, Bool, true, false, cond, List, [], ◌∷◌, length, take, drop, Option, Some, None, Result, Ok, Err, refl, sym, ap, subst, ◌∙◌, arith}
use Rattle.std.specs.Prelude.{◌↔◌, ◌==◌, ◌&&◌, codes, nat_eq, nat_lt, nat_le, if◌then◌else◌}
use Rattle.std.specs.Int.{w16, from_be_bytes}
use Rattle.std.specs.List.{starts_with}
use Rattle.std.specs.Option.{option_and_then}
use Rattle.std.specs.Result.{result_ok}
use Rattle.std.proofs.lemmas.Bool.{eqb-true, eq-eqb, ltb-false}
use Rattle.std.proofs.lemmas.List.{nil_from_length, length-drop, length-replicate}
use Rattle.layout.specs.declared.error.ReadError.{ReadError}
use Rattle.layout.specs.declared.error.ReadError.TheVariants.{Short, BadTag, Range, Trailing}
use Rattle.layout.specs.Format.{◌>>=◌, ends, uint, uint_in, tagged, followed, rows, after_row, read_rows, listed, whole}
use Rattle.itable.specs.Inode.{Inode}
use Rattle.itable.specs.declared.inode.Kind.{Kind}
use Rattle.itable.specs.declared.inode.Kind.TheVariants as kinds
use Rattle.directory.specs.Directory.{Entry, entry, directory}
use Rattle.update_cert.specs.World.{Content, File, Directory}
use Rattle.update_cert.specs.Reading.{Reading}
use Rattle.tree_parts.specs.Blocks.{Blocks, inode_at, inode_told, joined, of_size, directory_over, if_of_size, file_over, IsOf, Agrees}

-- ---- steps that did not fail

bind_ok : {A B : Type 0} (r : Result A ReadError) (f : A → Result B ReadError) (y : B) → (r >>= f) ≡ Ok y → (x : A) × (r ≡ Ok x) × (f x ≡ Ok y)
bind_ok (Ok x) f y e = (x, refl, e)
bind_ok (Err d) f y e = absurd cc

guard_ok : {A : Type 0} (b : Bool) (d : ReadError) (x y : A) → cond b (Err d) (Ok x) ≡ Ok y → (b ≡ false) × (x ≡ y)
guard_ok true d x y e = absurd cc
guard_ok false d x y e = (refl, cc)

pass_ok : {A : Type 0} (b : Bool) (d : ReadError) (x y : A) → cond b (Ok x) (Err d) ≡ Ok y → (b ≡ true) × (x ≡ y)
pass_ok true d x y e = (refl, cc)
pass_ok false d x y e = absurd cc

abbrev done : {A : Type 0} → A → Result A ReadError
done x = Ok x

ok_is : {A : Type 0} (x y : A) → done x ≡ done y → x ≡ y
ok_is x y e = cc

tag_ok : (a b : Bool) (rest : List ℕ) (x : Unit {0} × List ℕ) → cond a (Err Short) (cond b (done (tt, rest)) (Err BadTag)) ≡ Ok x → (a ≡ false) × (rest ≡ x.1)
tag_ok true b rest x e = absurd cc
tag_ok false true rest x e = (refl, ap (λ (p : Unit {0} × List ℕ). p.1) (ok_is (tt, rest) x e))
tag_ok false false rest x e = absurd cc

both_are : (p : List Entry × List ℕ) (entries : List Entry) (rest : List ℕ) → p.0 ≡ entries → p.1 ≡ rest → p ≡ (entries, rest)
both_are p entries rest one other = ap (λ (es : List Entry). (es, p.1)) one ∙ ap (λ (bytes : List ℕ). (entries, bytes)) other

-- ---- the text of a directory has 6 bytes exactly where it is empty

abbrev rows_of : List ℕ → List ℕ
rows_of text = drop 2 (drop 4 text)

rows_read : (text : List ℕ) (entries : List Entry) → whole directory text ≡ Ok entries → (6 ≤ length text) × ((n : ℕ) × (read_rows (after_row entry) n None (rows_of text) ≡ Ok (entries, [])))
rows_read text entries e =
    let a = bind_ok (directory.read text) (λ (y : List Entry × List ℕ). cond (ends y.1) (Ok y.0) (Err Trailing)) entries e in
    let all = pass_ok (ends a.0.1) Trailing a.0.0 entries a.2 in
    let nothing : a.0.1 ≡ [] = nil_from_length a.0.1 (eqb-true _ _ all.0) in
    let b = bind_ok ((tagged (codes "SDI1")).read text) (λ (u : Unit {0} × List ℕ). (listed (uint_in w16 0 1024) entry).read u.1) a.0 a.1 in
    let tag = tag_ok (nat_lt (length text) 4) (starts_with nat_eq text (codes "SDI1")) (drop 4 text) b.0 b.1 in
    let c = bind_ok ((followed (uint_in w16 0 1024) (rows entry)).read b.0.1) (λ (z : (ℕ × List Entry) × List ℕ). Ok (z.0.1, z.1)) a.0 b.2 in
    let d = bind_ok ((uint_in w16 0 1024).read b.0.1) (λ (x : ℕ × List ℕ). read_rows (after_row entry) x.0 None x.1 >>= λ y. Ok ((x.0, y.0), y.1)) c.0 c.1 in
    let f = bind_ok (read_rows (after_row entry) d.0.0 None d.0.1) (λ (y : List Entry × List ℕ). Ok ((d.0.0, y.0), y.1)) c.0 d.2 in
    let h = bind_ok ((uint w16).read b.0.1) (λ (x : ℕ × List ℕ). cond (nat_le 0 x.0 && nat_le x.0 1024) (Ok x) (Err Range)) d.0 d.1 in
    let in_range = pass_ok (nat_le 0 h.0.0 && nat_le h.0.0 1024) Range h.0 d.0 h.2 in
    let count = guard_ok (nat_lt (length b.0.1) 2) Short (from_be_bytes w16 (take 2 b.0.1), drop 2 b.0.1) h.0 h.1 in
    let left : drop 2 (drop 4 text) ≡ d.0.1 = ap (drop 2) tag.1 ∙ ap (λ (p : ℕ × List ℕ). p.1) (count.1 ∙ in_range.1) in
    let made = ok_is ((d.0.0, f.0.0), f.0.1) c.0 f.2 in
    let given = ok_is (c.0.0.1, c.0.1) a.0 c.2 in
    let after_count : f.0 ≡ (c.0.0.1, c.0.1) = ap (λ (z : (ℕ × List Entry) × List ℕ). (z.0.1, z.1)) made in
    let same : f.0 ≡ (entries, []) = after_count ∙ given ∙ both_are a.0 entries [] all.1 nothing in
    let long : 6 ≤ length text = omega (arith, ltb-false _ _ tag.0, ltb-false _ _ count.0, ap length tag.1, length-drop 4 text) in
    (long, (d.0.0, ap (read_rows (after_row entry) d.0.0 None) left ∙ f.1 ∙ ap (λ (p : List Entry × List ℕ). done p) same))

no_rows : (n : ℕ) (bytes : List ℕ) → read_rows (after_row entry) n None bytes ≡ Ok ([], []) → bytes ≡ []
unfolding read_rows
no_rows zero bytes e = ap (λ (p : List Entry × List ℕ). p.1) (ok_is ([], bytes) ([], []) e)
no_rows (suc n) bytes e =
    let a = bind_ok ((entry None).read bytes) (λ (x : Entry × List ℕ). read_rows (after_row entry) n (Some x.0) x.1 >>= λ xs. Ok (x.0 ∷ xs.0, xs.1)) ([], []) e in
    let b = bind_ok (read_rows (after_row entry) n (Some a.0.0) a.0.1) (λ (xs : List Entry × List ℕ). Ok (a.0.0 ∷ xs.0, xs.1)) ([], []) a.2 in
    let clash = ap (λ (p : List Entry × List ℕ). p.0) (ok_is (a.0.0 ∷ b.0.0, b.0.1) ([], []) b.2) in
    absurd cc

no_bytes : (n : ℕ) (entries : List Entry) → read_rows (after_row entry) n None [] ≡ Ok (entries, []) → entries ≡ []
unfolding read_rows
no_bytes zero entries e = sym (ap (λ (p : List Entry × List ℕ). p.0) (ok_is ([], []) (entries, []) e))
no_bytes (suc n) entries e = absurd cc

pub empty_at_6 : (text : List ℕ) (entries : List Entry) → whole directory text ≡ Ok entries → (entries ≡ []) ↔ (length text ≡ 6)
empty_at_6 text entries e =
    let read = rows_read text entries e in (
      λ none.
          let bytes = no_rows read.1.0 (rows_of text) (subst (λ (es : List Entry). read_rows (after_row entry) read.1.0 None (rows_of text) ≡ Ok (es, [])) none read.1.1) in
          omega (arith, read.0, ap length bytes, length-drop 2 (drop 4 text), length-drop 4 text),
      λ size.
          let bytes : rows_of text ≡ [] = nil_from_length (rows_of text) (omega (arith, size, length-drop 2 (drop 4 text), length-drop 4 text)) in
          no_bytes read.1.0 entries (subst (λ (bs : List ℕ). read_rows (after_row entry) read.1.0 None bs ≡ Ok (entries, [])) bytes read.1.1),
    )

-- ---- a content for an i-node

abbrev an_entry : Entry
an_entry = record { name = []; target = record { principal = 0; i_number = 1 } }

abbrev listed_of : ℕ → Option (List Entry) → List Entry
listed_of size (Some found) = found
listed_of size None = if size == 6 then [] else an_entry ∷ []

abbrev bytes_of : ℕ → Option (List ℕ) → List ℕ
bytes_of size (Some found) = found
bytes_of size None = replicate size 0

abbrev content_over : Blocks → Inode → Kind → Content
content_over blocks n kinds.File = File (bytes_of n.size (file_over blocks n))
content_over blocks n kinds.Directory = Directory (listed_of n.size (directory_over blocks n))

then_some : {A B : Type 0} (f : A → Option B) (x : Option A) (y : B) → option_and_then f x ≡ Some y → (z : A) × (f z ≡ Some y)
then_some f None y e = absurd cc
then_some f (Some z) y e = (z, e)

sized_bytes : (t : Bool) (bytes found : List ℕ) → (if t then Some bytes else None) ≡ Some found → (t ≡ true) × (bytes ≡ found)
sized_bytes true bytes found e = (refl, cc)
sized_bytes false bytes found e = absurd cc

bytes_sized : (size : ℕ) (bytes found : List ℕ) → if_of_size size bytes ≡ Some found → length found ≡ size
bytes_sized size bytes found e = let s = sized_bytes (length bytes == size) bytes found e in ap length (sym s.1) ∙ eqb-true (length bytes) size s.0

sized_text : (t : Bool) (r : Result (List Entry) ReadError) (found : List Entry) → (if t then result_ok r else None) ≡ Some found → (t ≡ true) × (r ≡ Ok found)
sized_text true (Ok entries) found e = let same : entries ≡ found = cc in (refl, ap (λ (es : List Entry). done es) same)
sized_text true (Err d) found e = absurd cc
sized_text false r found e = absurd cc

text_sized : (size : ℕ) (text : List ℕ) (found : List Entry) → of_size directory size text ≡ Some found → (found ≡ []) ↔ (size ≡ 6)
text_sized size text found e =
    let s = sized_text (length text == size) (whole directory text) found e in
    subst (λ (n : ℕ). (found ≡ []) ↔ (n ≡ 6)) (eqb-true (length text) size s.0) (empty_at_6 text found s.1)

bytes_fit : (blocks : Blocks) (n : Inode) (over : Option (List ℕ)) → over ≡ file_over blocks n → length (bytes_of n.size over) ≡ n.size
bytes_fit blocks n None is = length-replicate n.size 0
bytes_fit blocks n (Some found) is = let text = then_some (if_of_size n.size) (joined blocks n.blocks) found (sym is) in bytes_sized n.size text.0 found text.1

one_or_none : (size : ℕ) (t : Bool) → (size == 6) ≡ t → ((if t then [] else an_entry ∷ []) ≡ []) ↔ (size ≡ 6)
one_or_none size true is = (λ none. eqb-true size 6 is, λ six. refl)
one_or_none size false is = (λ none. absurd cc, λ six. let clash = sym is ∙ eq-eqb size 6 six in absurd cc)

listed_fits : (blocks : Blocks) (n : Inode) (over : Option (List Entry)) → over ≡ directory_over blocks n → (listed_of n.size over ≡ []) ↔ (n.size ≡ 6)
listed_fits blocks n None is = one_or_none n.size (n.size == 6) refl
listed_fits blocks n (Some found) is = let text = then_some (of_size directory n.size) (joined blocks n.blocks) found (sym is) in text_sized n.size text.0 found text.1

is_over : (blocks : Blocks) (n : Inode) (k : Kind) → n.kind ≡ k → IsOf blocks n (content_over blocks n k)
is_over blocks n kinds.File is = (is, bytes_fit blocks n (file_over blocks n) refl, λ found at. sym (ap (bytes_of n.size) at))
is_over blocks n kinds.Directory is = (is, listed_fits blocks n (directory_over blocks n) refl, λ found at. sym (ap (listed_of n.size) at))

abbrev content_if : Blocks → Option Inode → Content
content_if blocks None = File []
content_if blocks (Some n) = content_over blocks n n.kind

-- what is told, or that nothing is there
abbrev if_told : Option (Option (List ℕ)) → Option (List ℕ)
if_told None = None
if_told (Some told) = told

pub some_reading : (blocks : Blocks) → (reads : Reading) × Agrees blocks reads
some_reading blocks = (
  record { content = λ digest. content_if blocks (inode_at blocks digest); inode = λ p handle i. if_told (inode_told blocks p handle i) },
  record {
    contents = λ digest n at. subst (IsOf blocks n) (sym (ap (content_if blocks) at)) (is_over blocks n n.kind refl);
    inodes = λ p handle i told is. ap if_told is;
  },
)
