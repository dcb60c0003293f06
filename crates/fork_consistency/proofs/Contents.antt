-- A file that was laid out among texts: what its i-node's digest stands for is the same by each reading of these texts.
use Rattle.std.proofs.Common.{◌≡◌, ℕ, zero, suc, ◌+◌, ◌*◌, ◌-◌, Bool, true, false, ◌==◌, ◌&&◌, List, [], ◌∷◌, ◌++◌, length, Option, Some, None, Result, Ok, Err, refl, sym, ap, ◌∙◌, subst, if◌then◌else◌, arith}
use Rattle.std.specs.Prelude.{codes, min, nat_le}
use Rattle.std.specs.Int.{w16}
use Rattle.std.specs.Option.{option_and_then, option_map_or}
use Rattle.std.specs.Result.{result_ok}
use Rattle.std.specs.Str.{bytes_eq}
use Rattle.std.proofs.lemmas.Bool.{and_parts, eq-eqb, eqb-true, leb-true}
use Rattle.std.proofs.lemmas.List.{length-append}
use Rattle.std.proofs.lemmas.Slice.Eq.{bytes_eq-Decides}
use Rattle.layout.specs.declared.error.ReadError.{ReadError}
use Rattle.layout.specs.declared.error.ReadError.TheVariants.{Range, Trailing}
use Rattle.layout.specs.Format.{Format, Rows, ◌>>=◌, after_row, ends, followed, guarded, headed, mapped, raw, read_rows, rows_from, tagged, uint, uint_in, whole}
use Rattle.layout.specs.Hash.{hash}
use Rattle.layout.specs.Types.{Bytes, Digest}
use Rattle.itable.specs.declared.inode.Kind.{Kind}
use Rattle.itable.specs.declared.inode.Kind.TheVariants as kinds
use Rattle.itable.specs.File.{NoneCollide}
use Rattle.itable.specs.Inode.{Inode, block_count, digests, inode, kind, size}
use Rattle.update_cert.specs.Reading.{Reading}
use Rattle.update_cert.specs.World.{File}
use Rattle.tree_parts.specs.Blocks.{Agrees, file_over, if_of_size, inode_at, joined}
use Rattle.tree_parts.specs.Spot.{is_of_file, size_of_block}
use Rattle.tree_parts.proofs.Contents.{file_is}
use Rattle.client_verify.specs.Laid.{are_blocks_laid, has_text, is_file_laid, is_whole_file}
use Rattle.agreement.proofs.Members.{In}
use Rattle.agreement.proofs.Tests.{any_in}
use Rattle.fork_consistency.proofs.Among.{found}
use Rattle.fork_consistency.specs.Handles.{told_by_texts}

-- ---- what reading an i-node tells, whatever the bytes are

bind_ok : {A B : Type 0} (r : Result A ReadError) (f : A → Result B ReadError) (y : B) → (r >>= f) ≡ Ok y → (x : A) × (r ≡ Ok x) × (f x ≡ Ok y)
bind_ok (Ok x) f y e = (x, refl, e)
bind_ok (Err d) f y e = absurd (cc e)

pass_ok : {A : Type 0} (b : Bool) (d : ReadError) (x y : A) → (if b then Ok x else Err d) ≡ Ok y → (b ≡ true) × (x ≡ y)
pass_ok true d x y e = (refl, cc e)
pass_ok false d x y e = absurd (cc e)

rows_length : {A : Type 0} (rows : Rows (Option A) A) (n : ℕ) (s : Option A) (bytes : Bytes) (x : List A × Bytes) → read_rows rows n s bytes ≡ Ok x → length x.0 ≡ n
unfolding read_rows
rows_length {A} rows zero s bytes x e =
    let none : List A × Bytes = ([], bytes) in
    let same : none ≡ x = cc e in
    ap (λ (y : List A × Bytes). length y.0) (sym same)
rows_length {A} rows (suc n) s bytes x e =
    let a = bind_ok ((rows.row s).read bytes) (λ (y : A × Bytes). read_rows rows n (rows.next s y.0) y.1 >>= λ ys. Ok (y.0 ∷ ys.0, ys.1)) x e in
    let b = bind_ok (read_rows rows n (rows.next s a.0.0) a.0.1) (λ (ys : List A × Bytes). Ok (a.0.0 ∷ ys.0, ys.1)) x a.2 in
    let more : List A × Bytes = (a.0.0 ∷ b.0.0, b.0.1) in
    let same : more ≡ x = cc b.2 in
    ap (λ (y : List A × Bytes). length y.0) {x = x} {y = more} (sym {a = more} same) ∙ ap (λ (k : ℕ). suc k) (rows_length rows n (rows.next s a.0.0) a.0.1 b.0 b.1)

-- what holds of each value that is read in a format
abbrev Tells : {A : Type 0} → Format A → (A → Type 0) → Type 0
Tells {A} f P = (bytes : Bytes) (x : A × Bytes) → f.read bytes ≡ Ok x → P x.0

any : {A : Type 0} (f : Format A) → Tells f (λ x. Unit {0})
any f bytes x e = tt

tells_guarded : {A : Type 0} (f : Format A) (test : A → Bool) (fault : ReadError) → Tells (guarded f test fault) (λ x. test x ≡ true)
tells_guarded {A} f test fault bytes x e =
    let a = bind_ok (f.read bytes) (λ (y : A × Bytes). if test y.0 then Ok y else Err fault) x e in
    let b = pass_ok (test a.0.0) fault a.0 x a.2 in
    ap (λ (y : A × Bytes). test y.0) (sym b.1) ∙ b.0

tells_followed : {A B : Type 0} (f : Format A) (g : A → Format B) (P : A → Type 0) (Q : A → B → Type 0) → Tells f P → ((x : A) → Tells (g x) (Q x)) → Tells (followed f g) (λ p. P p.0 × Q p.0 p.1)
tells_followed {A} {B} f g P Q first later bytes x e =
    let a = bind_ok (f.read bytes) (λ (y : A × Bytes). (g y.0).read y.1 >>= λ z. Ok ((y.0, z.0), z.1)) x e in
    let b = bind_ok ((g a.0.0).read a.0.1) (λ (z : B × Bytes). Ok ((a.0.0, z.0), z.1)) x a.2 in
    let made : (A × B) × Bytes = ((a.0.0, b.0.0), b.0.1) in
    let same : made ≡ x = cc b.2 in
    subst (λ (y : (A × B) × Bytes). P y.0.0 × Q y.0.0 y.0.1) same (first bytes a.0 a.1, later a.0.0 a.0.1 b.0 b.1)

tells_mapped : {A B : Type 0} (f : Format A) (to : A → B) (from : B → A) (P : A → Type 0) (R : B → Type 0) → Tells f P → ((x : A) → P x → R (to x)) → Tells (mapped to from f) R
tells_mapped {A} {B} f to from P R told moves bytes x e =
    let a = bind_ok (f.read bytes) (λ (y : A × Bytes). Ok (to y.0, y.1)) x e in
    let made : B × Bytes = (to a.0.0, a.0.1) in
    let same : made ≡ x = cc a.2 in
    subst (λ (y : B × Bytes). R y.0) same (moves a.0.0 (told bytes a.0 a.1))

tells_headed : {A : Type 0} (tag : Bytes) (f : Format A) (P : A → Type 0) → Tells f P → Tells (headed tag f) P
tells_headed tag f P told bytes x e =
    let a = bind_ok ((tagged tag).read bytes) (λ (t : Unit {0} × Bytes). f.read t.1) x e in
    told a.0.1 x a.2

tells_rows : {A : Type 0} (rows : Rows (Option A) A) (s : Option A) (n : ℕ) → Tells (rows_from rows s n) (λ xs. length xs ≡ n)
tells_rows rows s n bytes x e = rows_length rows n s bytes x e

whole_tells : {A : Type 0} (f : Format A) (P : A → Type 0) → Tells f P → (bytes : Bytes) (x : A) → whole f bytes ≡ Ok x → P x
whole_tells {A} f P told bytes x e =
    let a = bind_ok (f.read bytes) (λ (y : A × Bytes). if ends y.1 then Ok y.0 else Err Trailing) x e in
    let b = pass_ok (ends a.0.1) Trailing a.0.0 x a.2 in
    subst P b.1 (told bytes a.0 a.1)

same_number : (m n : ℕ) → (nat_le m n && nat_le n m) ≡ true → n ≡ m
same_number m n e =
    let both = and_parts (nat_le m n) (nat_le n m) e in
    let low = leb-true m n both.0 in
    let high = leb-true n m both.1 in
    omega arith

digests_told : (count : ℕ) → Tells (digests count) (λ ds. length ds ≡ count)
digests_told count =
    tells_mapped (followed (uint_in w16 count count) (λ m. rows_from (after_row (λ _. raw 32)) None m)) (λ p. p.1) (λ ds. (length ds, ds)) (λ p. ((nat_le count p.0 && nat_le p.0 count) ≡ true) × (length p.1 ≡ p.0)) (λ ds. length ds ≡ count)
    (tells_followed (uint_in w16 count count) (λ m. rows_from (after_row (λ _. raw 32)) None m) (λ m. (nat_le count m && nat_le m count) ≡ true) (λ m ds. length ds ≡ m)
    (tells_guarded (uint w16) (λ m. nat_le count m && nat_le m count) Range) (λ m. tells_rows (after_row (λ _. raw 32)) None m))
    (λ p told. told.1 ∙ same_number count p.0 told.0)

-- an i-node that is read has as many blocks as its size takes
pub count_told : (text : Bytes) (n : Inode) → whole inode text ≡ Ok n → length n.blocks ≡ block_count n.size
count_told =
    whole_tells inode (λ n. length n.blocks ≡ block_count n.size)
    (tells_headed (codes "SIN1") (mapped to from (followed kind (λ k. followed (size k) (λ b. digests (block_count b))))) (λ n. length n.blocks ≡ block_count n.size)
    (tells_mapped (followed kind (λ k. followed (size k) (λ b. digests (block_count b)))) to from (λ p. Unit {0} × (Unit {0} × (length p.1.1 ≡ block_count p.1.0))) (λ n. length n.blocks ≡ block_count n.size)
    (tells_followed kind (λ k. followed (size k) (λ b. digests (block_count b))) (λ k. Unit {0}) (λ k p. Unit {0} × (length p.1 ≡ block_count p.0)) (any kind)
    (λ k. tells_followed (size k) (λ b. digests (block_count b)) (λ b. Unit {0}) (λ b ds. length ds ≡ block_count b) (any (size k)) (λ b. digests_told (block_count b))))
    (λ p told. told.1.1)))
  where
    to : Kind × (ℕ × List Digest) → Inode
    to p = record { kind = p.0; size = p.1.0; blocks = p.1.1 }

    from : Inode → Kind × (ℕ × List Digest)
    from i = (i.kind, (i.size, i.blocks))

-- ---- the blocks of a file that was laid out

next_place : (whole k n a b c : ℕ) → a ≡ min 4096 (whole - 4096 * k) → b + min (4096 * (k + 1)) whole ≡ min (4096 * (k + 1 + n)) whole → c ≡ a + b → c + min (4096 * k) whole ≡ min (4096 * (k + suc n)) whole
next_place whole k n a b c here later both = omega (arith, here, later, both)

all_places : (whole n a : ℕ) → n ≡ block_count whole → a + min (4096 * 0) whole ≡ min (4096 * (0 + n)) whole → a ≡ whole
all_places whole n a count is = omega (arith, count, is)

module _ (texts : List Bytes) (apart : NoneCollide texts texts) (laid : List Bytes) (inside : (t : Bytes) → In t laid → In t texts) where
  -- the blocks make as many bytes as they are to
  record IsJoined (whole k : ℕ) (ds : List Digest) : Type 0 where
    pub bytes : Bytes
    pub are : joined (told_by_texts texts) ds ≡ Some bytes
    pub long : length bytes + min (4096 * k) whole ≡ min (4096 * (k + length ds)) whole

  joined_laid : (whole k : ℕ) (ds : List Digest) → are_blocks_laid laid whole k ds ≡ true → IsJoined whole k ds
  unfolding are_blocks_laid joined
  joined_laid whole k [] are = record { bytes = []; are = refl; long = omega arith }
  joined_laid whole k (d ∷ ds) are =
      let both = and_parts (has_text laid d (size_of_block whole k)) (are_blocks_laid laid whole (k + 1) ds) are in
      let (t, i, tests) = any_in (λ text. bytes_eq (hash text) d && (length text == size_of_block whole k)) laid both.0 in
      let of = and_parts (bytes_eq (hash t) d) (length t == size_of_block whole k) tests in
      let held : told_by_texts texts d ≡ Some t = found texts apart t d (inside t i) ((bytes_eq-Decides (hash t) d).0 of.0) in
      let long = eqb-true (length t) (size_of_block whole k) of.1 in
      let rest = joined_laid whole (k + 1) ds both.1 in
      record {
        bytes = t ++ rest.bytes;
        are = rw (held, rest.are) refl;
        long = next_place whole k (length ds) (length t) (length rest.bytes) (length (t ++ rest.bytes)) long rest.long (length-append t rest.bytes);
      }

  -- what the digest stands for
  pub record IsFile (digest : Digest) : Type 0 where
    pub bytes : Bytes
    pub told : option_and_then (file_over (told_by_texts texts)) (inode_at (told_by_texts texts) digest) ≡ Some bytes
    pub stands : (reads : Reading) → Agrees (told_by_texts texts) reads → reads.content digest ≡ File bytes

  pub file_laid : (digest : Digest) → is_file_laid laid digest ≡ true → IsFile digest
  file_laid digest is =
      let (text, i, tests) = any_in (λ text. bytes_eq (hash text) digest && is_whole_file laid text) laid is in
      let of = and_parts (bytes_eq (hash text) digest) (is_whole_file laid text) tests in
      let held : told_by_texts texts digest ≡ Some text = found texts apart text digest (inside text i) ((bytes_eq-Decides (hash text) digest).0 of.0) in
      go text held (whole inode text) refl of.1
    where
      kind_is : (k : Kind) → is_of_file k ≡ true → k ≡ kinds.File
      kind_is kinds.File e = refl
      kind_is kinds.Directory e = absurd (cc e)

      go : (text : Bytes) → told_by_texts texts digest ≡ Some text → (r : Result Inode ReadError) → whole inode text ≡ r → option_map_or (λ n. is_of_file n.kind && are_blocks_laid laid n.size 0 n.blocks) (result_ok r) false ≡ true → IsFile digest
      go text held (Err e) read none = absurd (cc none)
      go text held (Ok n) read both =
          let parts = and_parts (is_of_file n.kind) (are_blocks_laid laid n.size 0 n.blocks) both in
          let j = joined_laid n.size 0 n.blocks parts.1 in
          let long : length j.bytes ≡ n.size = all_places n.size (length n.blocks) (length j.bytes) (count_told text n read) j.long in
          let over : file_over (told_by_texts texts) n ≡ Some j.bytes = ap (option_and_then (if_of_size n.size)) j.are ∙ (rw (eq-eqb (length j.bytes) n.size long) refl) in
          let there : inode_at (told_by_texts texts) digest ≡ Some n = ap (option_and_then (λ x. result_ok (whole inode x))) held ∙ ap result_ok read in
          record { bytes = j.bytes; told = ap (option_and_then (file_over (told_by_texts texts))) there ∙ over; stands = λ reads agrees. file_is (told_by_texts texts) reads digest j.bytes n agrees there (kind_is n.kind parts.0) over }
