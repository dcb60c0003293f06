-- What was planned can be declared: its texts were laid out.
use Rattle.std.proofs.Common.{◌≡◌, ◌≤◌, Bool, true, false, ◌||◌, List, [], ◌∷◌, ◌++◌, refl, sym, ap, ◌∙◌, arith, suc, length, subst}
use Rattle.std.specs.Str.{bytes_eq}
use Rattle.std.proofs.lemmas.Slice.Eq.{bytes_eq-Decides}
use Rattle.layout.specs.Types.{Bytes, Digest}
use Rattle.update_cert.specs.Change.{Make, Change}
use Rattle.update_cert.specs.declared.cert.TheConstants.{MOST_CHANGES}
use Rattle.update_cert.specs.World.{File}
use Rattle.client_tree.specs.Genesis.{inode_digest, root_inode}
use Rattle.client_verify.specs.Laid.{are_laid, is_file_laid, is_laid}
use Rattle.client_verify.proofs.LaidLaws.{laid_anywhere}
use Rattle.file_session.specs.Declaring.{content_digest, texts_of_content}
use Rattle.file_session.specs.Parts.{IsSmall, bytes_of, content_of}
use Rattle.file_session.specs.declared.texts.New.{New}
use Rattle.file_session.specs.declared.texts.New.TheVariants as new

same_bytes : (a : Bytes) → bytes_eq a a ≡ true
same_bytes a = (bytes_eq-Decides a a).1 refl

or_true : (b : Bool) → (b || true) ≡ true
or_true true = refl
or_true false = refl

-- a file that was laid out alone
pub file_is_laid : (bytes : Bytes) → IsSmall bytes → is_file_laid (texts_of_content (File bytes)) (content_digest (File bytes)) ≡ true
file_is_laid bytes small = laid_anywhere bytes small (texts_of_content (File bytes)) (0, omega arith, refl) (λ block (k, low, at). (suc k, omega arith, at))

pub made_is_laid : (x : New) → IsSmall (bytes_of x) → is_laid (texts_of_content (content_of x)) (Make (content_digest (content_of x))) ≡ true
made_is_laid (new.File bytes) small = rw (file_is_laid bytes.now small) refl
made_is_laid new.Directory small = rw (same_bytes (inode_digest root_inode)) (or_true (is_file_laid [] (inode_digest root_inode)))

-- ---- lists of one change and of two

pub one_is_laid : (laid : List Bytes) (c : Change Digest) → is_laid laid c.action ≡ true → are_laid laid (c ∷ []) ≡ true
unfolding are_laid
one_is_laid laid c is = rw is refl

pub two_are_laid : (laid : List Bytes) (c d : Change Digest) → is_laid laid c.action ≡ true → is_laid laid d.action ≡ true → are_laid laid (c ∷ d ∷ []) ≡ true
unfolding are_laid
two_are_laid laid c d one other = rw (one, other) refl

-- ---- what is to be written

abbrev AreFew : List (Change Digest) → Type 0
AreFew cs = length cs ≤ MOST_CHANGES

pub begins_one : (laid l : List Bytes) (cs before : List (Change Digest)) (c : Change Digest) → l ≡ laid → before ≡ [] → cs ≡ before ++ c ∷ [] → is_laid laid c.action ≡ true → (length cs ≤ MOST_CHANGES) × (are_laid l cs ≡ true)
begins_one laid l cs before c texts none changes is =
    let only : cs ≡ c ∷ [] = changes ∙ ap (λ (b : List (Change Digest)). b ++ c ∷ []) none in
    (subst AreFew (sym only) (omega arith), ap (λ (t : List Bytes). are_laid t cs) texts ∙ ap (are_laid laid) only ∙ one_is_laid laid c is)

pub begins_two : (laid l : List Bytes) (cs mid before : List (Change Digest)) (c d : Change Digest) → l ≡ laid → before ≡ [] → mid ≡ before ++ c ∷ [] → cs ≡ mid ++ d ∷ [] → is_laid laid c.action ≡ true → is_laid laid d.action ≡ true
    → (length cs ≤ MOST_CHANGES) × (are_laid l cs ≡ true)
begins_two laid l cs mid before c d texts none first second one other =
    let both : cs ≡ c ∷ d ∷ [] = second ∙ ap (λ (b : List (Change Digest)). b ++ d ∷ []) (first ∙ ap (λ (b : List (Change Digest)). b ++ c ∷ []) none) in
    (subst AreFew (sym both) (omega arith), ap (λ (t : List Bytes). are_laid t cs) texts ∙ ap (are_laid laid) both ∙ two_are_laid laid c d one other)

pub nothing_is_laid : (laid : List Bytes) (cs : List (Change Digest)) → cs ≡ [] → are_laid laid cs ≡ true
unfolding are_laid
nothing_is_laid laid cs none = ap (are_laid laid) none
