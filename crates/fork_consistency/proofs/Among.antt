-- Blocks that are among texts no two of which have one digest: what they tell is told by all of these texts.
use Rattle.std.proofs.Common.{◌≡◌, Bool, true, false, ◌==◌, List, [], ◌∷◌, ◌++◌, find, Option, Some, None, refl, sym, ap, ◌∙◌, subst, inl, inr, if◌then◌else◌}
use Rattle.std.specs.Prelude.{MatchBool}
use Rattle.std.specs.Option.{option_and_then, option_map}
use Rattle.std.specs.Result.{result_ok}
use Rattle.std.specs.Str.{bytes_eq}
use Rattle.std.proofs.lemmas.Bool.Decides.{not_from_Decides}
use Rattle.std.proofs.lemmas.Slice.Eq.{bytes_eq-Decides}
use Rattle.layout.specs.Format.{whole}
use Rattle.layout.specs.Hash.{hash}
use Rattle.layout.specs.Types.{Bytes, Digest, Handle, INumber, Principal}
use Rattle.itable.specs.File.{NoneCollide}
use Rattle.itable.specs.Inode.{Inode, inode}
use Rattle.itable.specs.Chunk.{Chunk, chunk, chunk_number}
use Rattle.itable.specs.ITable.{digest_in}
use Rattle.itable.specs.Root.{Root, root, chunk_at}
use Rattle.itable.specs.declared.root.ListedChunk.{ListedChunk}
use Rattle.update_cert.specs.World.{Content, File, Directory, Principals}
use Rattle.update_cert.specs.Reading.{Reading}
use Rattle.tree_parts.specs.Blocks.{Agrees, Blocks, IsHeld, IsOf, chunk_held, if_of_size, inode_at, inode_told, joined, root_at, told_by, told_under}
use Rattle.client_tree.specs.Held.{Block, held, keeping, keeping_all}
use Rattle.checked_blocks.specs.CheckedBlocks.{CheckedBlocks, Keeps, KnowsPart, LetsGo, TakesUp, holding as with_held, known_blocks}
use Rattle.checked_blocks.proofs.BlockLaws.{with_new as known_new, with_none as known_none, with_old as known_old}
use Rattle.client_verify.specs.State.{State}
use Rattle.client_verify.specs.Holding.{HoldsMeanwhile, LaysOut, is_under_way}
use Rattle.client_tree.proofs.HeldLaws.{with_new, with_none, with_old}
use Rattle.agreement.proofs.Members.{In, contains_in, in_contains}

-- the text of a digest among these
abbrev pub of_texts : List Bytes → Blocks
of_texts texts digest = find (λ t. bytes_eq (hash t) digest) texts

-- what is held is one of the texts, under its digest
abbrev pub AreAmong : List Bytes → Blocks → Type 0
AreAmong texts blocks = (digest text : Bytes) → blocks digest ≡ Some text → In text texts × (hash text ≡ digest)

-- what the one tells the other tells
abbrev pub AreWithin : Blocks → Blocks → Type 0
AreWithin some all = (digest text : Bytes) → some digest ≡ Some text → all digest ≡ Some text

-- ---- held among texts

found_in : (texts : List Bytes) → ((a b : Bytes) → In a texts → In b texts → hash a ≡ hash b → a ≡ b) → (text digest : Bytes) → In text texts → hash text ≡ digest → of_texts texts digest ≡ Some text
found_in [] apart text digest i same = absurd i
found_in (t ∷ ts) apart text digest i same = go (bytes_eq (hash t) digest) refl (λ j. found_in ts (λ a b k l. apart a b (inr k) (inr l)) text digest j same)
  where
    later : bytes_eq (hash t) digest ≡ false → In text (t ∷ ts) → In text ts
    later other (inl e) = absurd (not_from_Decides _ (bytes_eq-Decides (hash t) digest) other (ap hash (sym e) ∙ same))
    later other (inr j) = j

    go : (b : Bool) → bytes_eq (hash t) digest ≡ b → (In text ts → of_texts ts digest ≡ Some text) → (if b then Some t else of_texts ts digest) ≡ Some text
    go true is ih = ap (λ (x : Bytes). Some x) (apart t text (inl refl) i ((bytes_eq-Decides (hash t) digest).0 is ∙ sym same))
    go false other ih = ih (later other i)

module _ (texts : List Bytes) (apart : NoneCollide texts texts) where
  pub found : (text digest : Bytes) → In text texts → hash text ≡ digest → of_texts texts digest ≡ Some text
  found = found_in texts (λ a b i j. apart a b (in_contains a texts i) (in_contains b texts j))

  pub all_held : (text : Bytes) → In text texts → IsHeld (of_texts texts) text
  all_held text i = found text (hash text) i refl

  pub are_within : (blocks : Blocks) → AreAmong texts blocks → AreWithin blocks (of_texts texts)
  are_within blocks among digest text is = let a = among digest text is in found text digest a.0 a.1

-- each of them is one of the texts
pub of_are_among : (texts : List Bytes) → AreAmong texts (of_texts texts)
of_are_among [] digest text is = absurd (cc is)
of_are_among (t ∷ ts) digest text is = go (bytes_eq (hash t) digest) refl is (of_are_among ts digest text)
  where
    go : (b : Bool) → bytes_eq (hash t) digest ≡ b → (if b then Some t else of_texts ts digest) ≡ Some text → (of_texts ts digest ≡ Some text → In text ts × (hash text ≡ digest)) → In text (t ∷ ts) × (hash text ≡ digest)
    go true same e ih = let one : t ≡ text = cc e in (inl (sym one), ap hash (sym one) ∙ (bytes_eq-Decides (hash t) digest).0 same)
    go false other e ih = let r = ih e in (inr r.0, r.1)

-- ---- what is held

pub among_none : (texts : List Bytes) → AreAmong texts (held [])
unfolding held
among_none texts digest text is = absurd (cc is)

pub among_listed : (texts : List Bytes) (blocks : List Block) (text : Bytes) → In text texts → AreAmong texts (held blocks) → AreAmong texts (held (keeping blocks text))
among_listed texts blocks text inside among d x is = go (held blocks d) refl
  where
    fresh : held blocks d ≡ None → (b : Bool) → bytes_eq d (hash text) ≡ b → In x texts × (hash x ≡ d)
    fresh none true same =
        let at : d ≡ hash text = (bytes_eq-Decides d (hash text)).0 same in
        let one : Some text ≡ Some x = with_new blocks text d none at ∙ is in
        let found : text ≡ x = cc one in
        subst (λ (y : Bytes). In y texts × (hash y ≡ d)) found (inside, sym at)
    fresh none false other =
        let clash : None ≡ Some x = with_none blocks text d none (not_from_Decides _ (bytes_eq-Decides d (hash text)) other) ∙ is in
        absurd (cc clash)

    go : (o : Option Bytes) → held blocks d ≡ o → In x texts × (hash x ≡ d)
    go (Some y) was =
        let one : Some y ≡ Some x = with_old blocks text d y was ∙ is in
        among d x (was ∙ one)
    go None none = fresh none (bytes_eq d (hash text)) refl

pub among_all_kept : (texts : List Bytes) (blocks : List Block) (more : List Bytes) → ((t : Bytes) → In t more → In t texts) → AreAmong texts (held blocks) → AreAmong texts (held (keeping_all blocks more))
unfolding keeping_all
among_all_kept texts blocks [] inside among = among
among_all_kept texts blocks (t ∷ ts) inside among = among_all_kept texts (keeping blocks t) ts (λ x i. inside x (inr i)) (among_listed texts blocks t (inside t (inl refl)) among)

within_kept : (blocks : List Block) (text : Bytes) → AreWithin (held blocks) (held (keeping blocks text))
within_kept blocks text d x is = sym (with_old blocks text d x is)

pub within_all_kept : (blocks : List Block) (more : List Bytes) → AreWithin (held blocks) (held (keeping_all blocks more))
unfolding keeping_all
within_all_kept blocks [] d x is = is
within_all_kept blocks (t ∷ ts) d x is = within_all_kept (keeping blocks t) ts d x (within_kept blocks t d x is)

-- ---- what is known of checked blocks

-- where each text was known before
pub among_part : (texts : List Bytes) (old new : CheckedBlocks) → AreAmong texts (known_blocks old) → KnowsPart old new → AreAmong texts (known_blocks new)
among_part texts old new among part d x is = among d x (part d x is)

-- where the same is known
pub among_same : (texts : List Bytes) (old new : CheckedBlocks) → AreAmong texts (known_blocks old) → known_blocks new ≡ known_blocks old → AreAmong texts (known_blocks new)
among_same texts old new among same = subst (AreAmong texts) (sym same) among

-- where a text is held
pub among_kept : (texts : List Bytes) (blocks : CheckedBlocks) (text : Bytes) → In text texts → AreAmong texts (known_blocks blocks) → AreAmong texts (known_blocks (with_held blocks text))
among_kept texts blocks text inside among d x is = go (known_blocks blocks d) refl
  where
    fresh : known_blocks blocks d ≡ None → (b : Bool) → bytes_eq d (hash text) ≡ b → In x texts × (hash x ≡ d)
    fresh none true same =
        let at : d ≡ hash text = (bytes_eq-Decides d (hash text)).0 same in
        let one : Some text ≡ Some x = known_new blocks text d none at ∙ is in
        let found : text ≡ x = cc one in
        subst (λ (y : Bytes). In y texts × (hash y ≡ d)) found (inside, sym at)
    fresh none false other =
        let clash : None ≡ Some x = known_none blocks text d none (not_from_Decides _ (bytes_eq-Decides d (hash text)) other) ∙ is in
        absurd (cc clash)

    go : (o : Option Bytes) → known_blocks blocks d ≡ o → In x texts × (hash x ≡ d)
    go (Some y) was =
        let one : Some y ≡ Some x = known_old blocks text d y was ∙ is in
        among d x (was ∙ one)
    go None none = fresh none (bytes_eq d (hash text)) refl

-- where texts are kept
among_keeps : (texts : List Bytes) (old : CheckedBlocks) (more : List Bytes) (new : CheckedBlocks) → ((t : Bytes) → In t more → In t texts) → AreAmong texts (known_blocks old) → Keeps old more new → AreAmong texts (known_blocks new)
among_keeps texts old more new inside among kept d x is = elim (kept.known d x is) [
  | inl before ↦ among d x before
  | inr laid ↦ (inside x (contains_in x more laid.0), laid.1)
]

-- where texts were laid out
pub among_laid : (texts : List Bytes) (s : State) (more : List Bytes) (new : CheckedBlocks) → ((t : Bytes) → In t more → In t texts) → AreAmong texts (known_blocks s.blocks) → LaysOut s more new → AreAmong texts (known_blocks new)
among_laid texts s more new inside among kept = go (is_under_way s) kept
  where
    go : (b : Bool) → MatchBool b (new ≡ s.blocks) (Keeps s.blocks more new) → AreAmong texts (known_blocks new)
    go true same = among_same texts s.blocks new among (ap known_blocks same)
    go false kept = among_keeps texts s.blocks more new inside among kept

-- after an answer, while something is under way and once nothing is
pub among_after : (texts : List Bytes) (blocks : CheckedBlocks) (new : State) → AreAmong texts (known_blocks blocks) → HoldsMeanwhile blocks new → AreAmong texts (known_blocks new.blocks)
among_after texts blocks new among h = go (is_under_way new) h
  where
    go : (b : Bool) → MatchBool b (TakesUp blocks new.blocks) (LetsGo blocks new.blocks) → AreAmong texts (known_blocks new.blocks)
    go true taken = among_same texts blocks new.blocks among taken.known
    go false gone = among_part texts blocks new.blocks among gone.known

-- ---- what they tell

module _ (some all : Blocks) (within : AreWithin some all) where
  then_within : {X : Type 0} (f : Bytes → Option X) (digest : Digest) (x : X) → option_and_then f (some digest) ≡ Some x → option_and_then f (all digest) ≡ Some x
  then_within {X} f digest x is = go (some digest) refl is
    where
      go : (o : Option Bytes) → some digest ≡ o → option_and_then f o ≡ Some x → option_and_then f (all digest) ≡ Some x
      go None none e = absurd (cc e)
      go (Some t) there e = ap (option_and_then f) (within digest t there) ∙ e

  pub inode_within : (digest : Digest) (n : Inode) → inode_at some digest ≡ Some n → inode_at all digest ≡ Some n
  inode_within digest n is = then_within (λ text. result_ok (whole inode text)) digest n is

  pub root_within : (handle : Handle) (r : Root) → root_at some handle ≡ Some r → root_at all handle ≡ Some r
  root_within handle r is = then_within (λ text. result_ok (whole root text)) handle r is

  chunk_within : (digest : Digest) (x : Chunk) → chunk_held some digest ≡ Some x → chunk_held all digest ≡ Some x
  chunk_within digest x is = then_within (λ text. result_ok (whole chunk text)) digest x is

  pub joined_within : (ds : List Digest) (bytes : Bytes) → joined some ds ≡ Some bytes → joined all ds ≡ Some bytes
  unfolding joined
  joined_within [] bytes is = is
  joined_within (d ∷ ds) bytes is = go (some d) (joined some ds) refl (joined_within ds) is
    where
      go : (o rest : Option Bytes) → some d ≡ o → ((more : Bytes) → rest ≡ Some more → joined all ds ≡ Some more) → option_and_then (λ text. option_map (λ more. text ++ more) rest) o ≡ Some bytes
          → option_and_then (λ text. option_map (λ more. text ++ more) (joined all ds)) (all d) ≡ Some bytes
      go None rest a ih e = absurd (cc e)
      go (Some t) None a ih e = absurd (cc e)
      go (Some t) (Some more) a ih e = rw (within d t a, ih more refl) e

  over_within : {X : Type 0} (f : Bytes → Option X) (n : Inode) (x : X) → option_and_then f (joined some n.blocks) ≡ Some x → option_and_then f (joined all n.blocks) ≡ Some x
  over_within {X} f n x is = go (joined some n.blocks) refl is
    where
      go : (o : Option Bytes) → joined some n.blocks ≡ o → option_and_then f o ≡ Some x → option_and_then f (joined all n.blocks) ≡ Some x
      go None none e = absurd (cc e)
      go (Some t) there e = ap (option_and_then f) (joined_within n.blocks t there) ∙ e

  of_less : (n : Inode) (c : Content) → IsOf all n c → IsOf some n c
  of_less n (File bytes) is = (is.0, is.1, λ found at. is.2 found (over_within (if_of_size n.size) n found at))
  of_less n (Directory entries) is = (is.0, is.1, λ found at. is.2 found (over_within _ n found at))
  of_less n (Principals t) is = absurd is

  by_within : (i : INumber) (c : Option ListedChunk) (told : Option Digest) → told_by some i c ≡ Some told → told_by all i c ≡ Some told
  by_within i None told is = is
  by_within i (Some c) told is = go (chunk_held some c.digest) refl is
    where
      go : (o : Option Chunk) → chunk_held some c.digest ≡ o → option_map (λ x. digest_in x.pairs i) o ≡ Some told → option_map (λ x. digest_in x.pairs i) (chunk_held all c.digest) ≡ Some told
      go None none e = absurd (cc e)
      go (Some x) there e = ap (option_map (λ (y : Chunk). digest_in y.pairs i)) (chunk_within c.digest x there) ∙ e

  under_within : (p : Principal) (i : INumber) (r : Root) (told : Option Digest) → told_under some p i r ≡ Some told → told_under all p i r ≡ Some told
  under_within p i r told is = go (r.principal == p) is
    where
      go : (b : Bool) → (if b then told_by some i (chunk_at r (chunk_number i)) else None) ≡ Some told → (if b then told_by all i (chunk_at r (chunk_number i)) else None) ≡ Some told
      go true e = by_within i (chunk_at r (chunk_number i)) told e
      go false e = absurd (cc e)

  pub told_within : (p : Principal) (handle : Handle) (i : INumber) (told : Option Digest) → inode_told some p handle i ≡ Some told → inode_told all p handle i ≡ Some told
  told_within p handle i told is = go (root_at some handle) refl is
    where
      go : (o : Option Root) → root_at some handle ≡ o → option_and_then (told_under some p i) o ≡ Some told → option_and_then (told_under all p i) (root_at all handle) ≡ Some told
      go None none e = absurd (cc e)
      go (Some r) there e = ap (option_and_then (told_under all p i)) (root_within handle r there) ∙ under_within p i r told e

  -- so whatever reading agrees with all agrees with some
  pub agrees_within : (reads : Reading) → Agrees all reads → Agrees some reads
  agrees_within reads agrees = record {
    contents = λ digest n at. of_less n (reads.content digest) (agrees.contents digest n (inode_within digest n at));
    inodes = λ p handle i told is. agrees.inodes p handle i told (told_within p handle i told is);
  }
