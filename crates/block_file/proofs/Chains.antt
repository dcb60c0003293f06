-- Chains of blocks, and that a file which ends with some blocks begins with no others.
use Rattle.std.proofs.Common.{◌≡◌, inl, inr, ℕ, ◌+◌, ◌≤◌, List, [], ◌∷◌, ◌++◌, length, take, drop, refl, sym, ◌∙◌, ap, subst, arith, take-append-drop}
use Rattle.std.proofs.lemmas.List.{append_assoc, append-nil, take_at, drop_at, drop-drop, length-append, length-drop, length-take}
use Rattle.block_file.specs.Blocks.{Block, Reaches, Ends, head, spelled, chain, IsBlock, AreBlocks, StartsWith, IsNoBlock, own, Keeps}
use Rattle.block_file.specs.Places.{Place, BeginsAt, StandsAt}
use Rattle.block_file.proofs.Heads.{length-head, length-spelled, one_block, block_tells, spells}

pub chain-append : (bs cs : List Block) → chain (bs ++ cs) ≡ chain bs ++ chain cs
chain-append [] cs = refl
chain-append (b ∷ bs) cs = ap (λ (l : List ℕ). spelled b ++ l) (chain-append bs cs) ∙ sym (append_assoc (spelled b) (chain bs) (chain cs))

pub chain-push : (bs : List Block) (b : Block) (rest : List ℕ) → chain (bs ++ b ∷ []) ++ rest ≡ chain bs ++ (spelled b ++ rest)
chain-push bs b rest =
    ap (λ (l : List ℕ). l ++ rest) (chain-append bs (b ∷ []))
    ∙ append_assoc (chain bs) (chain (b ∷ [])) rest
    ∙ ap (λ (l : List ℕ). chain bs ++ (l ++ rest)) (append-nil (spelled b))

pub all-append : (bs cs : List Block) → AreBlocks bs → AreBlocks cs → AreBlocks (bs ++ cs)
all-append [] cs all more = more
all-append (b ∷ bs) cs all more = (all.0, all-append bs cs all.1 more)

-- a block is no end
not_none : (b : Block) (rest : List ℕ) → IsBlock b → IsNoBlock (spelled b ++ rest) → ⊥
not_none b rest is (inl short) = omega (arith, short, length-append (spelled b) rest, length-spelled b is)
not_none b rest is (inr (inl long)) = omega (arith, long, block_tells b rest is, is.1)
not_none b rest is (inr (inr cut)) = omega (arith, cut, block_tells b rest is, length-append (spelled b) rest, length-spelled b is)

-- what begins with blocks up to where no block begins begins with no others
pub among : (bs front : List Block) (rest tail : List ℕ) → AreBlocks bs → AreBlocks front → IsNoBlock rest → chain bs ++ rest ≡ chain front ++ tail
    → (more : List Block) × (bs ≡ front ++ more)
among bs [] rest tail all all' none is = (bs, refl)
among [] (c ∷ front) rest tail all all' none is =
    absurd (not_none c (chain front ++ tail) all'.0 (subst IsNoBlock (is ∙ append_assoc (spelled c) (chain front) tail) none))
among (b ∷ bs) (c ∷ front) rest tail all all' none is =
    let one = one_block b c (chain bs ++ rest) (chain front ++ tail) all.0 all'.0 (sym (append_assoc (spelled b) (chain bs) rest) ∙ is ∙ append_assoc (spelled c) (chain front) tail) in
    let more = among bs front rest tail all.1 all'.1 none one.1 in
    (more.0, ap (λ (x : Block). x ∷ bs) one.0 ∙ ap (λ (l : List Block). c ∷ l) more.1)

pub begins : (file : List ℕ) (place : ℕ) (bs front : List Block) → Ends file place bs → StartsWith front file → (more : List Block) × (bs ≡ front ++ more)
begins file place bs front ends starts =
    among bs front (drop place file) starts.rest ends.reaches.all starts.all ends.none (sym ends.reaches.split ∙ starts.split)

-- where the same bytes stand before its end, a file keeps what the other does
pub front_of : (file other : List ℕ) (place : ℕ) (bs : List Block) → Reaches file place bs → take place other ≡ take place file → Reaches other place bs
front_of file other place bs reaches same = record {
  split = sym (take-append-drop place other) ∙ ap (λ (l : List ℕ). l ++ drop place other) (same ∙ front);
  size = reaches.size;
  all = reaches.all;
}
  where
    front : take place file ≡ chain bs
    front = ap (λ (l : List ℕ). take place l) reaches.split ∙ take_at (chain bs) (drop place file) place reaches.size

-- of blocks up to a place those at the front
first_of : (front more : List Block) → AreBlocks (front ++ more) → AreBlocks front
first_of [] more all = tt
first_of (b ∷ front) more all = (all.0, first_of front more all.1)

pub starts : (file : List ℕ) (place : ℕ) (bs front more : List Block) → Reaches file place bs → bs ≡ front ++ more → StartsWith front file
starts file place bs front more reaches is = record {
  rest = chain more ++ drop place file;
  split = reaches.split ∙ ap (λ (l : List ℕ). l ++ drop place file) (ap chain is ∙ chain-append front more) ∙ append_assoc (chain front) (chain more) (drop place file);
  all = first_of front more (subst AreBlocks is reaches.all);
}

pub keeps_front : (file other : List ℕ) (place : ℕ) (bs : List Block) → Ends file place bs → take place other ≡ take place file → (text : List ℕ) → Keeps text file → Keeps text other
keeps_front file other place bs ends same text kept =
    let more = begins file place bs (kept.0 ++ own text ∷ []) ends kept.1 in
    (kept.0, starts other place bs (kept.0 ++ own text ∷ []) more.0 (front_of file other place bs ends.reaches same) more.1)

-- one block further
pub further : (file : List ℕ) (from : ℕ) (bs : List Block) (digest : List ℕ) (place : Place) → Reaches file from bs → (begins : BeginsAt file from digest place)
    → Reaches file (place.at + place.size) (bs ++ record { digest = digest; text = begins.text } ∷ [])
further file from bs digest place reaches here = record {
  split = reaches.split ∙ ap (λ (l : List ℕ). chain bs ++ l) here.split ∙ sym (chain-push bs block (drop (place.at + place.size) file));
  size = omega (arith, ap length (chain-append bs (block ∷ [])), length-append (chain bs) (chain (block ∷ [])), length-append (spelled block) [], length-spelled block here.is_block, reaches.size, here.at, here.size);
  all = all-append bs (block ∷ []) reaches.all (here.is_block, tt);
}
  where
    block : Block
    block = record { digest = digest; text = here.text }

-- ---- a block that stands at a place

one_of : (before after : List Block) (b : Block) → AreBlocks (before ++ b ∷ after) → IsBlock b
one_of [] after b all = all.0
one_of (x ∷ before) after b all = one_of before after b all.1

module _ (file : List ℕ) (end : ℕ) (bs : List Block) (place : Place) (b : Block) (reaches : Reaches file end bs) (stands : StandsAt bs place b) where
  abbrev front : List ℕ
  front = chain stands.before

  abbrev after : List ℕ
  after = chain stands.after ++ drop end file

  is_block : IsBlock b
  is_block = one_of stands.before stands.after b (subst AreBlocks stands.split reaches.all)

  chain_is : chain bs ≡ front ++ (spelled b ++ chain stands.after)
  chain_is = ap chain stands.split ∙ chain-append stands.before (b ∷ stands.after)

  parts : file ≡ front ++ (spelled b ++ after)
  parts =
      reaches.split
      ∙ ap (λ (l : List ℕ). l ++ drop end file) chain_is
      ∙ append_assoc front (spelled b ++ chain stands.after) (drop end file)
      ∙ ap (λ (l : List ℕ). front ++ l) (append_assoc (spelled b) (chain stands.after) (drop end file))

  from_text : drop place.at file ≡ b.text ++ after
  from_text =
      ap (λ (k : ℕ). drop k file) stands.at
      ∙ sym (drop-drop 36 (length front) file)
      ∙ ap (λ (l : List ℕ). drop 36 l) (ap (λ (l : List ℕ). drop (length front) l) parts ∙ drop_at front (spelled b ++ after) (length front) refl)
      ∙ ap (λ (l : List ℕ). drop 36 l) (append_assoc (head (length b.text) b.digest) b.text after)
      ∙ drop_at (head (length b.text) b.digest) (b.text ++ after) 36 (length-head (length b.text) b.digest is_block.0)

  pub text_at : take place.size (drop place.at file) ≡ b.text
  text_at = ap (λ (l : List ℕ). take place.size l) from_text ∙ take_at b.text after place.size (sym stands.size)

  pub inside : place.at + place.size ≤ length file
  inside = omega (arith, ap length parts, length-append front (spelled b ++ after), length-append (spelled b) after, length-spelled b is_block, stands.at, stands.size)

-- ---- a block that begins at a place

pub begins_at : (file : List ℕ) (from n : ℕ) (digest : List ℕ) (place : Place) → length digest ≡ 32 → n ≤ 32779 → from + 36 + n ≤ length file → take 36 (drop from file) ≡ head n digest
    → place ≡ record { at = from + 36; size = n } → BeginsAt file from digest place
begins_at file from n digest place wide small fits begins is =
    let size : length (take n (drop (from + 36) file)) ≡ n = omega (arith, length-take n (drop (from + 36) file), length-drop (from + 36) file, fits) in
    subst (λ (p : Place). BeginsAt file from digest p) (sym is) (record {
      at = refl;
      text = take n (drop (from + 36) file);
      size = size;
      is_block = (wide, omega (arith, size, small));
      split = spells file from n digest wide fits begins;
    })
