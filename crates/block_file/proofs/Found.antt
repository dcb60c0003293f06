-- How far the blocks of a file are found, and what is found of a digest.
use Rattle.std.proofs.Common.{◌≡◌, ◌⊎◌, inl, ℕ, ◌+◌, ◌≤◌, List, [], ◌∷◌, ◌++◌, length, take, drop, Some, None, refl, sym, ◌∙◌, ap, subst, arith}
use Rattle.std.proofs.lemmas.List.{append_assoc}
use Rattle.layout.specs.Hash.{hash}
use Rattle.leaf_ledger.specs.Device.{Disk, at_rest}
use Rattle.block_file.specs.Blocks.{Block, Reaches, Ends, IsNoBlock, own, Keeps}
use Rattle.block_file.specs.Places.{Place, BeginsAt, IsFront, StandsAt, IsPlaceOf, IsTextOf, HasNone, IsIndex, IsFound, IsSound}
use Rattle.block_file.proofs.Chains.{begins, starts, further, text_at, inside}
use Rattle.block_file.proofs.Indexed.{Look, no_blocks, same_index, known, noted}

-- before the first block
pub first : (file : List ℕ) (look : Look) → ((d : List ℕ) → look d ≡ None) → IsFound file 0 look
first file look none = record { blocks = []; reaches = record { split = refl; size = refl; all = tt }; index = no_blocks look none }

-- ---- what stands at the place of a digest

module _ (file : List ℕ) (end : ℕ) (look : Look) (found : IsFound file end look) (digest : List ℕ) (place : Place) (here : look digest ≡ Some place) where
  pub read_inside : place.at + place.size ≤ length file
  read_inside = let is = found.index.stands digest place here in inside file end found.blocks place is.block found.reaches is.stands

module _ (file : List ℕ) (end : ℕ) (look : Look) (blocks : List Block) (reaches : Reaches file end blocks) (index : IsIndex look blocks) (digest : List ℕ) where
  -- there is none where no place is known
  pub none_at_all : look digest ≡ None → HasNone blocks digest
  none_at_all none before after b split same true_text =
      let t = index.found before after b split (true_text ∙ sym same) in
      apart t.0.place (sym none ∙ ap look (sym same) ∙ t.1)
    where
      apart : (p : Place) → None ≡ Some p → ⊥
      apart p is = cc

  module _ (place : Place) (here : look digest ≡ Some place) (text : List ℕ) (read : text ≡ take place.size (drop place.at file)) where
    is_place : IsPlaceOf blocks digest place
    is_place = index.stands digest place here

    text_is : is_place.block.text ≡ text
    text_is = sym (text_at file end blocks place is_place.block reaches is_place.stands) ∙ sym read

    -- a text that has the digest is that of a block which has it
    pub true_text : hash text ≡ digest → IsTextOf look blocks digest text
    true_text own = record { place = record { place = place; is = is_place; true_text = ap hash text_is ∙ own }; here = here; text_is = text_is }

    -- where it hasn't, no block has it
    pub none_there : (hash text ≡ digest → ⊥) → HasNone blocks digest
    none_there other before after b split same has =
        let t = index.found before after b split (has ∙ sym same) in
        let q : place ≡ t.0.place = one_place place t.0.place (sym here ∙ ap look (sym same) ∙ t.1) in
        other (ap hash (read ∙ ap (λ (p : Place). take p.size (drop p.at file)) q ∙ text_at file end blocks t.0.place t.0.is.block reaches t.0.is.stands) ∙ t.0.true_text ∙ same)
      where
        one_place : (p q : Place) → Some p ≡ Some q → p ≡ q
        one_place p q is = cc

-- ---- one block further

module _ (file : List ℕ) (from : ℕ) (look : Look) (found : IsFound file from look) (digest : List ℕ) (place : Place) (here : BeginsAt file from digest place) where
  block : Block
  block = record { digest = digest; text = here.text }

  pub further_known : (text : List ℕ) → IsTextOf look found.blocks digest text → IsFound file (place.at + place.size) look
  unfolding block
  further_known text there = record {
    blocks = found.blocks ++ block ∷ [];
    reaches = further file from found.blocks digest place found.reaches here;
    index = known found.blocks block look found.index text there;
  }

  stands : StandsAt (found.blocks ++ block ∷ []) place block
  unfolding block
  stands = record {
    before = found.blocks;
    after = [];
    split = refl;
    at = here.at ∙ ap (λ (n : ℕ). n + 36) (sym found.reaches.size);
    size = sym here.size;
  }

  pub further_noted : (new : Look) → new digest ≡ Some place → ((d : List ℕ) → (d ≡ digest) ⊎ (new d ≡ look d)) → HasNone found.blocks digest → IsFound file (place.at + place.size) new
  unfolding block
  further_noted new there others none = record {
    blocks = found.blocks ++ block ∷ [];
    reaches = further file from found.blocks digest place found.reaches here;
    index = noted found.blocks block look new found.index place there others stands (inl none);
  }

-- ---- opened

pub sound : (disk : Disk) (end : ℕ) (look : Look) → disk ≡ at_rest disk.text → IsFound disk.text end look → IsNoBlock (drop end disk.text) → IsSound disk end look
sound disk end look rest found none = record {
  blocks = found.blocks;
  ends = ends;
  front = subst (λ (d : Disk). IsFront d end) (sym rest) (record {
    front = end;
    before = omega arith;
    blocks = found.blocks;
    ends = ends;
    after = tt;
    same = refl;
  });
  index = found.index;
}
  where
    ends : Ends disk.text end found.blocks
    ends = record { reaches = found.reaches; none = none }

-- the same places
pub still_sound : (disk : Disk) (end : ℕ) (look new : Look) → ((d : List ℕ) → new d ≡ look d) → IsSound disk end look → IsSound disk end new
still_sound disk end look new same sound = record { blocks = sound.blocks; ends = sound.ends; front = sound.front; index = same_index look new sound.blocks same sound.index }

pub as_found : (disk : Disk) (end : ℕ) (look : Look) → IsSound disk end look → IsFound disk.text end look
as_found disk end look sound = record { blocks = sound.blocks; reaches = sound.ends.reaches; index = sound.index }

-- ---- what is kept

of : List ℕ → List ℕ → Block
of digest text = record { digest = digest; text = text }

-- a text that is found is kept
pub text_kept : (file : List ℕ) (end : ℕ) (look : Look) (blocks : List Block) (digest text : List ℕ) → Reaches file end blocks → IsTextOf look blocks digest text → Keeps text file
unfolding of
text_kept file end look blocks digest text reaches there =
    let stands = there.place.is.stands in
    (stands.before, starts file end blocks (stands.before ++ own text ∷ []) stands.after reaches split)
  where
    has : hash text ≡ digest
    has = ap hash (sym there.text_is) ∙ there.place.true_text

    same : there.place.is.block ≡ own text
    same = ap (λ (d : List ℕ). of d there.place.is.block.text) (there.place.is.digest_is ∙ sym has) ∙ ap (λ (t : List ℕ). of (hash text) t) there.text_is

    split : blocks ≡ (there.place.is.stands.before ++ own text ∷ []) ++ there.place.is.stands.after
    split =
        there.place.is.stands.split
        ∙ ap (λ (b : Block). there.place.is.stands.before ++ b ∷ there.place.is.stands.after) same
        ∙ sym (append_assoc there.place.is.stands.before (own text ∷ []) there.place.is.stands.after)

-- where no block has a digest no text that has it is kept
pub none_kept : (file : List ℕ) (end : ℕ) (blocks : List Block) (digest : List ℕ) → Ends file end blocks → HasNone blocks digest → (text : List ℕ) → hash text ≡ digest → Keeps text file → ⊥
none_kept file end blocks digest ends none text has kept =
    let more = begins file end blocks (kept.0 ++ own text ∷ []) ends kept.1 in
    none kept.0 more.0 (own text) (more.1 ∙ append_assoc kept.0 (own text ∷ []) more.0) has has
