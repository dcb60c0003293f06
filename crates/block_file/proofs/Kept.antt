-- What a write and a sync leave of the texts that are kept.
use Rattle.std.proofs.Common.{◌≡◌, inl, inr, ℕ, ◌+◌, ◌<◌, ◌≤◌, List, [], ◌∷◌, ◌++◌, length, take, drop, refl, sym, ◌∙◌, ap, subst, arith}
use Rattle.std.specs.Int.{w32, from_be_bytes}
use Rattle.std.proofs.lemmas.List.{append_assoc, append-nil, take_at, drop_at, length-append, take-take}
use Rattle.leaf_ledger.specs.Device.{History, Torn, Throughout, WroteSome, IsAtMostSynced, extent, at_rest, reach, written, wrote, synced}
use Rattle.leaf_ledger.specs.Moments.{rests, stayed, one_more}
use Rattle.leaf_ledger.specs.Writes.{after-push, torn_front, written_front}
use Rattle.leaf_ledger.specs.declared.extent.Extent.{Extent}
use Rattle.block_file.specs.Blocks.{Block, Ends, spelled, chain, IsBlock, IsNoBlock, size_told, size_limit, end_mark, own, Keeps}
use Rattle.block_file.specs.Life.{IsSafe, Call}
use Rattle.block_file.specs.Places.{IsFront}
use Rattle.block_file.proofs.Heads.{length-spelled}
use Rattle.block_file.proofs.Chains.{chain-append, chain-push, all-append, starts, keeps_front}

-- ---- nothing happens, or a sync

pub nothing : (old new : History) → new ≡ old → Call old new
nothing old new is = record { keeps = λ text safe. subst (λ (h : History). IsSafe h text × Throughout (Keeps text) old h) (sym is) (safe, stayed (Keeps text) old safe.1) }

pub safe_synced : (old new : History) → new ≡ synced old → (text : List ℕ) → Keeps text old.now.text → IsSafe new text
safe_synced old new is text kept = subst (λ (h : History). IsSafe h text) (sym is) (kept, rests (Keeps text) (at_rest old.now.text) old.now.text refl kept)

pub a_sync : (old new : History) → new ≡ synced old → Call old new
a_sync old new is = record {
  keeps = λ text safe. (
    safe_synced old new is text safe.0,
    subst (λ (h : History). Throughout (Keeps text) old h) (sym is)
        (one_more (Keeps text) old old (at_rest old.now.text) (stayed (Keeps text) old safe.1) (rests (Keeps text) (at_rest old.now.text) old.now.text refl safe.0)),
  );
}

pub at_most_a_sync : (old new : History) → IsAtMostSynced old new → Call old new
at_most_a_sync old new (inl same) = nothing old new same
at_most_a_sync old new (inr after) = a_sync old new after

-- ---- a write after the last block

far : (size : ℕ) (extents : List Extent) → size ≤ reach size extents
far size [] = omega arith
far size (e ∷ extents) = omega (arith, far size extents)

torn_self : (text : List ℕ) (extents : List Extent) → Torn text extents text
torn_self text extents = record { no_shorter = omega arith; no_longer = far (length text) extents; outside = λ i below out. refl }

module _ (old : History) (end : ℕ) (bs : List Block) (ends : Ends old.now.text end bs) (front : IsFront old.now end) where
  fits : front.front ≤ length old.now.synced_text
  fits = omega (arith, ap length front.ends.reaches.split, front.ends.reaches.size, length-append (chain front.blocks) (drop front.front old.now.synced_text))

  -- what was written, of whichever bytes, has the same before it
  module _ (n : ℕ) (text : List ℕ) (same : take end text ≡ take end old.now.text) where
    left_front : (left : List ℕ) → Torn old.now.synced_text (old.now.unsynced ++ extent end n ∷ []) left → take front.front left ≡ take front.front old.now.synced_text
    left_front left torn =
        torn_front old.now.synced_text left front.front (old.now.unsynced ++ extent end n ∷ [])
        (after-push front.front old.now.unsynced (extent end n) front.after front.before) fits torn

    left_kept : (t : List ℕ) → IsSafe old t → (left : List ℕ) → Torn old.now.synced_text (old.now.unsynced ++ extent end n ∷ []) left → Keeps t left
    left_kept t safe left torn =
        keeps_front old.now.synced_text left front.front front.blocks front.ends (left_front left torn) t
        (safe.1 old.now.synced_text (torn_self old.now.synced_text old.now.unsynced))

    pub wrote_call : (h : History) → h ≡ wrote end n text old → Call old h
    wrote_call h is = subst (λ (x : History). Call old x) (sym is) (record {
      keeps = λ t safe. (
        (keeps_front old.now.text text end bs ends same t safe.0, left_kept t safe),
        one_more (Keeps t) old old (wrote end n text old).now (stayed (Keeps t) old safe.1) (left_kept t safe),
      );
    })

    pub wrote_front : (place : ℕ) → end ≤ place → IsFront (wrote end n text old).now place
    wrote_front place later = record {
      front = front.front;
      before = omega (arith, front.before, later);
      blocks = front.blocks;
      ends = front.ends;
      after = after-push front.front old.now.unsynced (extent end n) front.after front.before;
      same = shorter ∙ front.same;
    }
      where
        shorter : take front.front text ≡ take front.front old.now.text
        shorter =
            sym (take-take front.front end text front.before)
            ∙ ap (λ (l : List ℕ). take front.front l) same
            ∙ take-take front.front end old.now.text front.before

  within : end ≤ length old.now.text
  within = omega (arith, ap length ends.reaches.split, ends.reaches.size, length-append (chain bs) (drop end old.now.text))

  pub some_call : (n : ℕ) (h : History) → WroteSome end n old h → Call old h
  some_call n h (inl none) = nothing old h none
  some_call n h (inr some) =
      wrote_call n some.0 (torn_front old.now.text some.0 end (extent end n ∷ []) (omega arith, tt) within some.1) h some.2

  -- ---- one block more
  module _ (b : Block) (is : IsBlock b) where
    abbrev bytes : List ℕ
    bytes = spelled b ++ end_mark

    abbrev new_text : List ℕ
    new_text = written end bytes old.now.text

    abbrev tail : List ℕ
    tail = drop (end + length bytes) old.now.text

    abbrev place : ℕ
    place = end + 36 + length b.text

    pub same_front : take end new_text ≡ take end old.now.text
    same_front = written_front old.now.text bytes end within

    front_is : take end old.now.text ≡ chain bs
    front_is = ap (λ (l : List ℕ). take end l) ends.reaches.split ∙ take_at (chain bs) (drop end old.now.text) end ends.reaches.size

    new_is : new_text ≡ chain (bs ++ b ∷ []) ++ (end_mark ++ tail)
    new_is =
        ap (λ (l : List ℕ). l ++ bytes ++ tail) front_is
        ∙ append_assoc (chain bs) bytes tail
        ∙ ap (λ (l : List ℕ). chain bs ++ l) (append_assoc (spelled b) end_mark tail)
        ∙ sym (chain-push bs b (end_mark ++ tail))

    new_size : length (chain (bs ++ b ∷ [])) ≡ place
    new_size = omega (arith, ap length (chain-append bs (b ∷ [])), length-append (chain bs) (chain (b ∷ [])), length-append (spelled b) [], length-spelled b is, ends.reaches.size)

    rest_is : drop place new_text ≡ end_mark ++ tail
    rest_is = ap (λ (l : List ℕ). drop place l) new_is ∙ drop_at (chain (bs ++ b ∷ [])) (end_mark ++ tail) place new_size

    -- the mark tells a length that no block has
    marked : size_limit < size_told (end_mark ++ tail)
    unfolding size_told
    marked =
        let is : from_be_bytes w32 (take 4 (end_mark ++ tail)) ≡ 4294967295 = ap (λ (l : List ℕ). from_be_bytes w32 l) (take_at end_mark tail 4 refl) in
        omega (arith, is)

    pub new_ends : Ends new_text place (bs ++ b ∷ [])
    new_ends = record {
      reaches = record {
        split = new_is ∙ ap (λ (l : List ℕ). chain (bs ++ b ∷ []) ++ l) (sym rest_is);
        size = new_size;
        all = all-append bs (b ∷ []) ends.reaches.all (is, tt);
      };
      none = subst IsNoBlock (sym rest_is) (inr (inl marked));
    }

-- a text that was put is kept
pub kept_now : (file : List ℕ) (place : ℕ) (bs : List Block) (text : List ℕ) → Ends file place (bs ++ own text ∷ []) → Keeps text file
kept_now file place bs text ends = (bs, starts file place (bs ++ own text ∷ []) (bs ++ own text ∷ []) [] ends.reaches (sym (append-nil (bs ++ own text ∷ []))))
