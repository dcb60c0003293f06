-- A file of blocks with a block more.
use Rattle.std.proofs.Common.{◌≡◌, ◌⊎◌, inr, ℕ, ◌+◌, ◌≤◌, List, [], ◌∷◌, ◌++◌, length, take, Some, refl, sym, ◌∙◌, ap, subst, arith}
use Rattle.layout.specs.Hash.{hash}
use Rattle.layout.specs.HashLaws.{length-hash}
use Rattle.leaf_ledger.specs.Device.{History, wrote_bytes}
use Rattle.block_file.specs.Blocks.{head, spelled, IsBlock, end_mark, own, Keeps}
use Rattle.block_file.specs.Life.{Call}
use Rattle.block_file.specs.Places.{Place, StandsAt, IsSound}
use Rattle.block_file.proofs.Chains.{keeps_front}
use Rattle.block_file.proofs.Indexed.{Look, noted}
use Rattle.block_file.proofs.Kept.{wrote_call, wrote_front, same_front, new_ends, kept_now}

module _ (old : History) (end : ℕ) (look : Look) (sound : IsSound old.now end look) (text : List ℕ) (small : length text ≤ 32779) where
  abbrev bytes : List ℕ
  bytes = spelled (own text) ++ end_mark

  abbrev after : History
  after = wrote_bytes end bytes old

  is_block : IsBlock (own text)
  is_block = (length-hash text, small)

  same : take end after.now.text ≡ take end old.now.text
  same = same_front old end sound.blocks sound.ends sound.front (own text) is_block

  pub call : (h : History) → h ≡ after → Call old h
  call h is = wrote_call old end sound.blocks sound.ends sound.front (length bytes) after.now.text same h is

  pub kept : (h : History) → h ≡ after → Keeps text h.now.text
  kept h is = subst (λ (x : History). Keeps text x.now.text) (sym is) (kept_now after.now.text (end + 36 + length text) sound.blocks text (new_ends old end sound.blocks sound.ends sound.front (own text) is_block))

  pub others : (h : History) → h ≡ after → (other : List ℕ) → Keeps other old.now.text → Keeps other h.now.text
  others h is other there = subst (λ (x : History). Keeps other x.now.text) (sym is) (keeps_front old.now.text after.now.text end sound.blocks sound.ends same other there)

  abbrev place : Place
  place = record { at = end + 36; size = length text }

  stands : StandsAt (sound.blocks ++ own text ∷ []) place (own text)
  stands = record {
    before = sound.blocks;
    after = [];
    split = refl;
    at = ap (λ (n : ℕ). n + 36) (sym sound.ends.reaches.size);
    size = refl;
  }

  pub sound_after : (new : Look) → new (hash text) ≡ Some place → ((d : List ℕ) → (d ≡ hash text) ⊎ (new d ≡ look d)) → (h : History) → h ≡ after → IsSound h.now (end + 36 + length text) new
  sound_after new here rest h is = subst (λ (x : History). IsSound x.now (end + 36 + length text) new) (sym is) (record {
    blocks = sound.blocks ++ own text ∷ [];
    ends = new_ends old end sound.blocks sound.ends sound.front (own text) is_block;
    front = wrote_front old end sound.blocks sound.ends sound.front (length bytes) after.now.text same (end + 36 + length text) (omega arith);
    index = noted sound.blocks (own text) look new sound.index place here rest stands (inr refl);
  })

-- the bytes that are laid out
pub bytes_are : (digest text all : List ℕ) → digest ≡ hash text → all ≡ head (length text) digest ++ text ++ end_mark → all ≡ spelled (own text) ++ end_mark
bytes_are digest text all is laid = laid ∙ ap (λ (d : List ℕ). head (length text) d ++ text ++ end_mark) is
