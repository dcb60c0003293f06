-- A write that was done whole is one of which some part was done.
use Rattle.std.proofs.Common.{◌≡◌, ◌⊎◌, inl, inr, ℕ, ◌+◌, ◌-◌, ◌<◌, ◌≤◌, List, [], ◌∷◌, ◌++◌, length, get_or, take, drop, ◌∙◌, ap, arith}
use Rattle.std.proofs.lemmas.List.{length-append, length-take-le, length-drop, get_or_append_left, get_or-take, get_or-append_right, get_or-drop}
use Rattle.leaf_ledger.specs.Device.{History, Torn, extent, written, wrote_bytes, WroteSome}

module _ (text bytes : List ℕ) (at : ℕ) (fits : at ≤ length text) where
  front : length (take at text) ≡ at
  front = length-take-le at text fits

  both : length (take at text ++ bytes) ≡ at + length bytes
  both = omega (arith, front, length-append (take at text) bytes)

  length-written : length (written at bytes text) ≡ at + length bytes + (length text - (at + length bytes))
  length-written = omega (arith, both, length-append (take at text ++ bytes) (drop (at + length bytes) text), length-drop (at + length bytes) text)

  same_outside : (i : ℕ) → i < length text → (i < at) ⊎ (at + length bytes ≤ i) → get_or (written at bytes text) i 0 ≡ get_or text i 0
  same_outside i below (inl before) =
      get_or_append_left (take at text ++ bytes) (drop (at + length bytes) text) 0 i (omega (arith, both, before))
      ∙ get_or_append_left (take at text) bytes 0 i (omega (arith, front, before))
      ∙ get_or-take at text i 0 before
  same_outside i below (inr after) =
      get_or-append_right (take at text ++ bytes) (drop (at + length bytes) text) (at + length bytes) i 0 both after
      ∙ get_or-drop (at + length bytes) text (i - (at + length bytes)) 0
      ∙ (let there : at + length bytes + (i - (at + length bytes)) ≡ i = omega (arith, after) in ap (λ (k : ℕ). get_or text k 0) there)

  torn_whole : Torn text (extent at (length bytes) ∷ []) (written at bytes text)
  torn_whole = record {
    no_shorter = omega (arith, length-written, fits);
    no_longer = omega (arith, length-written, fits);
    outside = λ i below outside. same_outside i below outside.0;
  }

pub whole_written : (old new : History) (at : ℕ) (bytes : List ℕ) → at ≤ length old.now.text → new ≡ wrote_bytes at bytes old → WroteSome at (length bytes) old new
whole_written old new at bytes fits is = inr (written at bytes old.now.text, torn_whole old.now.text bytes at fits, is)
