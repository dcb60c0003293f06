-- One record further in a file, and files that are damaged.
use Rattle.std.proofs.Common.{◌≡◌, ◌≢◌, inr, ℕ, suc, ◌+◌, ◌<◌, List, [], ◌∷◌, ◌++◌, length, drop, get_or, refl, sym, ◌∙◌, ap, arith}
use Rattle.std.proofs.lemmas.List.{length-append, length-drop}
use Rattle.std.proofs.Math.Seq.{drop-cons}
use Rattle.record_log.specs.Records.{Record, spelled, chain, Tells, EndsEarly, IsDamaged, IsShort, Reaches}
use Rattle.record_log.proofs.Chains.{short-append, chain-push}

gate_drop : (file : List ℕ) (gate : ℕ) → gate < length file → drop gate file ≡ get_or file gate 0 ∷ drop (gate + 1) file
gate_drop file gate below = let next : gate + 1 ≡ suc gate = omega arith in drop-cons file gate 0 below ∙ ap (λ (k : ℕ). get_or file gate 0 ∷ drop k file) (sym next)

pub at_first : (file : List ℕ) → 0 < length file → Reaches file 0 []
at_first file some = record { split = refl; size = refl; inside = some; short = tt }

module _ (file : List ℕ) (gate : ℕ) (rs : List Record) (reaches : Reaches file gate rs) where
  pub split : file ≡ chain rs ++ (get_or file gate 0 ∷ drop (gate + 1) file)
  split = reaches.split ∙ ap (λ (l : List ℕ). chain rs ++ l) (gate_drop file gate reaches.inside)

  -- where the gate isn't open, these are the records
  pub ended : get_or file gate 0 ≢ 1 → Tells rs file
  ended shut = inr (record { gate = get_or file gate 0; rest = drop (gate + 1) file; split = split; shut = shut; short = reaches.short })

  -- where what follows an open gate is no record, the file is damaged
  pub damaged : 1 < length file → get_or file gate 0 ≡ 1 → EndsEarly (drop (gate + 1) file) → IsDamaged file
  damaged long is_open wrong = record {
    there = long;
    records = rs;
    bytes = drop (gate + 1) file;
    split = split ∙ ap (λ (g : ℕ). chain rs ++ (g ∷ drop (gate + 1) file)) is_open;
    short = reaches.short;
    wrong = wrong;
  }

  -- one record further
  module _ (r : Record) (end : ℕ) (is_open : get_or file gate 0 ≡ 1) (fits : end < length file) (small : IsShort r) (spells : drop (gate + 1) file ≡ spelled r ++ drop end file) where
    further_split : file ≡ chain (rs ++ r ∷ []) ++ drop end file
    further_split =
        split
        ∙ ap (λ (g : ℕ). chain rs ++ (g ∷ drop (gate + 1) file)) is_open
        ∙ ap (λ (l : List ℕ). chain rs ++ 1 ∷ l) spells
        ∙ sym (chain-push rs r (drop end file))

    pub further : Reaches file end (rs ++ r ∷ [])
    further = record {
      split = further_split;
      size = omega (arith, ap length further_split, length-append (chain (rs ++ r ∷ [])) (drop end file), length-drop end file, fits);
      inside = fits;
      short = short-append rs (r ∷ []) reaches.short (small, tt);
    }
