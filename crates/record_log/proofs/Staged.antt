-- What an append leaves: after a gate that isn't open, and at the gate.
use Rattle.std.proofs.Common.{◌≡◌, ◌≢◌, inl, inr, ℕ, ◌+◌, ◌<◌, List, [], ◌∷◌, ◌++◌, length, get_or, set, take, drop, sym, ◌∙◌, ap, arith, take-append-drop}
use Rattle.std.proofs.lemmas.Bool.{cases_eq}
use Rattle.std.proofs.lemmas.List.{append_assoc, take_at, set_at, length-append}
use Rattle.leaf_ledger.specs.Device.{Torn, extent, written}
use Rattle.leaf_ledger.specs.Writes.{written_one, torn_one}
use Rattle.record_log.specs.Records.{Record, chain, Tells, TellsWithOrWithout, AllShort}
use Rattle.record_log.specs.Places.{KeepsFront}
use Rattle.record_log.proofs.Chains.{short-append, chain-append, chain-opens}

shut_after : (file : List ℕ) (rs : List Record) (gate : ℕ) (rest : List ℕ) → gate ≢ 1 → AllShort rs → file ≡ chain rs ++ gate ∷ rest → Tells rs file
shut_after file rs gate rest shut short split = inr (record { gate = gate; rest = rest; split = split; shut = shut; short = short })

-- a file whose records end at a gate that isn't open
module _ (file : List ℕ) (rs : List Record) (gate g : ℕ) (rest : List ℕ) (split : file ≡ chain rs ++ g ∷ rest) (size : length (chain rs) ≡ gate) (shut : g ≢ 1) (short : AllShort rs) where
  front : take (gate + 1) file ≡ chain rs ++ g ∷ []
  front =
      ap (λ (l : List ℕ). take (gate + 1) l) (split ∙ sym (append_assoc (chain rs) (g ∷ []) rest))
      ∙ take_at (chain rs ++ g ∷ []) rest (gate + 1) (omega (arith, size, length-append (chain rs) (g ∷ [])))

  -- where the bytes up to the gate are the same, it has the records and the gate
  pub same_front : (left : List ℕ) → KeepsFront (gate + 1) file left → left ≡ chain rs ++ g ∷ drop (gate + 1) left
  same_front left same =
      sym (take-append-drop (gate + 1) left) ∙ ap (λ (l : List ℕ). l ++ drop (gate + 1) left) (same ∙ front) ∙ append_assoc (chain rs) (g ∷ []) (drop (gate + 1) left)

  -- what stands after the gate doesn't count
  pub kept_front : (left : List ℕ) → KeepsFront (gate + 1) file left → Tells rs left
  kept_front left same = shut_after left rs g (drop (gate + 1) left) shut short (same_front left same)

  -- more records, whose gate isn't open yet
  module _ (bs : List Record) (some : 0 < length bs) where
    abbrev inner : List ℕ
    inner = drop 1 (chain bs)

    abbrev bytes : List ℕ
    bytes = inner ++ 0 ∷ []

    unfoldable pub more : List ℕ
    more = drop (gate + 1 + length bytes) file

    abbrev staged : List ℕ
    staged = written (gate + 1) bytes file

    staged_is : staged ≡ chain rs ++ g ∷ (inner ++ 0 ∷ more)
    unfolding more
    staged_is =
        ap (λ (l : List ℕ). l ++ bytes ++ more) front
        ∙ append_assoc (chain rs ++ g ∷ []) bytes more
        ∙ append_assoc (chain rs) (g ∷ []) (bytes ++ more)
        ∙ ap (λ (l : List ℕ). chain rs ++ g ∷ l) (append_assoc inner (0 ∷ []) more)

    in_staged : gate < length staged
    in_staged = omega (arith, ap length staged_is, length-append (chain rs) (g ∷ (inner ++ 0 ∷ more)), size)

    with_gate : (x : ℕ) → set staged gate x ≡ chain rs ++ x ∷ (inner ++ 0 ∷ more)
    with_gate x = ap (λ (l : List ℕ). set l gate x) staged_is ∙ set_at (chain rs) g (inner ++ 0 ∷ more) x gate size

    pub tells_staged : Tells rs staged
    tells_staged = shut_after staged rs g (inner ++ 0 ∷ more) shut short staged_is

    -- all of them
    opened : chain rs ++ 1 ∷ (inner ++ 0 ∷ more) ≡ chain (rs ++ bs) ++ 0 ∷ more
    opened =
        ap (λ (l : List ℕ). chain rs ++ (l ++ 0 ∷ more)) (sym (chain-opens bs some))
        ∙ sym (append_assoc (chain rs) (chain bs) (0 ∷ more))
        ∙ ap (λ (l : List ℕ). l ++ 0 ∷ more) (sym (chain-append rs bs))

    -- with its gate open
    pub after_is : written gate (1 ∷ []) staged ≡ chain (rs ++ bs) ++ 0 ∷ more
    after_is = written_one staged gate 1 in_staged ∙ with_gate 1 ∙ opened

    module _ (small : AllShort bs) where
      tells_with : (file : List ℕ) → file ≡ chain (rs ++ bs) ++ 0 ∷ more → Tells (rs ++ bs) file
      tells_with file is = shut_after file (rs ++ bs) 0 more (λ is. absurd (omega (arith, is))) (short-append rs bs short small) is

      -- the gate is open or it isn't
      pub torn_gate : (left : List ℕ) → Torn staged (extent gate 1 ∷ []) left → TellsWithOrWithout rs bs left
      torn_gate left torn =
          let g' = get_or left gate 0 in
          let is : left ≡ set staged gate g' = torn_one staged left gate in_staged torn in
          elim (cases_eq g' 1) [
            | inl is_open ↦ inr (tells_with left (is ∙ ap (λ (x : ℕ). set staged gate x) is_open ∙ with_gate 1 ∙ opened))
            | inr closed ↦ inl (shut_after left rs g' (inner ++ 0 ∷ more) closed short (is ∙ with_gate g'))
          ]

      pub tells_after : Tells (rs ++ bs) (written gate (1 ∷ []) staged)
      tells_after = tells_with (written gate (1 ∷ []) staged) after_is
