-- What an append leaves: after a gate that isn't open, and at the gate.
use Rattle.std.proofs.Common.{◌≡◌, ◌≢◌, inl, inr, ℕ, ◌+◌, ◌<◌, List, [], ◌∷◌, ◌++◌, length, get_or, set, take, drop, Some, sym, ◌∙◌, ap, arith, take-append-drop}
use Rattle.std.proofs.lemmas.Bool.{cases_eq}
use Rattle.std.proofs.lemmas.List.{append_assoc, take_at, set_at, length-append}
use Rattle.leaf_ledger.specs.Device.{Torn, extent, written}
use Rattle.leaf_ledger.specs.Writes.{written_one, torn_one}
use Rattle.client_journal.specs.Records.{Record, State, Idle, next_state, state_of, spelled, chain, Tells, TellsWithOrWithout, AllShort, IsShort}
use Rattle.client_journal.specs.Places.{KeepsFront}
use Rattle.client_journal.proofs.Chains.{state-push, short-push, chain-push}

shut_after : (file : List ℕ) (rs : List Record) (state : State) (gate : ℕ) (rest : List ℕ) → gate ≢ 1 → state_of rs ≡ Some state → AllShort rs → file ≡ chain rs ++ gate ∷ rest → Tells rs file
shut_after file rs state gate rest shut told short split = inr (record { gate = gate; rest = rest; split = split; shut = shut; short = short; state = state; in_turn = told })

-- a file whose records end at a gate that isn't open
module _ (file : List ℕ) (rs : List Record) (state : State) (gate g : ℕ) (rest : List ℕ) (split : file ≡ chain rs ++ g ∷ rest) (size : length (chain rs) ≡ gate) (shut : g ≢ 1)
    (told : state_of rs ≡ Some state) (short : AllShort rs) where
  front : take (gate + 1) file ≡ chain rs ++ g ∷ []
  front =
      ap (λ (l : List ℕ). take (gate + 1) l) (split ∙ sym (append_assoc (chain rs) (g ∷ []) rest))
      ∙ take_at (chain rs ++ g ∷ []) rest (gate + 1) (omega (arith, size, length-append (chain rs) (g ∷ [])))

  -- what stands after the gate doesn't count
  pub kept_front : (left : List ℕ) → KeepsFront (gate + 1) file left → Tells rs left
  kept_front left same =
      let whole : left ≡ chain rs ++ g ∷ drop (gate + 1) left =
      sym (take-append-drop (gate + 1) left) ∙ ap (λ (l : List ℕ). l ++ drop (gate + 1) left) (same ∙ front) ∙ append_assoc (chain rs) (g ∷ []) (drop (gate + 1) left) in
      shut_after left rs state g (drop (gate + 1) left) shut told short whole

  -- a record more, whose gate isn't open yet
  module _ (r : Record) where
    abbrev bytes : List ℕ
    bytes = spelled r ++ 0 ∷ []

    unfoldable pub more : List ℕ
    more = drop (gate + 1 + length bytes) file

    abbrev staged : List ℕ
    staged = written (gate + 1) bytes file

    staged_is : staged ≡ chain rs ++ g ∷ (spelled r ++ 0 ∷ more)
    unfolding more
    staged_is =
        ap (λ (l : List ℕ). l ++ bytes ++ more) front
        ∙ append_assoc (chain rs ++ g ∷ []) bytes more
        ∙ append_assoc (chain rs) (g ∷ []) (bytes ++ more)
        ∙ ap (λ (l : List ℕ). chain rs ++ g ∷ l) (append_assoc (spelled r) (0 ∷ []) more)

    in_staged : gate < length staged
    in_staged = omega (arith, ap length staged_is, length-append (chain rs) (g ∷ (spelled r ++ 0 ∷ more)), size)

    with_gate : (x : ℕ) → set staged gate x ≡ chain rs ++ x ∷ (spelled r ++ 0 ∷ more)
    with_gate x = ap (λ (l : List ℕ). set l gate x) staged_is ∙ set_at (chain rs) g (spelled r ++ 0 ∷ more) x gate size

    pub tells_staged : Tells rs staged
    tells_staged = shut_after staged rs state g (spelled r ++ 0 ∷ more) shut told short staged_is

    -- with its gate open
    pub after_is : written gate (1 ∷ []) staged ≡ chain rs ++ 1 ∷ (spelled r ++ 0 ∷ more)
    after_is = written_one staged gate 1 in_staged ∙ with_gate 1

    -- where the record is in turn
    module _ (next : State) (leads : next_state state r.kind r.text ≡ Some next) (small : IsShort r) where
      tells_with : (file : List ℕ) → file ≡ chain rs ++ 1 ∷ (spelled r ++ 0 ∷ more) → Tells (rs ++ r ∷ []) file
      tells_with file is =
          shut_after file (rs ++ r ∷ []) next 0 more (λ is. absurd (omega (arith, is))) (state-push Idle state next rs r told leads) (short-push rs r short small)
          (is ∙ sym (chain-push rs r (0 ∷ more)))

      -- the gate is open or it isn't
      pub torn_gate : (left : List ℕ) → Torn staged (extent gate 1 ∷ []) left → TellsWithOrWithout rs r left
      torn_gate left torn =
          let g' = get_or left gate 0 in
          let is : left ≡ set staged gate g' = torn_one staged left gate in_staged torn in
          elim (cases_eq g' 1) [
            | inl is_open ↦ inr (tells_with left (is ∙ ap (λ (x : ℕ). set staged gate x) is_open ∙ with_gate 1))
            | inr closed ↦ inl (shut_after left rs state g' (spelled r ++ 0 ∷ more) closed told short (is ∙ with_gate g'))
          ]

      pub tells_after : Tells (rs ++ r ∷ []) (written gate (1 ∷ []) staged)
      tells_after = tells_with (written gate (1 ∷ []) staged) after_is
