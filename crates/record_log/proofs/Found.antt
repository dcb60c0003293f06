-- Each file tells records or is damaged.
use Rattle.std.proofs.Common.{◌≡◌, ◌⊎◌, inl, inr, ℕ, zero, suc, ◌+◌, ◌<◌, ◌≤◌, ◌^◌, List, [], ◌∷◌, ◌++◌, length, take, drop, get_or, refl, sym, ◌∙◌, ap, subst, arith}
use Rattle.std.specs.Int.{w32, from_be_bytes}
use Rattle.std.proofs.lemmas.Bool.{cases_eq, cases_lt}
use Rattle.std.proofs.lemmas.List.{get_or-drop, get_or-take, get_or_past, drop-take, length-drop, length-take}
use Rattle.layout.specs.Format.{IsBytes}
use Rattle.layout.specs.Laws.{wide32}
use Rattle.record_log.specs.Records.{Record, spelled, chain, length_told, AllShort, IsShort, Tells, IsDamaged}
use Rattle.record_log.proofs.Headers.{header_so, spells}
use Rattle.record_log.proofs.Chains.{short-append, chain-push}

bytes_after : (n : ℕ) (bytes : List ℕ) → IsBytes bytes → IsBytes (drop n bytes)
bytes_after n bytes fits i = omega (arith, get_or-drop n bytes i 0, fits (n + i))

bytes_before : (n : ℕ) (bytes : List ℕ) → IsBytes bytes → IsBytes (take n bytes)
bytes_before n bytes fits i = elim (cases_lt i n) [
  | inl less ↦ omega (arith, get_or-take n bytes i 0 less, fits i)
  | inr past ↦ omega (arith, get_or_past (take n bytes) i 0 (omega (arith, length-take n bytes, past)))
]

abbrev Outcome : List ℕ → Type 0
Outcome file = ((rs : List Record) × Tells rs file) ⊎ IsDamaged file

-- what stands after some records, from a gate on
record Rest (file : List ℕ) (rs : List Record) (rest : List ℕ) : Type 0 where
  pub split : file ≡ chain rs ++ rest
  pub short : AllShort rs
  pub fits : IsBytes rest
  pub some : 0 < length rest

abbrev Again : List ℕ → List Record → ℕ → Type 0
Again file rs size = (r : Record) (rest : List ℕ) → length rest < size → Rest file (rs ++ r ∷ []) rest → Outcome file

module _ (file : List ℕ) (long : 1 < length file) (rs : List Record) (bytes : List ℕ) (here : Rest file rs (1 ∷ bytes)) (again : Again file rs (suc (length bytes))) where
  fits : IsBytes bytes
  fits i = here.fits (suc i)

  -- a record that is there whole
  module _ (whole : 5 + length_told bytes < length bytes) where
    abbrev n : ℕ
    n = length_told bytes

    abbrev kind : ℕ
    kind = get_or (take 5 bytes) 0 0

    abbrev r : Record
    r = record { kind = kind; text = take n (drop 5 bytes) }

    abbrev after : List ℕ
    after = drop (5 + n) bytes

    told : n ≡ from_be_bytes w32 (drop 1 (take 5 bytes))
    unfolding length_told
    told = ap (λ (l : List ℕ). from_be_bytes w32 l) (sym (drop-take 1 4 bytes))

    spelled_so : bytes ≡ spelled r ++ after
    spelled_so =
        spells bytes 0 n kind (omega (arith, whole))
        (header_so (take 5 bytes) n (omega (arith, length-take 5 bytes, whole)) (bytes_before 5 bytes fits) told)

    below : n < 2 ^ 32
    unfolding length_told
    below = wide32.below (take 4 (drop 1 bytes)) (bytes_before 4 (drop 1 bytes) (bytes_after 1 bytes fits))

    short : IsShort r
    short = omega (arith, length-take n (drop 5 bytes), below)

    further : Outcome file
    further = again r after (omega (arith, length-drop (5 + n) bytes)) (record {
      split = here.split ∙ ap (λ (l : List ℕ). chain rs ++ 1 ∷ l) spelled_so ∙ sym (chain-push rs r after);
      short = short-append rs (r ∷ []) here.short (short, tt);
      fits = bytes_after (5 + n) bytes fits;
      some = omega (arith, length-drop (5 + n) bytes, whole);
    })

  opened : Outcome file
  opened = elim (cases_lt (5 + length_told bytes) (length bytes)) [
    | inl whole ↦ further whole
    | inr early ↦ inr (record { there = long; records = rs; bytes = bytes; split = here.split; short = here.short; wrong = early })
  ]

gated : (file : List ℕ) → 1 < length file → (rs : List Record) (gate : ℕ) (bytes : List ℕ) → Rest file rs (gate ∷ bytes) → Again file rs (suc (length bytes)) → Outcome file
gated file long rs gate bytes here again = elim (cases_eq gate 1) [
  | inl is_open ↦ opened file long rs bytes (subst (λ (g : ℕ). Rest file rs (g ∷ bytes)) is_open here) again
  | inr shut ↦ inl (rs, inr (record { gate = gate; rest = bytes; split = here.split; shut = shut; short = here.short }))
]

from : (n : ℕ) (file : List ℕ) → 1 < length file → (rs : List Record) (rest : List ℕ) → length rest ≤ n → Rest file rs rest → Outcome file
from n file long rs [] small here = absurd (omega (arith, here.some))
from zero file long rs (gate ∷ bytes) small here = absurd (omega (arith, small))
from (suc n) file long rs (gate ∷ bytes) small here =
    gated file long rs gate bytes here (λ r rest less there. from n file long (rs ++ r ∷ []) rest (omega (arith, less, small)) there)

pub either : (file : List ℕ) → IsBytes file → ((rs : List Record) × Tells rs file) ⊎ IsDamaged file
either file fits = elim (cases_lt 1 (length file)) [
  | inl long ↦ from (length file) file long [] file (omega arith) (record { split = refl; short = tt; fits = fits; some = omega (arith, long) })
  | inr few ↦ inl ([], inl (few, refl))
]
