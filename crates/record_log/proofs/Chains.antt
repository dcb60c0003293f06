-- Chains of records: more of them, those at the front, and that a file tells one list.
use Rattle.std.proofs.Common.{◌≡◌, ◌≢◌, ℕ, ◌+◌, ◌<◌, ◌≤◌, List, [], ◌∷◌, ◌++◌, length, get_or, drop, inl, inr, refl, sym, ◌∙◌, ap, arith}
use Rattle.std.proofs.lemmas.List.{append-nil, append_assoc, length-append}
use Rattle.record_log.specs.Records.{Record, spelled, chain, AllShort, length_told, BeginsWith, Reaches, Tells, IsDamaged}
use Rattle.record_log.proofs.Headers.{length-spelled, one_record, record_tells_length}

pub short-append : (rs bs : List Record) → AllShort rs → AllShort bs → AllShort (rs ++ bs)
short-append [] bs all more = more
short-append (x ∷ rs) bs all more = (all.0, short-append rs bs all.1 more)

pub chain-append : (rs bs : List Record) → chain (rs ++ bs) ≡ chain rs ++ chain bs
chain-append [] bs = refl
chain-append (x ∷ rs) bs = ap (λ (l : List ℕ). 1 ∷ l) (ap (λ (l : List ℕ). spelled x ++ l) (chain-append rs bs) ∙ sym (append_assoc (spelled x) (chain rs) (chain bs)))

pub chain-push : (rs : List Record) (r : Record) (rest : List ℕ) → chain (rs ++ r ∷ []) ++ rest ≡ chain rs ++ 1 ∷ (spelled r ++ rest)
chain-push rs r rest =
    ap (λ (l : List ℕ). l ++ rest) (chain-append rs (r ∷ []))
    ∙ append_assoc (chain rs) (chain (r ∷ [])) rest
    ∙ ap (λ (l : List ℕ). chain rs ++ 1 ∷ (l ++ rest)) (append-nil (spelled r))

-- where there are records, their chain begins with an open gate
pub chain-opens : (bs : List Record) → 0 < length bs → chain bs ≡ 1 ∷ drop 1 (chain bs)
chain-opens [] some = absurd (omega (arith, some))
chain-opens (b ∷ bs) some = refl

pub no_longer : (rs : List Record) → length rs ≤ length (chain rs)
no_longer [] = omega arith
no_longer (r ∷ rs) = omega (arith, no_longer rs, length-append (spelled r) (chain rs))

pub none_new : (file : List ℕ) (rs : List Record) → BeginsWith rs file → length file ≤ 1 → rs ≡ []
none_new file rs begins few = none rs (omega (arith, no_longer rs, ap length begins.split, length-append (chain rs) (begins.gate ∷ begins.rest), few))
  where
    none : (l : List Record) → length l ≡ 0 → l ≡ []
    none [] is = refl
    none (r ∷ l) is = absurd (omega (arith, is))

pub in_new : (file : List ℕ) (rs : List Record) → Tells rs file → length file ≤ 1 → rs ≡ []
in_new file rs (inl none) few = none.1
in_new file rs (inr begins) few = none_new file rs begins few

from_front : (rs front : List Record) (gate : ℕ) (rest tail : List ℕ) → gate ≢ 1 → AllShort rs → AllShort front → chain rs ++ gate ∷ rest ≡ chain front ++ tail
    → (more : List Record) × (rs ≡ front ++ more) × (tail ≡ chain more ++ gate ∷ rest) × AllShort more
from_front rs [] gate rest tail shut short short' is = (rs, refl, sym is, short)
from_front [] (r ∷ front) gate rest tail shut short short' is = absurd (shut (ap (λ (l : List ℕ). get_or l 0 0) is))
from_front (r ∷ rs) (s ∷ front) gate rest tail shut short short' is =
    let following : spelled r ++ (chain rs ++ gate ∷ rest) ≡ spelled s ++ (chain front ++ tail) =
    sym (append_assoc (spelled r) (chain rs) (gate ∷ rest)) ∙ ap (λ (l : List ℕ). drop 1 l) is ∙ append_assoc (spelled s) (chain front) tail in
    let one = one_record r s (chain rs ++ gate ∷ rest) (chain front ++ tail) short.0 short'.0 following in
    let all = from_front rs front gate rest tail shut short.1 short'.1 one.1 in
    (all.0, ap (λ (x : Record). x ∷ rs) one.0 ∙ ap (λ (l : List Record). s ∷ l) all.1, all.2, all.3)

-- what a file begins with are the first of its records
pub first_told : (file : List ℕ) (gate : ℕ) (front rs : List Record) → Reaches file gate front → Tells rs file → (more : List Record) × (rs ≡ front ++ more)
first_told file gate [] rs reaches tells = (rs, refl)
first_told file gate (r ∷ front) rs reaches (inl none) = absurd (omega (arith, none.0, reaches.inside, reaches.size, no_longer (r ∷ front)))
first_told file gate (r ∷ front) rs reaches (inr begins) =
    let all = from_front rs (r ∷ front) begins.gate begins.rest (drop gate file) begins.shut begins.short reaches.short (sym begins.split ∙ reaches.split) in
    (all.0, all.1)

pub one_telling : (file : List ℕ) (a b : List Record) → Tells a file → Tells b file → a ≡ b
one_telling file a b (inl none) tells = none.1 ∙ sym (in_new file b tells none.0)
one_telling file a b (inr begins) (inl none) = none_new file a begins none.0 ∙ sym none.1
one_telling file a b (inr x) (inr y) =
    let all = from_front a b x.gate x.rest (y.gate ∷ y.rest) x.shut x.short y.short (sym x.split ∙ y.split) in
    all.1 ∙ ends all.0 all.2
  where
    ends : (more : List Record) → y.gate ∷ y.rest ≡ chain more ++ x.gate ∷ x.rest → b ++ more ≡ b
    ends [] is = append-nil b
    ends (r ∷ more) is = absurd (y.shut (ap (λ (l : List ℕ). get_or l 0 0) is))

pub not_both : (file : List ℕ) (rs : List Record) → Tells rs file → IsDamaged file → ⊥
not_both file rs (inl none) damaged = absurd (omega (arith, none.0, damaged.there))
not_both file rs (inr begins) damaged =
    let all = from_front rs damaged.records begins.gate begins.rest (1 ∷ damaged.bytes) begins.shut begins.short damaged.short (sym begins.split ∙ damaged.split) in
    ends all.0 all.2 all.3
  where
    ends : (more : List Record) → 1 ∷ damaged.bytes ≡ chain more ++ begins.gate ∷ begins.rest → AllShort more → ⊥
    ends [] is short = begins.shut (sym (ap (λ (l : List ℕ). get_or l 0 0) is))
    ends (r ∷ more) is short =
        let after : List ℕ = chain more ++ begins.gate ∷ begins.rest in
        let bytes : damaged.bytes ≡ spelled r ++ after = ap (λ (l : List ℕ). drop 1 l) is ∙ append_assoc (spelled r) (chain more) (begins.gate ∷ begins.rest) in
        let some : 0 < length after = omega (arith, length-append (chain more) (begins.gate ∷ begins.rest)) in
        let size : length damaged.bytes ≡ 5 + length r.text + length after = omega (arith, ap length bytes, length-append (spelled r) after, length-spelled r) in
        let told = ap length_told bytes ∙ record_tells_length r after short.0 in
        absurd (omega (arith, damaged.wrong, size, told, some))
