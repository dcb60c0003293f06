-- Chains of records: one more, those at the front, and that a file tells one list.
use Rattle.std.proofs.Common.{◌≡◌, ◌≢◌, ℕ, ◌+◌, ◌<◌, ◌≤◌, List, [], ◌∷◌, ◌++◌, length, get_or, drop, inl, inr, ◌⊎◌, Option, Some, None, refl, sym, ◌∙◌, ap, subst, arith}
use Rattle.std.specs.Option.{option_and_then}
use Rattle.std.proofs.lemmas.List.{append-nil, append_assoc, length-append}
use Rattle.client_journal.specs.Records.{Record, State, Idle, next_state, state_after, state_of, spelled, chain, AllShort, IsShort, length_told, BeginsWith, Tells, IsDamaged, IsOtherKind, IsOutOfTurn, EndsEarly}
use Rattle.client_journal.proofs.Headers.{length-spelled, one_record, no_other_kind, record_tells_length}

pushed : (o : Option State) (f g : State → Option State) (t u : State) → option_and_then f o ≡ Some t → ((v : State) → f v ≡ Some t → g v ≡ Some u) → option_and_then g o ≡ Some u
pushed None f g t u is each = absurd (cc is)
pushed (Some v) f g t u is each = each v is

pub state-push : (s t u : State) (rs : List Record) (r : Record) → state_after s rs ≡ Some t → next_state t r.kind r.text ≡ Some u → state_after s (rs ++ r ∷ []) ≡ Some u
state-push s t u [] r before next =
    let same : s ≡ t = cc in
    let here : next_state s r.kind r.text ≡ Some u = ap (λ (x : State). next_state x r.kind r.text) same ∙ next in
    ap (λ (o : Option State). option_and_then (λ x. state_after x []) o) here
state-push s t u (x ∷ rs) r before next =
    pushed (next_state s x.kind x.text) (λ v. state_after v rs) (λ v. state_after v (rs ++ r ∷ [])) t u before (λ v is. state-push v t u rs r is next)

pub short-push : (rs : List Record) (r : Record) → AllShort rs → IsShort r → AllShort (rs ++ r ∷ [])
short-push [] r all one = (one, tt)
short-push (x ∷ rs) r all one = (all.0, short-push rs r all.1 one)

pub chain-push : (rs : List Record) (r : Record) (rest : List ℕ) → chain (rs ++ r ∷ []) ++ rest ≡ chain rs ++ 1 ∷ (spelled r ++ rest)
chain-push [] r rest = ap (λ (l : List ℕ). 1 ∷ (l ++ rest)) (append-nil (spelled r))
chain-push (x ∷ rs) r rest =
    ap (λ (l : List ℕ). 1 ∷ l)
    (append_assoc (spelled x) (chain (rs ++ r ∷ [])) rest ∙ ap (λ (l : List ℕ). spelled x ++ l) (chain-push rs r rest) ∙ sym (append_assoc (spelled x) (chain rs) (1 ∷ (spelled r ++ rest))))

pub no_longer : (rs : List Record) → length rs ≤ length (chain rs)
no_longer [] = omega arith
no_longer (r ∷ rs) = omega (arith, no_longer rs, length-append (spelled r) (chain rs))

-- a new journal has no records
pub none_new : (file : List ℕ) (rs : List Record) → BeginsWith rs file → length file ≤ 1 → rs ≡ []
none_new file rs begins few = none rs (omega (arith, no_longer rs, ap length begins.split, length-append (chain rs) (begins.gate ∷ begins.rest), few))
  where
    none : (l : List Record) → length l ≡ 0 → l ≡ []
    none [] is = refl
    none (r ∷ l) is = absurd (omega (arith, is))

pub in_new : (file : List ℕ) (rs : List Record) → Tells rs file → length file ≤ 1 → rs ≡ []
in_new file rs (inl none) few = none.1
in_new file rs (inr begins) few = none_new file rs begins few

-- records up to a gate that isn't open begin with any records that stand at the front
from_front : (rs front : List Record) (gate : ℕ) (rest tail : List ℕ) → gate ≢ 1 → AllShort rs → AllShort front → chain rs ++ gate ∷ rest ≡ chain front ++ tail
    → (more : List Record) × (rs ≡ front ++ more) × (tail ≡ chain more ++ gate ∷ rest) × AllShort more
from_front rs [] gate rest tail shut short short' is = (rs, refl, sym is, short)
from_front [] (r ∷ front) gate rest tail shut short short' is = absurd (shut (ap (λ (l : List ℕ). get_or l 0 0) is))
from_front (r ∷ rs) (s ∷ front) gate rest tail shut short short' is =
    let following : spelled r ++ (chain rs ++ gate ∷ rest) ≡ spelled s ++ (chain front ++ tail) =
    sym (append_assoc (spelled r) (chain rs) (gate ∷ rest)) ∙ ap (λ (l : List ℕ). drop 1 l) is ∙ append_assoc (spelled s) (chain front) tail in
    let one = one_record r s (chain rs ++ gate ∷ rest) (chain front ++ tail) short.0 short'.0 following in
    let all = from_front rs front gate rest tail shut short.1 short'.1 one.1 in
    (all.0, ap (λ (x : Record). x ∷ rs) one.0 ∙ ap (λ (l : List Record). s ∷ l) all.1, all.2, all.3)

pub one_telling : (file : List ℕ) (a b : List Record) → Tells a file → Tells b file → a ≡ b
one_telling file a b (inl none) tells = none.1 ∙ sym (in_new file b tells none.0)
one_telling file a b (inr begins) (inl none) = none_new file a begins none.0 ∙ sym none.1
one_telling file a b (inr x) (inr y) =
    let all = from_front a b x.gate x.rest (y.gate ∷ y.rest) x.shut x.short y.short (sym x.split ∙ y.split) in
    all.1 ∙ ends all.0 all.2
  where
    ends : (more : List Record) → y.gate ∷ y.rest ≡ chain more ++ x.gate ∷ x.rest → b ++ more ≡ b
    ends [] is = append-nil b
    ends (r ∷ more) is = absurd (y.shut (ap (λ (l : List ℕ). get_or l 0 0) is))

both_steps : (o : Option State) (f g : State → Option State) (s t : State) → option_and_then f o ≡ Some s → option_and_then g o ≡ Some t → ((u : State) → f u ≡ Some s → g u ≡ Some t → ⊥) → ⊥
both_steps None f g s t a b each = absurd (cc a)
both_steps (Some u) f g s t a b each = each u a b

-- in a chain that is in turn no record is out of turn
all_in_turn : (from s t : State) (front : List Record) (r : Record) (more : List Record) → state_after from front ≡ Some s → state_after from (front ++ r ∷ more) ≡ Some t → next_state s r.kind r.text ≡ None → ⊥
all_in_turn from s t [] r more before after out =
    let same : from ≡ s = cc in
    let none : next_state from r.kind r.text ≡ None = ap (λ (x : State). next_state x r.kind r.text) same ∙ out in
    let two : None ≡ Some t = sym (ap (λ (o : Option State). option_and_then (λ next. state_after next more) o) none) ∙ after in absurd (cc two)
all_in_turn from s t (x ∷ front) r more before after out =
    both_steps (next_state from x.kind x.text) (λ u. state_after u front) (λ u. state_after u (front ++ r ∷ more)) s t before after (λ u b a. all_in_turn u s t front r more b a out)

pub not_both : (file : List ℕ) (rs : List Record) → Tells rs file → IsDamaged file → ⊥
not_both file rs (inl none) damaged = absurd (omega (arith, none.0, damaged.there))
not_both file rs (inr begins) damaged =
    let all = from_front rs damaged.records begins.gate begins.rest (1 ∷ damaged.bytes) begins.shut begins.short damaged.short (sym begins.split ∙ damaged.split) in
    ends all.0 all.1 all.2 all.3
  where
    ends : (more : List Record) → rs ≡ damaged.records ++ more → 1 ∷ damaged.bytes ≡ chain more ++ begins.gate ∷ begins.rest → AllShort more → ⊥
    ends [] all is short = begins.shut (sym (ap (λ (l : List ℕ). get_or l 0 0) is))
    ends (r ∷ more) all is short = wrong damaged.wrong
      where
        after : List ℕ
        after = chain more ++ begins.gate ∷ begins.rest

        bytes : damaged.bytes ≡ spelled r ++ after
        bytes = ap (λ (l : List ℕ). drop 1 l) is ∙ append_assoc (spelled r) (chain more) (begins.gate ∷ begins.rest)

        some : 0 < length after
        some = omega (arith, length-append (chain more) (begins.gate ∷ begins.rest))

        turn : state_of (damaged.records ++ r ∷ more) ≡ Some begins.state
        turn = ap state_of (sym all) ∙ begins.in_turn

        wrong : IsOtherKind damaged.bytes ⊎ (IsOutOfTurn damaged.state damaged.bytes ⊎ EndsEarly damaged.bytes) → ⊥
        wrong (inl other) = no_other_kind r after (subst (λ (l : List ℕ). IsOtherKind l) bytes other)
        wrong (inr (inl out)) =
            let same = one_record r out.0 after out.1 short.0 out.3 (sym bytes ∙ out.2) in
            all_in_turn Idle damaged.state begins.state damaged.records r more damaged.in_turn turn (ap (λ (x : Record). next_state damaged.state x.kind x.text) same.0 ∙ out.4)
        wrong (inr (inr early)) =
            let size : length damaged.bytes ≡ 5 + length r.text + length after = omega (arith, ap length bytes, length-append (spelled r) after, length-spelled r) in
            let told = ap length_told bytes ∙ record_tells_length r after short.0 in
            absurd (omega (arith, early, size, told, some))
