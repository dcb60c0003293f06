-- What is surely used stays so through a whole life, so no leaf is handed out twice.
use Rattle.std.proofs.Common.{◌≡◌, ◌≢◌, ◌⊎◌, inl, inr, ℕ, Bool, true, false, ◌||◌, nat_eq, IfSome, Option, Some, None, List, [], ◌∷◌, length, get_or, not, ◌==◌, ◌+◌, refl, sym, ◌∙◌, ap, subst, arith}
use Rattle.std.specs.List.{IsDistinct, AllByRecursion}
use Rattle.std.proofs.lemmas.List.{get_or_past}
use Rattle.leaf_ledger.specs.Device.{Disk, History, Leaves, Throughout, at_rest, started, synced}
use Rattle.leaf_ledger.specs.Ledger.{is_used, UsedWith, UsedWithOrWithout, KeepsLedger, IsLeastFree, IsFull}
use Rattle.leaf_ledger.specs.Life.{IsSure, Call, Event, Called, Crashed, IsLife, handed_out}
use Rattle.leaf_ledger.specs.Moments.{rests, stayed, one_more, at_end, weakened, left_has}
use Rattle.leaf_ledger.proofs.Marked.{other_leaf, same_leaf}

-- after a crash that left it used
sure_again : (left : List ℕ) (leaf : ℕ) → is_used left leaf ≡ true → IsSure (started left) leaf
sure_again left leaf used = (used, rests (λ c. is_used c leaf ≡ true) (at_rest left) left refl used)

apart : (file : List ℕ) (m n : ℕ) → is_used file m ≡ true → is_used file n ≡ false → nat_eq m n ≡ false
apart file m n used free = other_leaf m n (λ same. let two : true ≡ false = sym used ∙ ap (λ (k : ℕ). is_used file k) same ∙ free in absurd (cc two))

never_again : (h : History) (events : List Event) (leaf : ℕ) → IsSure h leaf → IsLife h events → AllByRecursion (λ n. nat_eq leaf n ≡ false) (handed_out events)
never_again h [] leaf sure life = tt
never_again h (Called (Some n) new ∷ events) leaf sure life = (apart h.now.text leaf n sure.0 life.0.fresh, never_again new events leaf (life.0.keeps leaf sure).0 life.1)
never_again h (Called None new ∷ events) leaf sure life = never_again new events leaf (life.0.keeps leaf sure).0 life.1
never_again h (Crashed handed new left ∷ events) leaf sure life =
    never_again (started left) events leaf (sure_again left leaf (left_has (λ c. is_used c leaf ≡ true) h new left (life.0.keeps leaf sure).1 life.1)) life.2

pub no_leaf_twice : (h : History) (events : List Event) → IsLife h events → IsDistinct nat_eq (handed_out events)
unfolding IsDistinct
no_leaf_twice h [] life = tt
no_leaf_twice h (Called (Some n) new ∷ events) life = (never_again new events n life.0.sure life.1, no_leaf_twice new events life.1)
no_leaf_twice h (Called None new ∷ events) life = no_leaf_twice new events life.1
no_leaf_twice h (Crashed handed new left ∷ events) life = no_leaf_twice (started left) events life.2

still : (file c : List ℕ) (n leaf : ℕ) → is_used file leaf ≡ true → UsedWithOrWithout n file c → is_used c leaf ≡ true
still file c n leaf used (inl same) = same leaf ∙ used
still file c n leaf used (inr with) = with leaf ∙ ap (λ (b : Bool). nat_eq leaf n || b) used ∙ or_true (nat_eq leaf n)
  where
    or_true : (b : Bool) → (b || true) ≡ true
    or_true true = refl
    or_true false = refl

-- a call that left the leaves used as before or with n
pub call_of : (handed : Option ℕ) (old new : History) (n : ℕ) → Throughout (UsedWithOrWithout n old.now.text) old new → UsedWithOrWithout n old.now.text new.now.text
    → IfSome handed (λ leaf. (is_used old.now.text leaf ≡ false) × IsSure new leaf) → Call handed old new
call_of handed old new n all reads taken = record { fresh = first handed taken; sure = second handed taken; keeps = keeps }
  where
    first : (o : Option ℕ) → IfSome o (λ leaf. (is_used old.now.text leaf ≡ false) × IsSure new leaf) → IfSome o (λ leaf. is_used old.now.text leaf ≡ false)
    first None t = t
    first (Some leaf) t = t.0

    second : (o : Option ℕ) → IfSome o (λ leaf. (is_used old.now.text leaf ≡ false) × IsSure new leaf) → IfSome o (λ leaf. IsSure new leaf)
    second None t = t
    second (Some leaf) t = t.1

    keeps : (leaf : ℕ) → IsSure old leaf → IsSure new leaf × Throughout (λ left. is_used left leaf ≡ true) old new
    keeps leaf sure =
        let used = weakened (UsedWithOrWithout n old.now.text) (λ left. is_used left leaf ≡ true) old new (λ c. still old.now.text c n leaf sure.0) all in
        ((still old.now.text new.now.text n leaf sure.0 reads, at_end (λ left. is_used left leaf ≡ true) old new used), used)

pub no_call : (h : History) → Call None h h
no_call h = record { fresh = tt; sure = tt; keeps = λ leaf sure. (sure, stayed (λ left. is_used left leaf ≡ true) h sure.1) }

pub sure_after : (old new : History) (n : ℕ) (file : List ℕ) → UsedWith n old.now.text new.now.text → new.now ≡ at_rest file → IsSure new n
sure_after old new n file with rest = (used, rests (λ left. is_used left n ≡ true) new.now file rest (subst (λ (d : Disk). is_used d.text n ≡ true) rest used))
  where
    used : is_used new.now.text n ≡ true
    used = with n ∙ ap (λ (b : Bool). b || is_used old.now.text n) (same_leaf n n refl)

none_used : (file : List ℕ) (leaf : ℕ) → is_used file leaf ≡ true → length file ≢ 0
none_used file leaf used none =
    let past : get_or file (56 + leaf) 0 ≡ 0 = get_or_past file (56 + leaf) 0 (omega (arith, none)) in
    let two : false ≡ true = sym (ap (λ (x : ℕ). not (x == 0)) past) ∙ used in absurd (cc two)

-- a call that at most syncs a file that is there
pub kept_call : (old new : History) → KeepsLedger old new → Call None old new
kept_call old new kept = record { fresh = tt; sure = tt; keeps = λ leaf sure. from leaf sure (kept (none_used old.now.text leaf sure.0)) }
  where
    from : (leaf : ℕ) → IsSure old leaf → (new ≡ old) ⊎ (new ≡ synced old) → IsSure new leaf × Throughout (λ left. is_used left leaf ≡ true) old new
    from leaf sure (inl same) = subst (λ (h : History). IsSure h leaf × Throughout (λ left. is_used left leaf ≡ true) old h) (sym same) ((no_call old).keeps leaf sure)
    from leaf sure (inr after) =
        let P : List ℕ → Type 0 = λ left. is_used left leaf ≡ true in
        let end : Leaves P (at_rest old.now.text) = rests P (at_rest old.now.text) old.now.text refl sure.0 in
        subst (λ (h : History). IsSure h leaf × Throughout P old h) (sym after) ((sure.0, end), one_more P old old (at_rest old.now.text) (stayed P old sure.1) end)

-- a full file has no free leaf
pub not_full : (file : List ℕ) (n : ℕ) → IsLeastFree file n → IsFull file → ⊥
not_full file n least full = let two : true ≡ false = sym (full n least.below) ∙ least.free in absurd (cc two)
