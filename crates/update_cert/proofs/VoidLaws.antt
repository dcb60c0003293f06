-- The numbers of the changes that have no effect.
use Rattle.std.proofs.Common.{◌≡◌, ℕ, zero, suc, ◌+◌, ◌<◌, Bool, true, false, List, [], ◌∷◌, Option, Some, None, take, refl, sym, ap, ◌∙◌, arith, Less}
use Rattle.std.specs.Prelude.{◌==◌, ◌&&◌, ◌||◌, not, if◌then◌else◌}
use Rattle.std.specs.List.{list_any, slice_get}
use Rattle.std.specs.Ordering.{nat_cmp, is_lt}
use Rattle.std.specs.Cmp.{nat_cmp_is}
use Rattle.std.proofs.lemmas.Bool.{eq-eqb, ne_eqb}
use Rattle.layout.specs.Ascending.{Ascends, above}
use Rattle.update_cert.specs.Change.{Change}
use Rattle.update_cert.specs.World.{Actor, Content, Tree, after_change, after, has_effect, void_from, void, void_of, void_of_table, is_of, is_of_table}

abbrev has : ℕ → List ℕ → Bool
has n ns = list_any (λ m. m == n) ns

-- numbers that are counted from above one don't have it
none_above : (actor : Actor) (among : Change Content → Bool) (n m : ℕ) (cs : List (Change Content)) (tree : Tree) → n < m → has n (void_from m actor among cs tree) ≡ false
unfolding void_from
none_above actor among n m [] tree lt = refl
none_above actor among n m (c ∷ cs) tree lt =
    let rest = void_from (m + 1) actor among cs (after_change actor c tree) in
    let later = none_above actor among n (m + 1) cs (after_change actor c tree) (omega (arith, lt)) in
    elim (among c && not (has_effect actor c (tree c.principal c.i_number))) as (λ t. has n (if t then m ∷ rest else rest) ≡ false) [
      | true ↦ rw (ne_eqb m n (omega (arith, lt))) later
      | false ↦ later
    ]

has_here : (n : ℕ) (rest : List ℕ) (t : Bool) → has n rest ≡ false → has n (if t then n ∷ rest else rest) ≡ t
has_here n rest true none = rw (eq-eqb n n refl) refl
has_here n rest false none = none

has_later : (n m : ℕ) (rest : List ℕ) (t : Bool) → (m ≡ n → ⊥) → has n (if t then m ∷ rest else rest) ≡ has n rest
has_later n m rest true other = rw (ne_eqb m n other) refl
has_later n m rest false other = refl

in_turn : (actor : Actor) (among : Change Content → Bool) (n : ℕ) (cs : List (Change Content)) (tree : Tree) (k : ℕ) (c : Change Content) (m : ℕ) → m ≡ n + k → slice_get cs k ≡ Some c
    → has m (void_from n actor among cs tree) ≡ (among c && not (has_effect actor c (after actor (take k cs) tree c.principal c.i_number)))
unfolding void_from after
in_turn actor among n [] tree k c m is at = absurd cc
in_turn actor among n (x ∷ xs) tree zero c m is at =
    let same : x ≡ c = cc in
    let number : m ≡ n = omega (arith, is) in
    let next = after_change actor x tree in
    ap (λ (j : ℕ). has j (void_from n actor among (x ∷ xs) tree)) number
    ∙ has_here n (void_from (n + 1) actor among xs next) (among x && not (has_effect actor x (tree x.principal x.i_number))) (none_above actor among n (n + 1) xs next (omega arith))
    ∙ ap (λ (y : Change Content). among y && not (has_effect actor y (tree y.principal y.i_number))) same
in_turn actor among n (x ∷ xs) tree (suc k) c m is at =
    let next = after_change actor x tree in
    has_later m n (void_from (n + 1) actor among xs next) (among x && not (has_effect actor x (tree x.principal x.i_number))) (λ e. omega (arith, is, e))
    ∙ in_turn actor among (n + 1) xs next k c m (omega (arith, is)) at

pub at_turn : (actor : Actor) (among : Change Content → Bool) (cs : List (Change Content)) (tree : Tree) (k : ℕ) (c : Change Content) → slice_get cs k ≡ Some c
    → has (k + 1) (void_from 1 actor among cs tree) ≡ (among c && not (has_effect actor c (after actor (take k cs) tree c.principal c.i_number)))
at_turn actor among cs tree k c at = in_turn actor among 1 cs tree k c (k + 1) (omega arith) at

either : (table none : Bool) → none ≡ ((table && none) || (not table && none))
either true true = refl
either true false = refl
either false true = refl
either false false = refl

pub joined : (actor : Actor) (cs : List (Change Content)) (tree : Tree) (k : ℕ) (c : Change Content) → slice_get cs k ≡ Some c
    → has (k + 1) (void actor cs tree) ≡ (has (k + 1) (void_of_table actor cs tree) || has (k + 1) (void_of actor c.principal cs tree))
joined actor cs tree k c at =
    let none = not (has_effect actor c (after actor (take k cs) tree c.principal c.i_number)) in
    let part = at_turn actor (is_of c.principal) cs tree k c at ∙ ap (λ (t : Bool). (t && not (is_of_table c)) && none) (eq-eqb c.principal c.principal refl) in
    at_turn actor (λ _. true) cs tree k c at
    ∙ either (is_of_table c) none
    ∙ sym (rw (at_turn actor is_of_table cs tree k c at, part) refl)

-- ---- in order

abbrev Below : Option ℕ → ℕ → Type 0
Below None n = Unit {0}
Below (Some m) n = m < n

lt_is : (m n : ℕ) → m < n → is_lt (nat_cmp m n) ≡ true
lt_is m n lt = ap is_lt (sym (nat_cmp_is m n Less lt))

above_is : (b : Option ℕ) (n : ℕ) → Below b n → above nat_cmp (λ k. k) b n ≡ true
above_is None n below = refl
above_is (Some m) n below = lt_is m n below

below_next : (b : Option ℕ) (n : ℕ) → Below b n → Below b (n + 1)
below_next None n below = tt
below_next (Some m) n below = omega (arith, below)

ascend_from : (actor : Actor) (among : Change Content → Bool) (n : ℕ) (cs : List (Change Content)) (tree : Tree) (b : Option ℕ) → Below b n → Ascends nat_cmp (λ k. k) b (void_from n actor among cs tree)
unfolding void_from Ascends
ascend_from actor among n [] tree b below = tt
ascend_from actor among n (c ∷ cs) tree b below =
    let next = after_change actor c tree in
    elim (among c && not (has_effect actor c (tree c.principal c.i_number))) as (λ t. Ascends nat_cmp (λ k. k) b (if t then n ∷ void_from (n + 1) actor among cs next else void_from (n + 1) actor among cs next)) [
      | true ↦ (above_is b n below, ascend_from actor among (n + 1) cs next (Some n) (omega arith))
      | false ↦ ascend_from actor among (n + 1) cs next b (below_next b n below)
    ]

pub ascend : (actor : Actor) (among : Change Content → Bool) (cs : List (Change Content)) (tree : Tree) → Ascends nat_cmp (λ k. k) None (void_from 1 actor among cs tree)
ascend actor among cs tree = ascend_from actor among 1 cs tree None tt
