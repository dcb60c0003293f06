-- The changes that are lost are those without effect.
use Rattle.std.proofs.Common.{◌≡◌, ℕ, suc, ◌+◌, ◌<◌, ◌≤◌, Bool, true, false, List, [], ◌∷◌, ◌++◌, Option, length, drop, refl, sym, ap, ◌∙◌, arith, append_assoc, add-one, drop-cons}
use Rattle.std.specs.Prelude.{◌==◌, ◌&&◌, ◌||◌, not, slice_index_or, if◌then◌else◌}
use Rattle.std.specs.List.{All, list_any}
use Rattle.std.proofs.lemmas.Bool.{eq-eqb, eqb-true, ne_eqb}
use Rattle.std.proofs.lemmas.List.{append-nil, drop_all}
use Rattle.std.proofs.lemmas.List.Elements.{All-cons, All-head, All-nil, All-tail, All-weaker}
use Rattle.layout.specs.Types.{Digest, Principal}
use Rattle.update_cert.specs.Change.{Change}
use Rattle.update_cert.specs.World.{Actor, Content, Tree, after_change, has_effect, is_of, is_of_table, permitted, void_from}
use Rattle.update_cert.specs.Reading.{Reading, read_change, read_changes, void_read, void_of_read, void_of_table_read}
use Rattle.client_tree.specs.Lost.{PartVoids, counts, is_kept, lost_from}

-- ---- the loop

at_place : {C : Type 0} (cs : List (Change C)) (i : ℕ) (c : Change C) → i < length cs → c ≡ slice_index_or cs i c → drop i cs ≡ c ∷ drop (i + 1) cs
at_place cs i c inside is = rw add-one (drop-cons cs i c inside ∙ ap (λ x. x ∷ drop (suc i) cs) (sym is))

step : {C : Type 0} (n : ℕ) (vs : List PartVoids) (table old all : List ℕ) (c : Change C) (rest : List (Change C)) (t : Bool) → is_kept n vs table c ≡ t → old ++ lost_from n vs table (c ∷ rest) ≡ all
    → (if t then old else old ++ n ∷ []) ++ lost_from (n + 1) vs table rest ≡ all
step n vs table old all c rest true is so_far = rw is at so_far
step n vs table old all c rest false is so_far = rw (append_assoc old (n ∷ []) (lost_from (n + 1) vs table rest)) (rw is at so_far)

-- one change more
pub lost_next : {C : Type 0} (vs : List PartVoids) (table old new all : List ℕ) (cs : List (Change C)) (i : ℕ) (c : Change C) (t : Bool) → i < length cs → c ≡ slice_index_or cs i c → is_kept (i + 1) vs table c ≡ t → new ≡ (if t then old else old ++ (i + 1) ∷ [])
    → old ++ lost_from (i + 1) vs table (drop i cs) ≡ all → new ++ lost_from (i + 1 + 1) vs table (drop (i + 1) cs) ≡ all
lost_next vs table old new all cs i c t inside at is grown so_far =
    rw grown (step (i + 1) vs table old all c (drop (i + 1) cs) t is (rw (at_place cs i c inside at) at so_far))

-- all of them
pub lost_all : {C : Type 0} (vs : List PartVoids) (table old all : List ℕ) (cs : List (Change C)) (i : ℕ) → length cs ≤ i → old ++ lost_from (i + 1) vs table (drop i cs) ≡ all → old ≡ all
lost_all vs table old all cs i past so_far = sym (append-nil old) ∙ (rw (drop_all i cs past) at so_far)

-- ---- what is lost has no effect

abbrev has : ℕ → List ℕ → Bool
has n ns = list_any (λ m. m == n) ns

-- numbers that are counted from above one don't have it
none_above : (actor : Actor) (among : Change Content → Bool) (n m : ℕ) (cs : List (Change Content)) (tree : Tree) → n < m → has n (void_from m actor among cs tree) ≡ false
unfolding void_from
none_above actor among n m [] tree lt = refl
none_above actor among n m (c ∷ cs) tree lt =
    let rest = void_from (m + 1) actor among cs (after_change actor c tree) in
    let later = none_above actor among n (m + 1) cs (after_change actor c tree) (omega (arith, lt)) in
    elim (among c && not (has_effect actor c (tree c.principal c.i_number))) as (λ t. has n (if t then m ∷ rest else rest) ≡ false) [
      | true ↦ rw (ne_eqb m n (omega (arith, lt))) later
      | false ↦ later
    ]

has_here : (n : ℕ) (rest : List ℕ) (t : Bool) → has n rest ≡ false → has n (if t then n ∷ rest else rest) ≡ t
has_here n rest true none = rw (eq-eqb n n refl) refl
has_here n rest false none = none

has_later : (n m : ℕ) (rest : List ℕ) (t : Bool) → (m ≡ n → ⊥) → has n (if t then m ∷ rest else rest) ≡ has n rest
has_later n m rest true other = rw (ne_eqb m n other) refl
has_later n m rest false other = refl

-- the number of a change is among those where it is one of them and has no effect
here : (actor : Actor) (among : Change Content → Bool) (n : ℕ) (c : Change Content) (cs : List (Change Content)) (tree : Tree) → has n (void_from n actor among (c ∷ cs) tree) ≡ (among c && not (has_effect actor c (tree c.principal c.i_number)))
unfolding void_from
here actor among n c cs tree =
    let effect = has_effect actor c (tree c.principal c.i_number) in
    let next = after_change actor c tree in
    has_here n (void_from (n + 1) actor among cs next) (among c && not effect) (none_above actor among n (n + 1) cs next (omega arith))

-- a later number is among those of the changes after it
further : (actor : Actor) (among : Change Content → Bool) (n m : ℕ) (c : Change Content) (cs : List (Change Content)) (tree : Tree) → m < n → has n (void_from m actor among (c ∷ cs) tree) ≡ has n (void_from (m + 1) actor among cs (after_change actor c tree))
unfolding void_from
further actor among n m c cs tree lt =
    has_later n m (void_from (m + 1) actor among cs (after_change actor c tree)) (among c && not (has_effect actor c (tree c.principal c.i_number))) (λ e. omega (arith, lt, e))

-- these are the numbers from this one on of such changes that have no effect
abbrev AreVoids : Actor → (Change Content → Bool) → ℕ → List (Change Content) → Tree → List ℕ → Type 0
AreVoids actor among n cs tree numbers = (m : ℕ) → n ≤ m → has m numbers ≡ has m (void_from n actor among cs tree)

are_next : (actor : Actor) (among : Change Content → Bool) (n : ℕ) (c : Change Content) (cs : List (Change Content)) (tree : Tree) (numbers : List ℕ) → AreVoids actor among n (c ∷ cs) tree numbers → AreVoids actor among (n + 1) cs (after_change actor c tree) numbers
are_next actor among n c cs tree numbers are m le = are m (omega (arith, le)) ∙ further actor among m n c cs tree (omega (arith, le))

-- each part has those that are done in it
abbrev HasVoids : Actor → ℕ → List (Change Content) → Tree → PartVoids → Type 0
HasVoids actor n cs tree v = AreVoids actor (is_of v.principal) n cs tree v.numbers

abbrev HaveVoids : Actor → List PartVoids → ℕ → List (Change Content) → Tree → Type 0
HaveVoids actor vs n cs tree = All (HasVoids actor n cs tree) vs

have_next : (actor : Actor) (vs : List PartVoids) (n : ℕ) (c : Change Content) (cs : List (Change Content)) (tree : Tree) → HaveVoids actor vs n (c ∷ cs) tree → HaveVoids actor vs (n + 1) cs (after_change actor c tree)
have_next actor vs n c cs tree have =
    All-weaker (HasVoids actor n (c ∷ cs) tree) (HasVoids actor (n + 1) cs (after_change actor c tree))
    (λ v are. are_next actor (is_of v.principal) n c cs tree v.numbers are) vs have

abbrev pub lists : Principal → List PartVoids → Bool
lists p vs = list_any (λ v. v.principal == p) vs

-- done in its own part, a change has no number there where it is of the table or has effect
in_part : (own table effect : Bool) → own ≡ true → not ((own && not table) && not effect) ≡ (table || effect)
in_part true true effect is = refl
in_part true false true is = refl
in_part true false false is = refl
in_part false table effect is = absurd cc

here_of : (actor : Actor) (p n : ℕ) (c : Change Content) (cs : List (Change Content)) (tree : Tree) (ns : List ℕ) (own : Bool) → (p == c.principal) ≡ own → has n ns ≡ has n (void_from n actor (is_of p) (c ∷ cs) tree)
    → (own && not (has n ns)) ≡ (own && (is_of_table c || has_effect actor c (tree c.principal c.i_number)))
here_of actor p n c cs tree ns false is same = refl
here_of actor p n c cs tree ns true is same =
    let effect = has_effect actor c (tree c.principal c.i_number) in
    let at : (c.principal == p) ≡ true = eq-eqb c.principal p (sym (eqb-true p c.principal is)) in
    ap not (same ∙ here actor (is_of p) n c cs tree) ∙ in_part (c.principal == p) (is_of_table c) effect at

joined : (own effect others : Bool) → ((own && effect) || (others && effect)) ≡ ((own || others) && effect)
joined true true others = refl
joined true false others = elim others as (λ t. (false || (t && false)) ≡ false) [ true ↦ refl | false ↦ refl ]
joined false effect others = refl

-- a change counts where its principal's part is there, and it is of the table or has effect
counted : (actor : Actor) (vs : List PartVoids) (n : ℕ) (c : Change Content) (cs : List (Change Content)) (tree : Tree) → HaveVoids actor vs n (c ∷ cs) tree
    → list_any (counts n c) vs ≡ (lists c.principal vs && (is_of_table c || has_effect actor c (tree c.principal c.i_number)))
counted actor [] n c cs tree have = refl
counted actor (v ∷ vs) n c cs tree have =
    let effect = is_of_table c || has_effect actor c (tree c.principal c.i_number) in
    let first = here_of actor v.principal n c cs tree v.numbers (v.principal == c.principal) refl (All-head (HasVoids actor n (c ∷ cs) tree) v vs have n (omega arith)) in
    let rest = counted actor vs n c cs tree (All-tail (HasVoids actor n (c ∷ cs) tree) v vs have) in
    rw (first, rest) (joined (v.principal == c.principal) effect (lists c.principal vs))

both : (listed table effect : Bool) → ((listed && (table || effect)) && not (table && not effect)) ≡ (listed && effect)
both false table effect = refl
both true true true = refl
both true true false = refl
both true false true = refl
both true false false = refl

-- and so it is kept where its principal's part is there and it has effect
kept : (actor : Actor) (vs : List PartVoids) (table : List ℕ) (n : ℕ) (c : Change Content) (cs : List (Change Content)) (tree : Tree) → HaveVoids actor vs n (c ∷ cs) tree → AreVoids actor is_of_table n (c ∷ cs) tree table
    → is_kept n vs table c ≡ (lists c.principal vs && has_effect actor c (tree c.principal c.i_number))
kept actor vs table n c cs tree have are =
    let effect = has_effect actor c (tree c.principal c.i_number) in
    rw (counted actor vs n c cs tree have, are n (omega arith) ∙ here actor is_of_table n c cs tree) (both (lists c.principal vs) (is_of_table c) effect)

-- a change without permission has no effect
foreign : (actor : Actor) (c : Change Content) (content : Option Content) → permitted actor c ≡ false → has_effect actor c content ≡ false
unfolding has_effect
foreign actor c content denied = rw denied refl

-- each principal of these changes whose change is permitted has its part there
abbrev pub IsListed : {C : Type 0} → Actor → List PartVoids → Change C → Type 0
IsListed actor vs c = permitted actor c ≡ true → lists c.principal vs ≡ true

abbrev pub AreListed : {C : Type 0} → Actor → List PartVoids → List (Change C) → Type 0
AreListed actor vs cs = All (IsListed actor vs) cs

decided : (listed effect may : Bool) → (may ≡ true → listed ≡ true) → (may ≡ false → effect ≡ false) → (listed && effect) ≡ effect
decided true effect may there none = refl
decided false effect true there none = let clash = there refl in absurd cc
decided false effect false there none = sym (none refl)

lost_step : (n : ℕ) (counts effect : Bool) (rest voids : List ℕ) → counts ≡ effect → rest ≡ voids → (if counts then rest else n ∷ rest) ≡ (if true && not effect then n ∷ voids else voids)
lost_step n true true rest voids is same = same
lost_step n false false rest voids is same = ap (λ (ns : List ℕ). n ∷ ns) same
lost_step n true false rest voids is same = absurd cc
lost_step n false true rest voids is same = absurd cc

lost_after : (actor : Actor) (vs : List PartVoids) (table : List ℕ) (n : ℕ) (cs : List (Change Content)) (tree : Tree) → HaveVoids actor vs n cs tree → AreVoids actor is_of_table n cs tree table → AreListed actor vs cs
    → lost_from n vs table cs ≡ void_from n actor (λ _. true) cs tree
unfolding void_from
lost_after actor vs table n [] tree have are listed = refl
lost_after actor vs table n (c ∷ cs) tree have are listed =
    let effect = has_effect actor c (tree c.principal c.i_number) in
    let is = kept actor vs table n c cs tree have are ∙ decided (lists c.principal vs) effect (permitted actor c) (All-head (IsListed actor vs) c cs listed) (foreign actor c (tree c.principal c.i_number)) in
    lost_step n (is_kept n vs table c) effect (lost_from (n + 1) vs table cs) (void_from (n + 1) actor (λ _. true) cs (after_change actor c tree)) is
    (lost_after actor vs table (n + 1) cs (after_change actor c tree) (have_next actor vs n c cs tree have) (are_next actor is_of_table n c cs tree table are) (All-tail (IsListed actor vs) c cs listed))

-- what a digest stands for doesn't matter
lost_read : (reads : Reading) (n : ℕ) (vs : List PartVoids) (table : List ℕ) (cs : List (Change Digest)) → lost_from n vs table cs ≡ lost_from n vs table (read_changes reads cs)
lost_read reads n vs table [] = refl
lost_read reads n vs table (c ∷ cs) = ap (λ (ns : List ℕ). if is_kept n vs table c then ns else n ∷ ns) (lost_read reads (n + 1) vs table cs)

listed_read : (reads : Reading) (actor : Actor) (vs : List PartVoids) (cs : List (Change Digest)) → AreListed actor vs cs → AreListed actor vs (read_changes reads cs)
listed_read reads actor vs [] listed = All-nil (IsListed actor vs)
listed_read reads actor vs (c ∷ cs) listed = All-cons (IsListed actor vs) (read_change reads c) (read_changes reads cs) (All-head (IsListed actor vs) c cs listed) (listed_read reads actor vs cs (All-tail (IsListed actor vs) c cs listed))

-- where each part has the voids of its principal, these numbers are those of the table, and each principal whose changes
-- are permitted has its part, the changes that aren't kept are those without effect
pub lost_is_void : (reads : Reading) (actor : Actor) (vs : List PartVoids) (table : List ℕ) (cs : List (Change Digest)) (tree : Tree) → All (λ v. v.numbers ≡ void_of_read reads actor v.principal cs tree) vs
    → table ≡ void_of_table_read reads actor cs tree → AreListed actor vs cs
    → lost_from 1 vs table cs ≡ void_read reads actor cs tree
lost_is_void reads actor vs table cs tree voids of_table listed =
    let have : HaveVoids actor vs 1 (read_changes reads cs) tree = All-weaker (λ v. v.numbers ≡ void_of_read reads actor v.principal cs tree) (HasVoids actor 1 (read_changes reads cs) tree) (λ v is m le. ap (has m) is) vs voids in
    lost_read reads 1 vs table cs ∙ lost_after actor vs table 1 (read_changes reads cs) tree have (λ m le. ap (has m) of_table) (listed_read reads actor vs cs listed)
