-- The tree and a principal's part of it, after changes in turn.
use Rattle.std.proofs.Common.{◌≡◌, ◌≢◌, ℕ, suc, ◌+◌, Bool, true, false, List, [], ◌∷◌, ◌++◌, length, Option, refl, subst, sym, ap, ◌∙◌, arith}
use Rattle.std.specs.Prelude.{◌==◌, ◌&&◌, not, if◌then◌else◌}
use Rattle.std.proofs.Math.Bool.{and-false}
use Rattle.std.proofs.lemmas.Bool.{eq-eqb, ne_eqb}
use Rattle.update_cert.specs.Change.{Change}
use Rattle.layout.specs.Types.{Digest}
use Rattle.update_cert.specs.World.{Actor, Tree, has_effect, after_change, after, void_from, is_of}
use Rattle.update_cert.specs.Reading.{Reading, read_change, read_changes, after_read, void_of_read}
use Rattle.update_cert.proofs.EffectLaws.{effect_read, kind_read}
use Rattle.update_cert.proofs.Numbers.{if_void, void_step, more, no_more}
use Rattle.tree_parts.specs.Slots.{slot_after_change, slot_after}
use Rattle.tree_parts.specs.Part.{Part, Slot, IsPartOf}
use Rattle.tree_parts.specs.Acts.{is_void_of}

-- ---- changes in turn

pub after_last : (reads : Reading) (actor : Actor) (cs : List (Change Digest)) (c : Change Digest) (tree : Tree) → after_read reads actor (cs ++ c ∷ []) tree ≡ after_change actor (read_change reads c) (after_read reads actor cs tree)
unfolding after
after_last reads actor [] c tree = refl
after_last reads actor (x ∷ xs) c tree = after_last reads actor xs c (after_change actor (read_change reads x) tree)

-- the numbers, counted from this one, of a principal's changes that have no effect
abbrev voids_from : ℕ → Reading → Actor → ℕ → List (Change Digest) → Tree → List ℕ
voids_from n reads actor p cs tree = void_from n actor (is_of p) (read_changes reads cs) tree

void_is : (reads : Reading) (actor : Actor) (p : ℕ) (c : Change Digest) (tree : Tree) → is_void_of actor p (read_change reads c) tree ≡ is_void_of actor p c tree
void_is reads actor p c tree =
    ap (λ (t : Bool). is_of p (read_change reads c) && not t) (effect_read reads actor c (tree c.principal c.i_number))
    ∙ ap (λ (t : Bool). ((c.principal == p) && not t) && not (has_effect actor c (tree c.principal c.i_number))) (kind_read reads c.action)

void_last : (n : ℕ) (reads : Reading) (actor : Actor) (p : ℕ) (cs : List (Change Digest)) (c : Change Digest) (tree : Tree)
    → voids_from n reads actor p (cs ++ c ∷ []) tree ≡ voids_from n reads actor p cs tree ++ if_void (is_void_of actor p c (after_read reads actor cs tree)) (n + length cs)
unfolding after void_from
void_last n reads actor p [] c tree = ap (λ (k : ℕ). if_void (is_void_of actor p (read_change reads c) tree) k) (no_more n) ∙ ap (λ (t : Bool). if_void t (n + 0)) (void_is reads actor p c tree)
void_last n reads actor p (x ∷ xs) c tree =
    let tree2 = after_change actor (read_change reads x) tree in
    void_step (is_void_of actor p (read_change reads x) tree) n (voids_from (n + 1) reads actor p (xs ++ c ∷ []) tree2) (voids_from (n + 1) reads actor p xs tree2) (if_void (is_void_of actor p c (after_read reads actor xs tree2)) (n + suc (length xs)))
    (void_last (n + 1) reads actor p xs c tree2 ∙ ap (λ (k : ℕ). voids_from (n + 1) reads actor p xs tree2 ++ if_void (is_void_of actor p c (after_read reads actor xs tree2)) k) (more n (length xs)))

-- ---- slots

slot_last : (reads : Reading) (actor : Actor) (p i : ℕ) (cs : List (Change Digest)) (c : Change Digest) (s : Option Slot) → slot_after reads actor p i (cs ++ c ∷ []) s ≡ slot_after reads actor p i (c ∷ []) (slot_after reads actor p i cs s)
unfolding slot_after
slot_last reads actor p i [] c s = refl
slot_last reads actor p i (x ∷ xs) c s = elim ((x.principal == p) && (x.i_number == i)) as (λ t.
    (if t then slot_after reads actor p i (xs ++ c ∷ []) (slot_after_change reads actor x s) else slot_after reads actor p i (xs ++ c ∷ []) s)
    ≡ slot_after reads actor p i (c ∷ []) (if t then slot_after reads actor p i xs (slot_after_change reads actor x s) else slot_after reads actor p i xs s)) [
      | true ↦ slot_last reads actor p i xs c (slot_after_change reads actor x s)
      | false ↦ slot_last reads actor p i xs c s
    ]

-- one change of the principal's, or of another's
pub slot_own : (reads : Reading) (actor : Actor) (p i : ℕ) (c : Change Digest) (s new : Option Slot) → c.principal ≡ p → new ≡ (if c.i_number == i then slot_after_change reads actor c s else s) → new ≡ slot_after reads actor p i (c ∷ []) s
unfolding slot_after
slot_own reads actor p i c s new of is = is ∙ sym (ap (λ (t : Bool). if t && (c.i_number == i) then slot_after_change reads actor c s else s) (eq-eqb c.principal p of))

pub slot_foreign : (reads : Reading) (actor : Actor) (p i : ℕ) (c : Change Digest) (s : Option Slot) → c.principal ≢ p → s ≡ slot_after reads actor p i (c ∷ []) s
unfolding slot_after
slot_foreign reads actor p i c s other = sym (ap (λ (t : Bool). if t && (c.i_number == i) then slot_after_change reads actor c s else s) (ne_eqb c.principal p other))

pub slot_elsewhere : (reads : Reading) (actor : Actor) (p i : ℕ) (c : Change Digest) (s : Option Slot) → (c.i_number == i) ≡ false → s ≡ slot_after reads actor p i (c ∷ []) s
unfolding slot_after
slot_elsewhere reads actor p i c s other = sym (ap (λ (t : Bool). if t then slot_after_change reads actor c s else s) (ap (λ (t : Bool). (c.principal == p) && t) other ∙ and-false (c.principal == p)))

-- ---- within a scope

-- where this is made, or isn't
pub within_is : (t : Bool) (x s new : Option Slot) → t ≡ true → x ≡ (if t then new else s) → x ≡ new
within_is true x s new all is = is
within_is false x s new all is = absurd cc

pub within_none : (reads : Reading) (actor : Actor) (p i : ℕ) (s : Option Slot) (t : Bool) → s ≡ (if t then slot_after reads actor p i [] s else s)
unfolding slot_after
within_none reads actor p i s true = refl
within_none reads actor p i s false = refl

-- a change that isn't made leaves each slot
pub within_left : (reads : Reading) (actor : Actor) (p i : ℕ) (c : Change Digest) (s : Option Slot) (t : Bool) → (t ≡ true → (c.i_number == i) ≡ false) → s ≡ (if t then slot_after reads actor p i (c ∷ []) s else s)
within_left reads actor p i c s true other = slot_elsewhere reads actor p i c s (other refl)
within_left reads actor p i c s false other = refl

-- and one that is made those out of the scope
pub within_made : (reads : Reading) (actor : Actor) (p i : ℕ) (c : Change Digest) (s new : Option Slot) (t : Bool) → (t ≡ false → (c.i_number == i) ≡ false) → new ≡ slot_after reads actor p i (c ∷ []) s → new ≡ (if t then slot_after reads actor p i (c ∷ []) s else s)
within_made reads actor p i c s new true other is = is
within_made reads actor p i c s new false other is = is ∙ sym (slot_elsewhere reads actor p i c s (other refl))

-- ---- one change more

pub part_next : (reads : Reading) (actor : Actor) (cs next : List (Change Digest)) (c : Change Digest) (part : Part) (tree : Tree) → next ≡ cs ++ c ∷ [] → IsPartOf reads part (after_change actor (read_change reads c) (after_read reads actor cs tree)) → IsPartOf reads part (after_read reads actor next tree)
part_next reads actor cs next c part tree is here =
    subst (λ (t : Tree). IsPartOf reads part t) (sym (ap (λ (xs : List (Change Digest)). after_read reads actor xs tree) is ∙ after_last reads actor cs c tree)) here

pub slot_next : (reads : Reading) (actor : Actor) (p i : ℕ) (cs next : List (Change Digest)) (c : Change Digest) (first old new : Option Slot) → next ≡ cs ++ c ∷ [] → old ≡ slot_after reads actor p i cs first → new ≡ slot_after reads actor p i (c ∷ []) old → new ≡ slot_after reads actor p i next first
slot_next reads actor p i cs next c first old new is before more =
    more
    ∙ ap (slot_after reads actor p i (c ∷ [])) before
    ∙ sym (slot_last reads actor p i cs c first)
    ∙ sym (ap (λ (xs : List (Change Digest)). slot_after reads actor p i xs first) is)

pub within_next : (reads : Reading) (actor : Actor) (p i : ℕ) (cs next : List (Change Digest)) (c : Change Digest) (first old new : Option Slot) (t : Bool) → next ≡ cs ++ c ∷ [] → old ≡ (if t then slot_after reads actor p i cs first else first)
    → new ≡ (if t then slot_after reads actor p i (c ∷ []) old else old) → new ≡ (if t then slot_after reads actor p i next first else first)
within_next reads actor p i cs next c first old new true is before more = slot_next reads actor p i cs next c first old new is before more
within_next reads actor p i cs next c first old new false is before more = more ∙ before

pub voids_next : (reads : Reading) (actor : Actor) (p k : ℕ) (cs next : List (Change Digest)) (c : Change Digest) (tree : Tree) (old new : List ℕ) (t : Bool) → next ≡ cs ++ c ∷ [] → length cs ≡ k → t ≡ is_void_of actor p c (after_read reads actor cs tree) → old ≡ void_of_read reads actor p cs tree → new ≡ old ++ if_void t (k + 1) → new ≡ void_of_read reads actor p next tree
voids_next reads actor p k cs next c tree old new t is long told before more =
    let number : k + 1 ≡ 1 + length cs = omega (arith, long) in
    more
    ∙ ap (λ (ns : List ℕ). ns ++ if_void t (k + 1)) before
    ∙ ap (λ (b : Bool). void_of_read reads actor p cs tree ++ if_void b (k + 1)) told
    ∙ ap (λ (n : ℕ). void_of_read reads actor p cs tree ++ if_void (is_void_of actor p c (after_read reads actor cs tree)) n) number
    ∙ sym (void_last 1 reads actor p cs c tree)
    ∙ sym (ap (λ (xs : List (Change Digest)). void_of_read reads actor p xs tree) is)
