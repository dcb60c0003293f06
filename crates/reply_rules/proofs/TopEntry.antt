-- Top is the first of the structures that it doesn't outrank.
use Rattle.std.proofs.Common.{◌≡◌, ◌≤◌, ◌⊎◌, true, false, List, [], ◌∷◌, Option, Some, None, length, take, drop, map, refl, sym, ap, subst, ◌∙◌, inl, inr, arith, eq-eqb}
use Rattle.std.proofs.lemmas.Bool.{cases_Bool, le-ltb}
use Rattle.version_order.specs.declared.plan.Entry.{Entry}
use Rattle.version_order.specs.Plan.{Plan, entry_of}
use Rattle.version_order.specs.Structure.{Structure}
use Rattle.pending_list.specs.declared.signed.Signed.{Signed}
use Rattle.pending_list.specs.Reply.{depth_of, user_of, outranks, higher, top}
use Rattle.reply_rules.specs.Rules.{entries_of}

abbrev Shown : Type 0
Shown = Signed Structure

abbrev entries_in : List Shown → List Entry
entries_in ss = entries_of (map (λ z. z.value.plan) ss)

-- no structure outranks itself
not_itself : (s : Shown) → outranks s s ≡ false
unfolding outranks
not_itself s = rw (le-ltb (depth_of s) (depth_of s) (omega arith), eq-eqb (depth_of s) (depth_of s) refl, le-ltb (user_of s) (user_of s) (omega arith)) refl

-- the higher one is the first, where it doesn't outrank that
chosen : (s t : Shown) (o : Option Shown) → higher s o ≡ Some t → outranks t s ≡ false → s ≡ t
chosen s t None e not_so = cc
chosen s t (Some u) e not_so =
    elim (cases_Bool (outranks u s)) [
      | inl is_so ↦
          let is : Some u ≡ Some t = rw is_so at e in
          let same : u ≡ t = cc in
          let bad : true ≡ false = sym (subst (λ (v : Shown). outranks v s ≡ true) same is_so) ∙ not_so in
          absurd cc
      | inr less ↦
          let is : Some s ≡ Some t = rw less at e in
          cc
    ]

-- else it is the highest of the others
passed : (s t : Shown) (o : Option Shown) → higher s o ≡ Some t → outranks t s ≡ true → o ≡ Some t
passed s t None e is_so =
    let same : s ≡ t = cc in
    let bad : true ≡ false = sym (subst (λ (v : Shown). outranks t v ≡ true) same is_so) ∙ not_itself t in
    absurd cc
passed s t (Some u) e is_so =
    elim (cases_Bool (outranks u s)) [
      | inl more ↦ rw more at e
      | inr less ↦
          let is : Some s ≡ Some t = rw less at e in
          let same : s ≡ t = cc in
          let bad : true ≡ false = sym (subst (λ (v : Shown). outranks t v ≡ true) same is_so) ∙ not_itself t in
          absurd cc
    ]

-- ---- what is left of the structures and of their entries

pub one_left : (ls ss : List Shown) (s : Shown) (rest : List Entry) → ls ≡ s ∷ ss → rest ≡ entries_in ls → 1 ≤ length rest
one_left ls ss s rest here made = omega (arith, ap (λ (es : List Entry). length es) (made ∙ ap entries_in here))

pub found : (ls ss : List Shown) (s t : Shown) (rest own : List Entry) → ls ≡ s ∷ ss → rest ≡ entries_in ls → top ls ≡ Some t → outranks t s ≡ false → own ≡ take 1 rest
    → own ≡ entry_of t.value.plan ∷ []
found ls ss s t rest own here made best not_so cut =
    cut ∙ ap (λ (es : List Entry). take 1 es) (made ∙ ap entries_in here)
    ∙ ap (λ (z : Shown). entry_of z.value.plan ∷ []) (chosen s t (top ss) (sym (ap top here) ∙ best) not_so)

pub entries_left : (ls ss : List Shown) (s : Shown) (rest later : List Entry) → ls ≡ s ∷ ss → rest ≡ entries_in ls → later ≡ drop 1 rest → later ≡ entries_in ss
entries_left ls ss s rest later here made cut = cut ∙ ap (λ (es : List Entry). drop 1 es) (made ∙ ap entries_in here)

pub top_left : (ls ss : List Shown) (s t : Shown) → ls ≡ s ∷ ss → top ls ≡ Some t → outranks t s ≡ true → top ss ≡ Some t
top_left ls ss s t here best is_so = passed s t (top ss) (sym (ap top here) ∙ best) is_so

pub some_left : (ls : List Shown) (t : Shown) → ls ≡ [] → top ls ≡ Some t → ⊥
some_left ls t none best = let bad : None ≡ Some t = sym (ap top none) ∙ best in cc
