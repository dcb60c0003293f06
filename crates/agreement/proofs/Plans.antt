-- Views agree: over any type of plans, from what the rules say of a view as counts and members.
use Rattle.std.proofs.Common.{◌≡◌, ◌≢◌, ℕ, zero, suc, ◌+◌, ◌<◌, ◌≤◌, List, [], ◌∷◌, ◌++◌, length, Option, Some, None, Bool, true, false, refl, sym, ap, ◌∙◌, subst, inl, inr, arith, append_assoc, length-append}
use Rattle.std.specs.Prelude.{◌⊎◌, ◌==◌, ◌&&◌, if◌then◌else◌}
use Rattle.std.specs.List.{filter}
use Rattle.std.proofs.lemmas.List.{append-nil}
use Rattle.std.proofs.lemmas.Bool.{eqb-true, eq-eqb, ne_eqb, cases_Bool, cases_lt, cases_eq, and_left, and_right}
use Rattle.agreement.proofs.Members.{In, one, in-left, in-right, in-append, in-middle, in-split, split, nil-split, one-same, one-other, one-cases, last_or_nil, last_same}

-- A view: its structures' plans, the pending plans of others in order, the own plan, the top, the pending plans
-- that are above, in order, and those that aren't.
pub record View (Plan : Type 0) : Type 0 where
  pub structures : List Plan
  pub others : List Plan
  pub own : Plan
  pub top : Option Plan
  pub above : List Plan
  pub below : List Plan

-- Plans and entries, as the proof sees them.
pub record Shape (Plan Entry : Type 0) : Type 0 where
  pub user_of : Plan → ℕ
  pub number_of_plan : Plan → ℕ
  pub version_at : ℕ → Plan → ℕ
  pub entries_in : Plan → List Entry
  pub entry_for : Plan → Entry
  pub entry_user : Entry → ℕ
  pub entry_number : Entry → ℕ
  pub same_user : (p : Plan) → entry_user (entry_for p) ≡ user_of p
  pub same_number : (p : Plan) → entry_number (entry_for p) ≡ number_of_plan p

module _ (Plan Entry : Type 0) (shape : Shape Plan Entry) where
  abbrev pub user : Plan → ℕ
  user p = shape.user_of p

  abbrev pub number : Plan → ℕ
  number p = shape.number_of_plan p

  abbrev pub version : ℕ → Plan → ℕ
  version u p = shape.version_at u p

  abbrev pub entries : Plan → List Entry
  entries p = shape.entries_in p

  abbrev pub entry_of : Plan → Entry
  entry_of p = shape.entry_for p

  abbrev pub user_in : Entry → ℕ
  user_in e = shape.entry_user e

  abbrev pub number_at : Entry → ℕ
  number_at e = shape.entry_number e

  user_law : (p : Plan) → user_in (entry_of p) ≡ user p
  user_law p = shape.same_user p

  number_law : (p : Plan) → number_at (entry_of p) ≡ number p
  number_law p = shape.same_number p

  -- 1 for each plan of the user
  abbrev pub count : ℕ → List Plan → ℕ
  count u [] = 0
  count u (p ∷ ps) = one u (user p) + count u ps

  -- each plan has one more for its user than the one before it
  abbrev pub Chained : (ℕ → ℕ) → List Plan → Type 0
  Chained v [] = Unit {0}
  Chained v (p ∷ ps) = ((u : ℕ) → version u p ≡ v u + one u (user p)) × Chained (λ u. version u p) ps

  abbrev pub EachOnce : List Plan → Type 0
  EachOnce [] = Unit {0}
  EachOnce (p ∷ ps) = ((q : Plan) → In q ps → user p ≢ user q) × EachOnce ps

  abbrev pub pending : View Plan → List Plan
  pending x = x.others ++ x.own ∷ []

  abbrev pub version_of : Option Plan → ℕ → ℕ
  version_of None u = 0
  version_of (Some t) u = version u t

  abbrev pub entries_of : Option Plan → List Entry
  entries_of None = []
  entries_of (Some t) = entries t

  abbrev pub structure_of : ℕ → List Plan → Option Plan
  structure_of u [] = None
  structure_of u (z ∷ zs) = if u == user z then Some z else structure_of u zs

  abbrev pub number_in : Option Plan → ℕ
  number_in None = 0
  number_in (Some z) = number z

  abbrev pub number_of : ℕ → View Plan → ℕ
  number_of u x = number_in (structure_of u x.structures)

  abbrev pub IsOf : Entry → List Plan → Type 0
  IsOf e ps = (p : Plan) × In p ps × (e ≡ entry_of p)

  pub record Shows (x : View Plan) (before : List Plan) (p : Plan) : Type 0 where
    pub earlier : (q : Plan) → In q before → In (entry_of q) (entries p)
    pub rest : (e : Entry) → In e (entries p) → IsOf e before ⊎ (In e (entries_of x.top) ⊎ ((t : Plan) × (x.top ≡ Some t) × (e ≡ entry_of t)))
    pub waiting : (q : Plan) → In q x.below → In (entry_of q) (entries p)

  -- what the rules say of a view
  pub record Rules (x : View Plan) : Type 0 where
    -- lists and the top
    pub structures_once : EachOnce x.structures
    pub pending_once : EachOnce (pending x)
    pub top_in : (t : Plan) → x.top ≡ Some t → In t x.structures
    pub top_none : x.top ≡ None → x.structures ≡ []
    pub above_pending : (q : Plan) → In q x.above → In q (pending x)
    pub below_pending : (q : Plan) → In q x.below → In q (pending x)
    pub pending_cases : (q : Plan) → In q (pending x) → In q x.above ⊎ In q x.below
    pub parts : (u : ℕ) → count u x.above + count u x.below ≡ count u (pending x)
    pub above_ends : (front : List Plan) × (x.above ≡ front ++ x.own ∷ [])
    -- numbers
    pub of_pending : (p : Plan) → In p (pending x) → number p ≡ version (user p) p
    pub next : (p : Plan) → In p (pending x) → number p ≡ suc (number_of (user p) x)
    pub of_top : (u : ℕ) → version_of x.top u ≡ number_of u x + count u x.below
    -- vector
    pub chained : Chained (version_of x.top) x.above
    -- entries
    pub top_only : (e : Entry) → In e (entries_of x.top) → IsOf e x.structures ⊎ IsOf e (pending x)
    pub top_waiting : (p : Plan) → In p x.below → In (entry_of p) (entries_of x.top)
    pub of_above : (before : List Plan) (p : Plan) (after : List Plan) → x.above ≡ before ++ p ∷ after → Shows x before p
    pub own_only : (e : Entry) → In e (entries x.own) → IsOf e x.others
    pub own_all : (q : Plan) → In q x.others → In (entry_of q) (entries x.own)
    pub one_each : (p : Plan) → In p (pending x) → (d e : Entry) → In d (entries p) → In e (entries p) → user_in d ≡ user_in e → d ≡ e

  -- the plan that a user released last
  abbrev pub last_own : ℕ → List (View Plan) → Option Plan
  last_own u [] = None
  last_own u (y ∷ ys) = if u == user y.own then Some y.own else last_own u ys

  abbrev pub IsReleased : List (View Plan) → Plan → Type 0
  IsReleased run s = (y : View Plan) × In y run × (y.own ≡ s)

  -- what an accepted view meets, after these
  pub record Accepted (older : List (View Plan)) (x : View Plan) : Type 0 where
    pub rules : Rules x
    pub own_last : structure_of (user x.own) x.structures ≡ last_own (user x.own) older
    pub released : (s : Plan) → In s x.structures → IsReleased older s

  -- the latest view first
  abbrev pub Valid : List (View Plan) → Type 0
  Valid [] = Unit {0}
  Valid (x ∷ older) = Accepted older x × Valid older

  abbrev pub OccursIn : Plan → View Plan → Type 0
  OccursIn p y = In p y.structures ⊎ In p (pending y)

  abbrev pub Occurs : Plan → List (View Plan) → Type 0
  Occurs p run = (y : View Plan) × In y run × OccursIn p y

  abbrev pub NoCollision : List (View Plan) → Type 0
  NoCollision run = (p q : Plan) → Occurs p run → Occurs q run → entry_of p ≡ entry_of q → p ≡ q

  abbrev pub base : (ℕ → ℕ → List Plan) → Option Plan → List Plan
  base lines None = []
  base lines (Some t) = lines (user t) (number t)

  abbrev pub line_at : List (View Plan) → ℕ → ℕ → List Plan
  line_at [] u n = []
  line_at (x ∷ older) u n =
      if (user x.own == u) && (number x.own == n) then base (line_at older) x.top ++ x.above else line_at older u n

  abbrev pub line : List (View Plan) → View Plan → List Plan
  line run x = line_at run (user x.own) (number x.own)

  pub record Agree (a b : List Plan) (s : Plan) : Type 0 where
    pub before : List Plan
    pub after_a : List Plan
    pub after_b : List Plan
    pub of_a : a ≡ before ++ s ∷ after_a
    pub of_b : b ≡ before ++ s ∷ after_b

  pub record Counted (before : List Plan) (p : Plan) : Type 0 where
    pub of_user : (u : ℕ) → version u p ≡ count u (before ++ p ∷ [])
    pub of_number : number p ≡ count (user p) (before ++ p ∷ [])

  -- counts

  user_of_entry : {p q : Plan} → entry_of p ≡ entry_of q → user p ≡ user q
  user_of_entry {p} {q} e = sym (user_law p) ∙ ap user_in e ∙ user_law q

  number_of_entry : {p q : Plan} → entry_of p ≡ entry_of q → number p ≡ number q
  number_of_entry {p} {q} e = sym (number_law p) ∙ ap number_at e ∙ number_law q

  abbrev has : ℕ → List Plan → Bool
  has u [] = false
  has u (p ∷ ps) = if u == user p then true else has u ps

  has-in : (u : ℕ) (ps : List Plan) → has u ps ≡ true → (q : Plan) × In q ps × (u ≡ user q)
  has-in u [] h = cc
  has-in u (p ∷ ps) h =
      elim (cases_eq u (user p)) [
        | inl e ↦ (p, inl refl, e)
        | inr n ↦ (let k : has u ps ≡ true = rw (ne_eqb u (user p) n) at h in let r = has-in u ps k in (r.0, inr r.1, r.2))
      ]

  not_in : (u : ℕ) (ps : List Plan) → has u ps ≡ false → (q : Plan) → In q ps → u ≢ user q
  not_in u [] h q i e = absurd i
  not_in u (p ∷ ps) h q (inl i) e =
      let k : true ≡ false = rw (eq-eqb u (user p) (e ∙ ap user i)) at h in
      cc
  not_in u (p ∷ ps) h q (inr i) e =
      elim (cases_eq u (user p)) [
        | inl m ↦ (let k : true ≡ false = rw (eq-eqb u (user p) m) at h in cc)
        | inr n ↦ (let k : has u ps ≡ false = rw (ne_eqb u (user p) n) at h in not_in u ps k q i e)
      ]

  pub count-append : (u : ℕ) (xs ys : List Plan) → count u (xs ++ ys) ≡ count u xs + count u ys
  count-append u [] ys = omega arith
  count-append u (x ∷ xs) ys = let ih = count-append u xs ys in omega arith

  count-in : (q : Plan) (ps : List Plan) → In q ps → 0 < count (user q) ps
  count-in q [] h = absurd h
  count-in q (p ∷ ps) (inl e) = let o : one (user q) (user p) ≡ 1 = one-same (user q) (user p) (ap user e) in omega arith
  count-in q (p ∷ ps) (inr h) = let k = count-in q ps h in omega arith

  count-absent : (u : ℕ) (ps : List Plan) → ((q : Plan) → In q ps → u ≢ (user q)) → count u ps ≡ 0
  count-absent u [] h = refl
  count-absent u (p ∷ ps) h =
      let ih = count-absent u ps (λ q i. h q (inr i)) in
      let o = one-other u (user p) (h p (inl refl)) in
      omega arith

  count-none : (u : ℕ) (ps : List Plan) → has u ps ≡ false → count u ps ≡ 0
  count-none u ps h = count-absent u ps (not_in u ps h)

  pub once : (ps : List Plan) → EachOnce ps → (p q : Plan) → In p ps → In q ps → (user p) ≡ (user q) → p ≡ q
  once [] o p q i j e = absurd i
  once (x ∷ xs) o p q (inl i) (inl j) e = i ∙ sym j
  once (x ∷ xs) o p q (inl i) (inr j) e = absurd (o.0 q j (sym (ap user i) ∙ e))
  once (x ∷ xs) o p q (inr i) (inl j) e = absurd (o.0 p i (sym (ap user j) ∙ sym e))
  once (x ∷ xs) o p q (inr i) (inr j) e = once xs o.1 p q i j e

  pub count-once : (u : ℕ) (ps : List Plan) → EachOnce ps → count u ps ≤ 1
  count-once u [] o = omega arith
  count-once u (p ∷ ps) o =
      let ih = count-once u ps o.1 in
      elim (one-cases u (user p)) [
        | inl e ↦ (let z = count-absent u ps (λ q i k. o.0 q i (sym e.0 ∙ k)) in omega arith)
        | inr e ↦ omega arith
      ]

  -- in a list with no plan of any user is nothing
  nil_from_counts : (ps : List Plan) → ((u : ℕ) → count u ps ≡ 0) → ps ≡ []
  nil_from_counts [] h = refl
  nil_from_counts (p ∷ ps) h = let k = count-in p (p ∷ ps) (inl refl) in let z = h (user p) in absurd (omega arith)

  abbrev final : (ℕ → ℕ) → List Plan → ℕ → ℕ
  final v [] = v
  final v (p ∷ ps) = final (λ u. version u p) ps

  final-append : (v : ℕ → ℕ) (a b : List Plan) → final v (a ++ b) ≡ final (final v a) b
  final-append v [] b = refl
  final-append v (p ∷ a) b = final-append (λ u. version u p) a b

  chained-append : (v : ℕ → ℕ) (a b : List Plan) → Chained v a → Chained (final v a) b → Chained v (a ++ b)
  chained-append v [] b h k = k
  chained-append v (p ∷ a) b h k = (h.0, chained-append (λ u. version u p) a b h.1 k)

  chained-front : (v : ℕ → ℕ) (a b : List Plan) → Chained v (a ++ b) → Chained v a
  chained-front v [] b h = tt
  chained-front v (p ∷ a) b h = (h.0, chained-front (λ u. version u p) a b h.1)

  chained-back : (v : ℕ → ℕ) (a b : List Plan) → Chained v (a ++ b) → Chained (final v a) b
  chained-back v [] b h = h
  chained-back v (p ∷ a) b h = chained-back (λ u. version u p) a b h.1

  at-final : (u : ℕ) (v : ℕ → ℕ) (a : List Plan) → Chained v a → final v a u ≡ v u + count u a
  at-final u v [] h = omega arith
  at-final u v (p ∷ a) h =
      let ih = at-final u (λ u. version u p) a h.1 in
      let e : version u p ≡ v u + one u (user p) = h.0 u in
      omega arith

  final-push : (v : ℕ → ℕ) (a : List Plan) (p : Plan) → (u : ℕ) → final v (a ++ p ∷ []) u ≡ version u p
  final-push v a p u = ap (λ f. f u) (final-append v a (p ∷ []))

  -- up to a plan
  chained-upto : (v : ℕ → ℕ) (a : List Plan) (p : Plan) (b : List Plan) → Chained v (a ++ p ∷ b) → Chained v (a ++ p ∷ [])
  chained-upto v a p b h = chained-front v (a ++ p ∷ []) b (subst (λ l. Chained v l) (sym (append_assoc a (p ∷ []) b)) h)

  at-middle : (u : ℕ) (v : ℕ → ℕ) (a : List Plan) (p : Plan) (b : List Plan) → Chained v (a ++ p ∷ b) → version u p ≡ v u + (count u a + one u (user p))
  at-middle u v a p b h =
      let k = at-final u v (a ++ p ∷ []) (chained-upto v a p b h) in
      let f = final-push v a p u in
      let c = count-append u a (p ∷ []) in
      omega arith

  -- a plan's version of its user is greater than before, and at most the count of the whole
  at-in : (v : ℕ → ℕ) (l : List Plan) → Chained v l → (q : Plan) → In q l → (v (user q) < version (user q) q) × (version (user q) q ≤ v (user q) + count (user q) l)
  at-in v [] h q i = absurd i
  at-in v (p ∷ l) h q (inl i) =
      let e = ap (version (user q)) i in
      let n = h.0 (user q) in
      let o' : one (user q) (user p) ≡ 1 = one-same (user q) (user p) (ap user i) in
      omega arith
  at-in v (p ∷ l) h q (inr i) =
      let ih = at-in (λ u. version u p) l h.1 q i in
      let n = h.0 (user q) in
      omega arith

  -- a user's version names the plan
  pub unique : (v : ℕ → ℕ) (l : List Plan) → Chained v l → (p q : Plan) → In p l → In q l → (user p) ≡ (user q) → version (user p) p ≡ version (user q) q → p ≡ q
  unique v [] h p q i j e n = absurd i
  unique v (x ∷ l) h p q (inl i) (inl j) e n = i ∙ sym j
  unique v (x ∷ l) h p q (inl i) (inr j) e n =
      let k = at-in (λ u. version u x) l h.1 q j in
      let m : version (user p) p ≡ version (user q) x = ap (λ u. version u p) e ∙ ap (version (user q)) i in
      absurd (omega arith)
  unique v (x ∷ l) h p q (inr i) (inl j) e n =
      let k = at-in (λ u. version u x) l h.1 p i in
      let m : version (user q) q ≡ version (user p) x = ap (λ u. version u q) (sym e) ∙ ap (version (user p)) j in
      absurd (omega arith)
  unique v (x ∷ l) h p q (inr i) (inr j) e n = unique (λ u. version u x) l h.1 p q i j e n

  -- the last plan of a user
  latest : (u : ℕ) (v : ℕ → ℕ) (l : List Plan) → Chained v l → 0 < count u l → (q : Plan) × In q l × ((user q) ≡ u) × (version u q ≡ v u + count u l)
  latest u v [] h c = absurd (omega arith)
  latest u v (p ∷ l) h c =
      let n = h.0 u in
      elim (cases_lt 0 (count u l)) [
        | inl k ↦ (let r = latest u (λ u. version u p) l h.1 k in (r.0, inr r.1, r.2, (let m = r.3 in omega arith)))
        | inr k ↦ elim (one-cases u (user p)) [
          | inl o ↦ (p, inl refl, sym o.0, (let m = o.1 in omega arith))
          | inr o ↦ absurd (let m = o.1 in omega arith)
        ]
      ]

  -- a user's plan counts
  count-of : (u : ℕ) (q : Plan) (ps : List Plan) → In q ps → u ≡ (user q) → 0 < count u ps
  count-of u q ps i e = rw e (count-in q ps i)

  -- the structure of a user
  structure_in : (u : ℕ) (zs : List Plan) → 0 < number_in (structure_of u zs) → (s : Plan) × In s zs × (u ≡ (user s)) × ((number s) ≡ number_in (structure_of u zs))
  structure_in u [] h = absurd (omega arith)
  structure_in u (z ∷ zs) h = go (u == (user z)) refl (structure_in u zs) h
    where
      go : (b : Bool) → (u == (user z)) ≡ b → (0 < number_in (structure_of u zs) → (s : Plan) × In s zs × (u ≡ (user s)) × ((number s) ≡ number_in (structure_of u zs)))
          → 0 < number_in (if b then Some z else structure_of u zs) → (s : Plan) × In s (z ∷ zs) × (u ≡ (user s)) × ((number s) ≡ number_in (if b then Some z else structure_of u zs))
      go true e ih h = (z, inl refl, eqb-true u (user z) e, refl)
      go false e ih h = let r = ih h in (r.0, inr r.1, r.2, r.3)

  number_of_in : (s : Plan) (zs : List Plan) → EachOnce zs → In s zs → number_in (structure_of (user s) zs) ≡ (number s)
  number_of_in s [] o i = absurd i
  number_of_in s (z ∷ zs) o (inl i) =
      rw (eq-eqb (user s) (user z) (ap user i)) (ap number (sym i))
  number_of_in s (z ∷ zs) o (inr i) =
      rw (ne_eqb (user s) (user z) (λ e. o.0 s i (sym e))) (number_of_in s zs o.1 i)

  module _ (x : View Plan) (rules : Rules x) where
    at_most_one : (u : ℕ) → count u (pending x) ≤ 1
    at_most_one u = count-once u (pending x) rules.pending_once

    own_counts : (u : ℕ) → version u x.own ≡ number_of u x + count u (pending x)
    own_counts u =
        let f = at-final u (version_of x.top) x.above rules.chained in
        let e = ap (λ l. final (version_of x.top) l u) rules.above_ends.1 ∙ final-push (version_of x.top) rules.above_ends.0 x.own u in
        let t = rules.of_top u in
        let p = rules.parts u in
        omega arith

    pub own_in : In x.own (pending x)
    own_in = in-middle x.own x.others []

    same_structure : (s t : Plan) → In s x.structures → In t x.structures → user s ≡ user t → s ≡ t
    same_structure s t i j e = once x.structures rules.structures_once s t i j e

    structure_number : (s : Plan) → In s x.structures → number_of (user s) x ≡ number s
    structure_number s i = number_of_in s x.structures rules.structures_once i

  -- What p says of the last plan q of a user before it: an entry of p, or, where p has none for the user, a released structure.
  abbrev pub Decided : List (View Plan) → Plan → Plan → Type 0
  Decided run p q = In (entry_of q) (entries p) ⊎ (((e : Entry) → In e (entries p) → user_in e ≢ (user q)) × IsReleased run q)

  abbrev pub Decides : List (View Plan) → List Plan → Type 0
  Decides run l =
      (before : List Plan) (p : Plan) (after : List Plan) → l ≡ before ++ p ∷ after →
      (q : Plan) → In q before → (number q) ≡ count (user q) before → Decided run p q

  -- p is a plan of a pending item of some view
  abbrev pub IsPending : List (View Plan) → Plan → Type 0
  IsPending run p = (y : View Plan) × In y run × In p (pending y)

  -- what holds of an accepted view x with the line l
  pub record IsLine (run : List (View Plan)) (x : View Plan) (l : List Plan) : Type 0 where
    pub rules : Rules x
    pub released : (s : Plan) → In s x.structures → IsReleased run s
    pub chained : Chained (λ u. 0) l
    pub numbered : (q : Plan) → In q l → (number q) ≡ version (user q) q
    pub pends : (p : Plan) → In p l → IsPending run p
    pub ends : (before : List Plan) × (l ≡ before ++ x.own ∷ [])
    pub has_pending : (q : Plan) → In q (pending x) → In q l
    pub has_structures : (s : Plan) → In s x.structures → In s l
    pub decides : Decides run l

  -- what holds of the line of the top's own view
  pub record IsBase (run : List (View Plan)) (x : View Plan) (l : List Plan) : Type 0 where
    pub chained : Chained (λ u. 0) l
    pub to_top : final (λ u. 0) l ≡ version_of x.top
    pub numbered : (q : Plan) → In q l → (number q) ≡ version (user q) q
    pub pends : (p : Plan) → In p l → IsPending run p
    pub top_pends : (e : Entry) → In e (entries_of x.top) → (q : Plan) × In q l × (e ≡ entry_of q) × Occurs q run
    pub has_structures : (s : Plan) → In s x.structures → In s l
    pub decides : Decides run l

  -- one user's number names the structure, and is positive
  pub record OneUse (run : List (View Plan)) : Type 0 where
    pub same : (s t : Plan) → IsReleased run s → IsReleased run t → (user s) ≡ (user t) → (number s) ≡ (number t) → s ≡ t
    pub positive : (s : Plan) → IsReleased run s → 0 < (number s)

  occurs_more : (x : View Plan) (run : List (View Plan)) (q : Plan) → Occurs q run → Occurs q (x ∷ run)
  occurs_more x run q o = (o.0, inr o.1, o.2)

  released_more : (x : View Plan) (run : List (View Plan)) (q : Plan) → IsReleased run q → IsReleased (x ∷ run) q
  released_more x run q o = (o.0, inr o.1, o.2)

  pending_more : (x : View Plan) (run : List (View Plan)) (q : Plan) → IsPending run q → IsPending (x ∷ run) q
  pending_more x run q o = (o.0, inr o.1, o.2)

  decided_more : (x : View Plan) (run : List (View Plan)) (p q : Plan) → Decided run p q → Decided (x ∷ run) p q
  decided_more x run p q (inl i) = inl i
  decided_more x run p q (inr r) = inr (r.0, released_more x run q r.1)

  pub line_more : (x : View Plan) (run : List (View Plan)) (y : View Plan) (l : List Plan) → IsLine run y l → IsLine (x ∷ run) y l
  line_more x run y l g =
      record {
        rules = g.rules;
        released = λ s i. released_more x run s (g.released s i);
        chained = g.chained;
        numbered = g.numbered;
        pends = λ q i. pending_more x run q (g.pends q i);
        ends = g.ends;
        has_pending = g.has_pending;
        has_structures = g.has_structures;
        decides = λ b p a e q i n. decided_more x run p q (g.decides b p a e q i n);
      }

  same_entry : (run : List (View Plan)) → NoCollision run → (p q : Plan) → Occurs p run → Occurs q run → entry_of p ≡ entry_of q → p ≡ q
  same_entry run nc p q i j e = nc p q i j e

  -- an entry for the user, or none
  entry_cases : (u : ℕ) (es : List Entry) → ((e : Entry) × In e es × (user_in e ≡ u)) ⊎ ((e : Entry) → In e es → user_in e ≢ u)
  entry_cases u [] = inr (λ e i. absurd i)
  entry_cases u (d ∷ es) =
      elim (cases_eq (user_in d) u) [
        | inl k ↦ inl (d, inl refl, k)
        | inr k ↦ elim (entry_cases u es) [
          | inl r ↦ inl (r.0, inr r.1, r.2)
          | inr n ↦ inr (λ e i m. elim i [ inl j ↦ k (sym (ap user_in j) ∙ m) | inr j ↦ n e j m ])
        ]
      ]

  -- no top: the base is empty
  pub base_none : (run : List (View Plan)) (x : View Plan) → Rules x → x.top ≡ None → IsBase run x []
  base_none run x rules e =
      record {
        chained = tt;
        to_top = sym (ap version_of e);
        numbered = λ q i. absurd i;
        pends = λ q i. absurd i;
        top_pends = λ d i. absurd (subst (λ t. In d (entries_of t)) e i);
        has_structures = λ s i. absurd (subst (λ zs. In s zs) (rules.top_none e) i);
        decides = λ b p a k. absurd (nil-split p b a k);
      }

  -- the top is the own plan of an earlier view y
  module _ (older : List (View Plan)) (x : View Plan) (a : Accepted older x) (nc : NoCollision (x ∷ older)) (o : OneUse older) (y : View Plan) (i : In y older) (e : x.top ≡ Some y.own) (l : List Plan) (g : IsLine older y l) where
    top_entries : entries_of x.top ≡ entries y.own
    top_entries = ap entries_of e

    top_vector : version_of x.top ≡ (λ u. version u y.own)
    top_vector = ap version_of e

    own_structure : In y.own x.structures
    own_structure = a.rules.top_in y.own e

    own_in_line : In y.own l
    own_in_line = rw g.ends.1 (in-middle y.own g.ends.0 [])

    -- an entry of the top was pending in its view
    top_entry : (d : Entry) → In d (entries_of x.top) → IsOf d y.others
    top_entry d k = g.rules.own_only d (subst (λ z. In d z) top_entries k)

    of_others : (q : Plan) → In q y.others → In q (pending y)
    of_others q k = in-left q y.others (y.own ∷ []) k

    occurs_y : (q : Plan) → In q (pending y) → Occurs q (x ∷ older)
    occurs_y q k = (y, inr i, inr k)

    occurs_x : (q : Plan) → In q (pending x) → Occurs q (x ∷ older)
    occurs_x q k = (x, inl refl, inr k)

    shown_x : (q : Plan) → In q x.structures → Occurs q (x ∷ older)
    shown_x q k = (x, inl refl, inl k)

    -- the same number in both views: the same structure
    both_structures : (s : Plan) → In s x.structures → number_of (user s) y ≡ (number s) → In s l
    both_structures s k n =
        let h = o.positive s (a.released s k) in
        let r = structure_in (user s) y.structures (omega arith) in
        let m : s ≡ r.0 = o.same s r.0 (a.released s k) (g.released r.0 r.1) r.2 (sym n ∙ sym r.3) in
        rw m (g.has_structures r.0 r.1)

    -- a pending item of the user that isn't above: its number is one more in both views
    structure_waits : (s : Plan) → In s x.structures → has (user s) x.below ≡ true → In s l
    structure_waits s k h =
        let (q, j, u) = has-in (user s) x.below h in
        let (r, j', d) = top_entry (entry_of q) (a.rules.top_waiting q j) in
        let nx = a.rules.next q (a.rules.below_pending q j) in
        let ny = g.rules.next r (of_others r j') in
        let ur : (user q) ≡ (user r) = user_of_entry d in
        let nr : (number q) ≡ (number r) = number_of_entry d in
        let cx = ap (λ u. number_of u x) u in
        let cy = ap (λ u. number_of u y) (u ∙ ur) in
        let m = structure_number x a.rules s k in
        both_structures s k (omega arith)

    -- no such item: the structure or the pending item of y is s
    structure_rests : (s : Plan) → In s x.structures → (user s) ≢ (user y.own) → has (user s) x.below ≡ false → In s l
    structure_rests s k ne h =
        let t = a.rules.of_top (user s) in
        let z = count-none (user s) x.below h in
        let m = structure_number x a.rules s k in
        let oc = own_counts y g.rules (user s) in
        let tv = ap (λ f. f (user s)) top_vector in
        let ca = count-append (user s) y.others (y.own ∷ []) in
        let on = one-other (user s) (user y.own) ne in
        elim (cases_Bool (has (user s) y.others)) [
          | inr n ↦ (let zo = count-none (user s) y.others n in both_structures s k (omega arith))
          | inl w ↦ (
              let (q, j, u) = has-in (user s) y.others w in
              let mo = at_most_one y g.rules (user s) in
              let co = count-of (user s) q y.others j u in
              let ny = g.rules.next q (of_others q j) in
              let cy = ap (λ u. number_of u y) u in
              let d : In (entry_of q) (entries_of x.top) = subst (λ z. In (entry_of q) z) (sym top_entries) (g.rules.own_all q j) in
              elim (a.rules.top_only (entry_of q) d) [
                | inl r ↦ (
                    let m' : q ≡ r.0 = same_entry (x ∷ older) nc q r.0 (occurs_y q (of_others q j)) (shown_x r.0 r.1) r.2 in
                    let m'' : s ≡ r.0 = same_structure x a.rules s r.0 k r.1 (u ∙ ap user m') in
                    subst (λ w. In w l) (m' ∙ sym m'') (g.has_pending q (of_others q j)))
                | inr r ↦ (
                    let ur : (user q) ≡ (user r.0) = user_of_entry r.2 in
                    let nr : (number q) ≡ (number r.0) = number_of_entry r.2 in
                    let nx = a.rules.next r.0 r.1 in
                    let cx = ap (λ u. number_of u x) (u ∙ ur) in
                    absurd (omega arith))
              ])
        ]

    structures_in_line : (s : Plan) → In s x.structures → In s l
    structures_in_line s k =
        elim (cases_eq (user s) (user y.own)) [
          | inl u ↦ (let m : s ≡ y.own = same_structure x a.rules s y.own k own_structure u in rw m own_in_line)
          | inr u ↦ elim (cases_Bool (has (user s) x.below)) [
            | inl h ↦ structure_waits s k h
            | inr h ↦ structure_rests s k u h
          ]
        ]

    pub base_some : IsBase older x l
    base_some =
        record {
          chained = g.chained;
          to_top = ap (final (λ u. 0)) g.ends.1 ∙ final-append (λ u. 0) g.ends.0 (y.own ∷ []) ∙ sym top_vector;
          numbered = g.numbered;
          pends = g.pends;
          top_pends = λ d k. (let r = top_entry d k in (r.0, g.has_pending r.0 (of_others r.0 r.1), r.2, (y, i, inr (of_others r.0 r.1))));
          has_structures = structures_in_line;
          decides = g.decides;
        }

  -- a view's line from the base
  module _ (older : List (View Plan)) (x : View Plan) (a : Accepted older x) (nc : NoCollision (x ∷ older)) (l : List Plan) (b : IsBase older x l) where
    line_of : List Plan
    line_of = l ++ x.above

    line_chained : Chained (λ u. 0) (l ++ x.above)
    line_chained = chained-append (λ u. 0) l x.above b.chained (subst (λ f. Chained f x.above) (sym b.to_top) a.rules.chained)

    line_numbered : (q : Plan) → In q (l ++ x.above) → (number q) ≡ version (user q) q
    line_numbered q i =
        elim (in-append q l x.above i) [
          | inl k ↦ b.numbered q k
          | inr k ↦ a.rules.of_pending q (a.rules.above_pending q k)
        ]

    line_pends : (q : Plan) → In q (l ++ x.above) → IsPending (x ∷ older) q
    line_pends q i =
        elim (in-append q l x.above i) [
          | inl k ↦ pending_more x older q (b.pends q k)
          | inr k ↦ (x, inl refl, a.rules.above_pending q k)
        ]

    base_count : (u : ℕ) → version_of x.top u ≡ count u l
    base_count u = let f = at-final u (λ u. 0) l b.chained in let t = ap (λ f. f u) b.to_top in omega arith

    in_line_once : (p q : Plan) → In p (l ++ x.above) → In q (l ++ x.above) → (user p) ≡ (user q) → (number p) ≡ (number q) → p ≡ q
    in_line_once p q i j e n = unique (λ u. 0) (l ++ x.above) line_chained p q i j e (sym (line_numbered p i) ∙ n ∙ line_numbered q j)

    waiting_in : (q : Plan) → In q x.below → In q l
    waiting_in q i =
        let (q', k, e, o) = b.top_pends (entry_of q) (a.rules.top_waiting q i) in
        let m : q ≡ q' = same_entry (x ∷ older) nc q q' (x, inl refl, inr (a.rules.below_pending q i)) (occurs_more x older q' o) e in
        rw m k

    pending_in : (q : Plan) → In q (pending x) → In q (l ++ x.above)
    pending_in q i =
        elim (a.rules.pending_cases q i) [
          | inl k ↦ in-right q l x.above k
          | inr k ↦ in-left q l x.above (waiting_in q k)
        ]

    -- p stands above, with these before it
    module _ (before : List Plan) (p : Plan) (after : List Plan) (at_p : x.above ≡ before ++ p ∷ after) (q : Plan) (n : (number q) ≡ count (user q) (l ++ before)) where
      shows : Shows x before p
      shows = a.rules.of_above before p after at_p

      -- the user's plan above before p
      decided_earlier : In q (l ++ x.above) → has (user q) before ≡ true → Decided (x ∷ older) p q
      decided_earlier i h =
          let (r, j, u) = has-in (user q) before h in
          let ra : In r x.above = rw at_p (in-left r before (p ∷ after) j) in
          let nr = a.rules.next r (a.rules.above_pending r ra) in
          let c = ap (λ u. number_of u x) u in
          let bc = base_count (user q) in
          let tc = a.rules.of_top (user q) in
          let pa = a.rules.parts (user q) in
          let mo = at_most_one x a.rules (user q) in
          let ca = count-append (user q) l before in
          let cb = ap (count (user q)) at_p ∙ count-append (user q) before (p ∷ after) in
          let co = count-of (user q) r before j u in
          let m : q ≡ r = in_line_once q r i (in-right r l x.above ra) u (omega arith) in
          inl (rw m (shows.earlier r j))

      -- the user's pending item that isn't above
      decided_waiting : In q (l ++ x.above) → has (user q) before ≡ false → has (user q) x.below ≡ true → Decided (x ∷ older) p q
      decided_waiting i h k =
          let (r, j, u) = has-in (user q) x.below k in
          let nr = a.rules.next r (a.rules.below_pending r j) in
          let c = ap (λ u. number_of u x) u in
          let bc = base_count (user q) in
          let tc = a.rules.of_top (user q) in
          let pa = a.rules.parts (user q) in
          let mo = at_most_one x a.rules (user q) in
          let ca = count-append (user q) l before in
          let z = count-none (user q) before h in
          let co = count-of (user q) r x.below j u in
          let m : q ≡ r = in_line_once q r i (in-left r l x.above (waiting_in r j)) u (omega arith) in
          inl (rw m (shows.waiting r j))

      -- an entry for the user is of its structure
      entry_is : (e : Entry) → In e (entries p) → user_in e ≡ (user q) → has (user q) before ≡ false → In q x.structures → number_of (user q) x ≡ count (user q) l → e ≡ entry_of q
      entry_is e i u h s n' =
          elim (shows.rest e i) [
            | inl r ↦ absurd (not_in (user q) before h r.0 r.1 (sym u ∙ ap user_in r.2 ∙ user_law r.0))
            | inr t ↦ elim t [
              | inl j ↦ elim (a.rules.top_only e j) [
                | inl r ↦ r.2 ∙ ap (entry_of) (same_structure x a.rules r.0 q r.1 s (sym (ap user_in r.2 ∙ user_law r.0) ∙ u))
                | inr r ↦ (
                    let w = b.top_pends e j in
                    let uw : (user w.0) ≡ (user q) = sym (ap user_in w.2 ∙ user_law w.0) ∙ u in
                    let nw : number_at e ≡ (number w.0) = ap number_at w.2 ∙ number_law w.0 in
                    let nr : number_at e ≡ (number r.0) = ap number_at r.2 ∙ number_law r.0 in
                    let ur : (user r.0) ≡ (user q) = sym (ap user_in r.2 ∙ user_law r.0) ∙ u in
                    let nx = a.rules.next r.0 r.1 in
                    let cx = ap (λ u. number_of u x) ur in
                    let up = (at-in (λ u. 0) l b.chained w.0 w.1).1 in
                    let nb = b.numbered w.0 w.1 in
                    let cl = ap (λ u. count u l) uw in
                    absurd (omega arith))
              ]
              | inr r ↦ r.2 ∙ ap (entry_of) (same_structure x a.rules r.0 q (a.rules.top_in r.0 r.1) s (sym (ap user_in r.2 ∙ user_law r.0) ∙ u))
            ]
          ]

      -- the user's structure
      decided_structure : In q l → has (user q) before ≡ false → has (user q) x.below ≡ false → Decided (x ∷ older) p q
      decided_structure i h k =
          let bc = base_count (user q) in
          let tc = a.rules.of_top (user q) in
          let ca = count-append (user q) l before in
          let zb = count-none (user q) before h in
          let zk = count-none (user q) x.below k in
          let low = (at-in (λ u. 0) l b.chained q i).0 in
          let nq = b.numbered q i in
          let (s, j, u, ns) = structure_in (user q) x.structures (omega arith) in
          let m : q ≡ s = in_line_once q s (in-left q l x.above i) (in-left s l x.above (b.has_structures s j)) u (omega arith) in
          let qs : In q x.structures = rw m j in
          let n' : number_of (user q) x ≡ count (user q) l = omega arith in
          elim (entry_cases (user q) (entries p)) [
            | inl r ↦ inl (subst (λ d. In d (entries p)) (entry_is r.0 r.1 r.2 h qs n') r.1)
            | inr none ↦ inr (none, released_more x older q (a.released q qs))
          ]

      before_in : In q (l ++ before) → In q (l ++ x.above)
      before_in i =
          elim (in-append q l before i) [
            | inl k ↦ in-left q l x.above k
            | inr k ↦ in-right q l x.above (rw at_p (in-left q before (p ∷ after) k))
          ]

      decided_above : In q (l ++ before) → Decided (x ∷ older) p q
      decided_above i =
          elim (cases_Bool (has (user q) before)) [
            | inl h ↦ decided_earlier (before_in i) h
            | inr h ↦ elim (cases_Bool (has (user q) x.below)) [
              | inl k ↦ decided_waiting (before_in i) h k
              | inr k ↦ elim (in-append q l before i) [
                | inl j ↦ decided_structure j h k
                | inr j ↦ absurd (not_in (user q) before h q j refl)
              ]
            ]
          ]

    line_decides : Decides (x ∷ older) (l ++ x.above)
    line_decides before p after e q i n =
        elim (split p l x.above before after e) [
          | inl s ↦ decided_more x older p q (b.decides before p s.0 s.1 q i n)
          | inr s ↦ decided_above s.0 p after s.2 q (rw s.1 at n) (rw s.1 at i)
        ]

    pub line_from_base : IsLine (x ∷ older) x (l ++ x.above)
    line_from_base =
        record {
          rules = a.rules;
          released = λ s i. released_more x older s (a.released s i);
          chained = line_chained;
          numbered = line_numbered;
          pends = line_pends;
          ends = (l ++ a.rules.above_ends.0, ap (λ z. l ++ z) a.rules.above_ends.1 ∙ sym (append_assoc l a.rules.above_ends.0 (x.own ∷ [])));
          has_pending = pending_in;
          has_structures = λ s i. in-left s l x.above (b.has_structures s i);
          decides = line_decides;
        }

  own_next : (older : List (View Plan)) (x : View Plan) → Accepted older x → (number x.own) ≡ suc (number_in (last_own (user x.own) older))
  own_next older x a = a.rules.next x.own (own_in x a.rules) ∙ ap (λ o. suc (number_in o)) a.own_last

  -- a user's last view has its greatest number
  newest : (run : List (View Plan)) → Valid run → (y : View Plan) → In y run → (number y.own) ≤ number_in (last_own (user y.own) run)
  newest [] v y i = absurd i
  newest (x ∷ older) v y (inl i) =
      let u = ap (λ (w : View Plan). (user w.own)) i in
      let n = ap (λ (w : View Plan). (number w.own)) i in
      rw (eq-eqb (user y.own) (user x.own) u) (omega arith)
  newest (x ∷ older) v y (inr i) =
      let ih = newest older v.1 y i in
      elim (cases_eq (user y.own) (user x.own)) [
        | inl e ↦ (
            let n = own_next older x v.0 in
            let c = ap (λ u. number_in (last_own u older)) e in
            rw (eq-eqb (user y.own) (user x.own) e) (omega arith))
        | inr e ↦ rw (ne_eqb (user y.own) (user x.own) e) ih
      ]

  pub older_less : (older : List (View Plan)) (x : View Plan) → Valid (x ∷ older) → (y : View Plan) → In y older → (user y.own) ≡ (user x.own) → (number y.own) < (number x.own)
  older_less older x v y i e =
      let k = newest older v.1 y i in
      let n = own_next older x v.0 in
      let c = ap (λ u. number_in (last_own u older)) e in
      omega arith

  same_view : (run : List (View Plan)) → Valid run → (y z : View Plan) → In y run → In z run → (user y.own) ≡ (user z.own) → (number y.own) ≡ (number z.own) → y ≡ z
  same_view [] v y z i j e n = absurd i
  same_view (x ∷ older) v y z (inl i) (inl j) e n = i ∙ sym j
  same_view (x ∷ older) v y z (inl i) (inr j) e n =
      let u = ap (λ (w : View Plan). (user w.own)) i in
      let m = ap (λ (w : View Plan). (number w.own)) i in
      let k = older_less older x v z j (sym e ∙ u) in
      absurd (omega arith)
  same_view (x ∷ older) v y z (inr i) (inl j) e n =
      let u = ap (λ (w : View Plan). (user w.own)) j in
      let m = ap (λ (w : View Plan). (number w.own)) j in
      let k = older_less older x v y i (e ∙ u) in
      absurd (omega arith)
  same_view (x ∷ older) v y z (inr i) (inr j) e n = same_view older v.1 y z i j e n

  positive : (run : List (View Plan)) → Valid run → (y : View Plan) → In y run → 0 < (number y.own)
  positive [] v y i = absurd i
  positive (x ∷ older) v y (inl i) =
      let n = own_next older x v.0 in
      let m = ap (λ (w : View Plan). (number w.own)) i in
      omega arith
  positive (x ∷ older) v y (inr i) = positive older v.1 y i

  pub one_use : (run : List (View Plan)) → Valid run → OneUse run
  one_use run v =
      record {
        same = λ s t i j e n.
            (let m : i.0 ≡ j.0 = same_view run v i.0 j.0 i.1 j.1
            (ap user i.2 ∙ e ∙ sym (ap user j.2))
            (ap number i.2 ∙ n ∙ sym (ap number j.2)) in
            sym i.2 ∙ ap (λ (w : View Plan). w.own) m ∙ j.2);
        positive = λ s i. (let k = positive run v i.0 i.1 in subst (λ (p : Plan). 0 < (number p)) i.2 k);
      }

  line_here : (older : List (View Plan)) (x : View Plan) → line (x ∷ older) x ≡ base (line_at older) x.top ++ x.above
  line_here older x = rw (eq-eqb (user x.own) (user x.own) refl, eq-eqb (number x.own) (number x.own) refl)

  line_there : (older : List (View Plan)) (x : View Plan) → Valid (x ∷ older) → (y : View Plan) → In y older → line (x ∷ older) y ≡ line older y
  line_there older x v y i =
      elim (cases_eq (user x.own) (user y.own)) [
        | inl e ↦ (
            let k = older_less older x v y i (sym e) in
            rw (and_right ((user x.own) == (user y.own)) ((number x.own) == (number y.own)) (ne_eqb (number x.own) (number y.own) (λ m. omega arith))))
        | inr e ↦ rw (and_left ((user x.own) == (user y.own)) ((number x.own) == (number y.own)) (ne_eqb (user x.own) (user y.own) e))
      ]

  is_base : (older : List (View Plan)) (x : View Plan) → Valid (x ∷ older) → NoCollision (x ∷ older)
      → ((y : View Plan) → In y older → IsLine older y (line older y)) → (o : Option Plan) → x.top ≡ o → IsBase older x (base (line_at older) o)
  is_base older x v nc ih None e = base_none older x v.0.rules e
  is_base older x v nc ih (Some t) e =
      let (y, i, m) = v.0.released t (v.0.rules.top_in t e) in
      subst (λ (s : Plan). IsBase older x (line_at older (user s) (number s))) m
      (base_some older x v.0 nc (one_use older v.1) y i (e ∙ ap Some (sym m)) (line older y) (ih y i))

  pub no_collision_older : (older : List (View Plan)) (x : View Plan) → NoCollision (x ∷ older) → NoCollision older
  no_collision_older older x nc p q i j = nc p q (i.0, inr i.1, i.2) (j.0, inr j.1, j.2)

  pub is_line : (run : List (View Plan)) → Valid run → NoCollision run → (x : View Plan) → In x run → IsLine run x (line run x)
  is_line [] v nc x i = absurd i
  is_line (x' ∷ older) v nc x (inl i) =
      let ih = λ (y : View Plan) (k : In y older). is_line older v.1 (no_collision_older older x' nc) y k in
      let here : IsLine (x' ∷ older) x' (line (x' ∷ older) x') =
      rw (line_here older x')
      (line_from_base older x' v.0 nc (base (line_at older) x'.top)
      (is_base older x' v nc ih x'.top refl)) in
      subst (λ w. IsLine (x' ∷ older) w (line (x' ∷ older) w)) (sym i) here
  is_line (x' ∷ older) v nc x (inr i) =
      rw (line_there older x' v x i)
      (line_more x' older x (line older x) (is_line older v.1 (no_collision_older older x' nc) x i))

  rules_of : (run : List (View Plan)) → Valid run → (x : View Plan) → In x run → Rules x
  rules_of [] v x i = absurd i
  rules_of (x' ∷ older) v x (inl i) = subst (λ w. Rules w) (sym i) v.0.rules
  rules_of (x' ∷ older) v x (inr i) = rules_of older v.1 x i

  decided_same : (run : List (View Plan)) → NoCollision run → OneUse run → (p q r : Plan) → ((d e : Entry) → In d (entries p) → In e (entries p) → user_in d ≡ user_in e → d ≡ e) → Occurs q run → Occurs r run
      → (user q) ≡ (user r) → (number q) ≡ (number r) → Decided run p q → Decided run p r → q ≡ r
  decided_same run nc o p q r one i j e n (inl c) (inl d) = nc q r i j (one (entry_of q) (entry_of r) c d (user_law q ∙ e ∙ sym (user_law r)))
  decided_same run nc o p q r one i j e n (inl c) (inr d) = absurd (d.0 (entry_of q) c (user_law q ∙ e))
  decided_same run nc o p q r one i j e n (inr c) (inl d) = absurd (c.0 (entry_of r) d (user_law r ∙ sym e))
  decided_same run nc o p q r one i j e n (inr c) (inr d) = o.same q r c.1 d.1 e n

  module _ (run : List (View Plan)) (v : Valid run) (nc : NoCollision run) where
    module _ (x y : View Plan) (l m : List Plan) (g : IsLine run x l) (h : IsLine run y m) where
      -- where one plan stands in two lines, as many plans of each user are before it
      same_counts : (b c : List Plan) (p : Plan) (a d : List Plan) → l ≡ b ++ p ∷ a → m ≡ c ++ p ∷ d → (u : ℕ) → count u b ≡ count u c
      same_counts b c p a d e f u =
          let k = at-middle u (λ u. 0) b p a (rw e at g.chained) in
          let n = at-middle u (λ u. 0) c p d (rw f at h.chained) in
          omega arith

      -- the plan before p in the one line stands before p in the other
      same_last : (b c : List Plan) (p : Plan) (a d : List Plan) (q : Plan) → l ≡ (b ++ q ∷ []) ++ p ∷ a → m ≡ c ++ p ∷ d → In q c
      same_last b c p a d q e f =
          let iq : In q (b ++ q ∷ []) = in-middle q b [] in
          let il : In q l = rw e (in-left q (b ++ q ∷ []) (p ∷ a) iq) in
          let el : l ≡ b ++ q ∷ (p ∷ a) = e ∙ append_assoc b (q ∷ []) (p ∷ a) in
          let nq = g.numbered q il in
          let mq = at-middle (user q) (λ u. 0) b q (p ∷ a) (rw el at g.chained) in
          let ca = count-append (user q) b (q ∷ []) in
          let oq = one-same (user q) (user q) refl in
          let sc = same_counts (b ++ q ∷ []) c p a d e f (user q) in
          let dq = g.decides (b ++ q ∷ []) p a e q iq (omega arith) in
          let cc' : Chained (λ u. 0) c = chained-front (λ u. 0) c (p ∷ d) (rw f at h.chained) in
          let (r, ir, ur, nr) = latest (user q) (λ u. 0) c cc' (omega arith) in
          let im : In r m = subst (λ z. In r z) (sym f) (in-left r c (p ∷ d) ir) in
          let nm = h.numbered r im in
          let cu = ap (λ u. count u c) ur in
          let au = ap (λ u. version u r) ur in
          let dr = h.decides c p d f r ir (omega arith) in
          let ip = g.pends p (rw e (in-middle p (b ++ q ∷ []) a)) in
          let jq = g.pends q il in
          let jr = h.pends r im in
          let one' = (rules_of run v ip.0 ip.1).one_each p ip.2 in
          let s : q ≡ r = decided_same run nc (one_use run v) p q r one' (jq.0, jq.1, inr jq.2) (jr.0, jr.1, inr jr.2) (sym ur) (omega arith) dq dr in
          rw s ir

      -- nothing is before p in the one line: nothing in the other
      same_none : (b c : List Plan) (p : Plan) (a d : List Plan) → b ≡ [] → l ≡ b ++ p ∷ a → m ≡ c ++ p ∷ d → b ≡ c
      same_none b c p a d z e f =
          let n = λ (u : ℕ). sym (same_counts b c p a d e f u) ∙ ap (count u) z in
          z ∙ sym (nil_from_counts c n)

      -- nothing stands between q and p in the other line
      same_step : (b c c' r : List Plan) (q p : Plan) (a d : List Plan) → b ≡ c' → l ≡ (b ++ q ∷ []) ++ p ∷ a → m ≡ c ++ p ∷ d → c ≡ c' ++ q ∷ r → b ++ q ∷ [] ≡ c
      same_step b c c' r q p a d s e f k =
          let n = λ (u : ℕ).
          (let sc = same_counts (b ++ q ∷ []) c p a d e f u in
          let cb = count-append u b (q ∷ []) in
          let cc' = ap (count u) k ∙ count-append u c' (q ∷ r) in
          let cs = ap (count u) s in
          let z : count u r ≡ 0 = omega arith in z) in
          let none = nil_from_counts r n in
          sym (k ∙ ap (λ z. c' ++ q ∷ z) none ∙ ap (λ z. z ++ q ∷ []) (sym s))

      pub same_before : (n : ℕ) (b c : List Plan) (p : Plan) (a d : List Plan) → length b ≤ n → l ≡ b ++ p ∷ a → m ≡ c ++ p ∷ d → b ≡ c
      same_before zero b c p a d s e f =
          elim (last_or_nil b) [
            | inl z ↦ same_none b c p a d z e f
            | inr r ↦ (let k = ap length r.2 ∙ length-append r.0 (r.1 ∷ []) in absurd (omega arith))
          ]
      same_before (suc n) b c p a d s e f =
          elim (last_or_nil b) [
            | inl z ↦ same_none b c p a d z e f
            | inr r ↦ (
                let k = ap length r.2 ∙ length-append r.0 (r.1 ∷ []) in
                let e' : l ≡ (r.0 ++ r.1 ∷ []) ++ p ∷ a = e ∙ ap (λ z. z ++ p ∷ a) r.2 in
                let el : l ≡ r.0 ++ r.1 ∷ (p ∷ a) = e' ∙ append_assoc r.0 (r.1 ∷ []) (p ∷ a) in
                let w = in-split r.1 c (same_last r.0 c p a d r.1 e' f) in
                let fm : m ≡ w.0 ++ r.1 ∷ (w.1 ++ p ∷ d) = f ∙ ap (λ z. z ++ p ∷ d) w.2 ∙ append_assoc w.0 (r.1 ∷ w.1) (p ∷ d) in
                let ih = same_before n r.0 w.0 r.1 (p ∷ a) (w.1 ++ p ∷ d) (omega arith) el fm in
                r.2 ∙ same_step r.0 c w.0 w.1 r.1 p a d ih e' f w.2)
          ]

    stands_in : (x : View Plan) → In x run → (s : Plan) → OccursIn s x → In s (line run x)
    stands_in x i s (inl k) = (is_line run v nc x i).has_structures s k
    stands_in x i s (inr k) = (is_line run v nc x i).has_pending s k

    pub agreement : (x y : View Plan) → In x run → In y run → (s : Plan) → OccursIn s x → OccursIn s y → Agree (line run x) (line run y) s
    agreement x y i j s h k =
        let (b, a, e) = in-split s (line run x) (stands_in x i s h) in
        let (c, d, f) = in-split s (line run y) (stands_in y j s k) in
        let m : b ≡ c = same_before x y (line run x) (line run y) (is_line run v nc x i) (is_line run v nc y j) (length b) b c s a d (omega arith) e f in
        record { before = b; after_a = a; after_b = d; of_a = e; of_b = f ∙ ap (λ z. z ++ s ∷ d) (sym m) }

    pub growth : (x y : View Plan) → In x run → In y run → (user x.own) ≡ (user y.own) → (number y.own) ≡ suc (number x.own) → (after : List Plan) × (line run y ≡ line run x ++ after)
    growth x y i j u n =
        let g = is_line run v nc x i in
        let h = is_line run v nc y j in
        let o = one_use run v in
        let nx = h.rules.next y.own (own_in y h.rules) in
        let pos = o.positive x.own (x, i, refl) in
        let (s, k, us, ns) = structure_in (user y.own) y.structures (omega arith) in
        let same : s ≡ x.own = o.same s x.own (h.released s k) (x, i, refl) (sym us ∙ sym u) (omega arith) in
        let own_y : In x.own (line run y) = h.has_structures x.own (subst (λ z. In z y.structures) same k) in
        let (c, d, f) = in-split x.own (line run y) own_y in
        let m : g.ends.0 ≡ c = same_before x y (line run x) (line run y) g h (length g.ends.0) g.ends.0 c x.own [] d (omega arith) g.ends.1 f in
        (d, f ∙ ap (λ z. z ++ x.own ∷ d) (sym m) ∙ sym (append_assoc g.ends.0 (x.own ∷ []) d) ∙ ap (λ z. z ++ d) (sym g.ends.1))

    pub counts : (x : View Plan) → In x run → (before : List Plan) (p : Plan) (after : List Plan) → line run x ≡ before ++ p ∷ after → Counted before p
    counts x i before p after e =
        let g = is_line run v nc x i in
        let ch : Chained (λ u. 0) (before ++ p ∷ after) = subst (λ z. Chained (λ u. 0) z) e g.chained in
        let n = g.numbered p (subst (λ z. In p z) (sym e) (in-middle p before after)) in
        let of_user = λ (u : ℕ).
        (let k = at-middle u (λ u. 0) before p after ch in
        let f = count-append u before (p ∷ []) in
        let z : version u p ≡ count u (before ++ p ∷ []) = omega arith in z) in
        record { of_user = of_user; of_number = n ∙ of_user (user p) }

    -- a user's part of a line: after the line that ends with its structure is its pending plan

    none_of : (u : ℕ) (l : List Plan) → count u l ≡ 0 → filter (λ p. u == user p) l ≡ []
    none_of u [] h = refl
    none_of u (p ∷ l) h =
        elim (one-cases u (user p)) [
          | inl e ↦ absurd (let o = e.1 in omega arith)
          | inr e ↦ (let o = e.1 in rw (ne_eqb u (user p) e.0) (none_of u l (omega arith)))
        ]

    one_of : (u : ℕ) (l : List Plan) → count u l ≤ 1 → (q : Plan) → In q l → u ≡ user q → filter (λ p. u == user p) l ≡ q ∷ []
    one_of u [] h q i e = absurd i
    one_of u (p ∷ l) h q (inl i) e =
        let k : u ≡ user p = e ∙ ap user i in
        let o = one-same u (user p) k in
        rw (eq-eqb u (user p) k) (ap (λ z. z ∷ filter (λ p. u == user p) l) (sym i) ∙ ap (λ z. q ∷ z) (none_of u l (omega arith)))
    one_of u (p ∷ l) h q (inr i) e =
        let c = count-of u q l i e in
        elim (one-cases u (user p)) [
          | inl k ↦ absurd (let o = k.1 in omega arith)
          | inr k ↦ (let o = k.1 in rw (ne_eqb u (user p) k.0) (one_of u l (omega arith) q i e))
        ]

    pub line_counts : (x : View Plan) → In x run → (u : ℕ) → count u (line run x) ≡ version u x.own
    line_counts x i u =
        let g = is_line run v nc x i in
        let f = at-final u (λ u. 0) (line run x) g.chained in
        let t = ap (λ l. final (λ u. 0) l u) g.ends.1 ∙ final-push (λ u. 0) g.ends.0 x.own u in
        omega arith

    -- the line that ends with a structure is a beginning of each line of a view that shows it
    pub prefix : (x y : View Plan) → In x run → In y run → In y.own x.structures → (a : List Plan) × (line run x ≡ line run y ++ a)
    prefix x y i j k =
        let g = is_line run v nc x i in
        let h = is_line run v nc y j in
        let (b, a, e) = in-split y.own (line run x) (g.has_structures y.own k) in
        let m : h.ends.0 ≡ b = same_before y x (line run y) (line run x) h g (length h.ends.0) h.ends.0 b y.own [] a (omega arith) h.ends.1 e in
        (a, e ∙ sym (append_assoc b (y.own ∷ []) a) ∙ ap (λ z. (z ++ y.own ∷ []) ++ a) (sym m) ∙ ap (λ z. z ++ a) (sym h.ends.1))

    -- and a shorter one
    pub shorter : (x y : View Plan) → In x run → In y run → In y.own x.structures → length (line run y) < length (line run x)
    shorter x y i j k =
        let g = is_line run v nc x i in
        let h = is_line run v nc y j in
        let (a, e) = prefix x y i j k in
        let le = ap length e ∙ length-append (line run y) a in
        elim (last_or_nil a) [
          | inl z ↦ absurd (
              let f : g.ends.0 ++ x.own ∷ [] ≡ h.ends.0 ++ y.own ∷ [] = sym g.ends.1 ∙ e ∙ ap (λ l. line run y ++ l) z ∙ append-nil (line run y) ∙ h.ends.1 in
              let m : x.own ≡ y.own = last_same g.ends.0 h.ends.0 x.own y.own f in
              let n = g.rules.next x.own (own_in x g.rules) in
              let s = structure_number x g.rules y.own k in
              let c = ap (λ (p : Plan). number_of (user p) x) m in
              let d = ap number m in
              omega arith)
          | inr r ↦ (let la = ap length r.2 ∙ length-append r.0 (r.1 ∷ []) in omega arith)
        ]

    -- with no structure of a user, its part of a line is its pending plan
    pub user_pending : (x : View Plan) → In x run → (u : ℕ) → number_of u x ≡ 0 → filter (λ p. u == user p) (line run x) ≡ filter (λ p. u == user p) (pending x)
    user_pending x i u z =
        let g = is_line run v nc x i in
        let cx = line_counts x i u in
        let co = own_counts x g.rules u in
        let most = at_most_one x g.rules u in
        elim (cases_Bool (has u (pending x))) [
          | inr n ↦ (
              let k = count-none u (pending x) n in
              none_of u (line run x) (omega arith) ∙ sym (none_of u (pending x) k))
          | inl w ↦ (
              let (q, iq, uq) = has-in u (pending x) w in
              one_of u (line run x) (omega arith) q (g.has_pending q iq) uq ∙ sym (one_of u (pending x) most q iq uq))
        ]

    pub user_part : (x y : View Plan) → In x run → In y run → In y.own x.structures
        → (a : List Plan) × (line run x ≡ line run y ++ a) × (filter (λ p. user y.own == user p) a ≡ filter (λ p. user y.own == user p) (pending x))
    user_part x y i j k =
        let u = user y.own in
        let g = is_line run v nc x i in
        let h = is_line run v nc y j in
        let (b, a, e) = in-split y.own (line run x) (g.has_structures y.own k) in
        let m : h.ends.0 ≡ b = same_before y x (line run y) (line run x) h g (length h.ends.0) h.ends.0 b y.own [] a (omega arith) h.ends.1 e in
        let front : line run x ≡ line run y ++ a =
        e ∙ sym (append_assoc b (y.own ∷ []) a) ∙ ap (λ z. (z ++ y.own ∷ []) ++ a) (sym m) ∙ ap (λ z. z ++ a) (sym h.ends.1) in
        let cx = line_counts x i u in
        let cy = line_counts y j u in
        let co = own_counts x g.rules u in
        let ny = h.numbered y.own (h.has_pending y.own (own_in y h.rules)) in
        let sn = structure_number x g.rules y.own k in
        let ca = ap (count u) front ∙ count-append u (line run y) a in
        let most = at_most_one x g.rules u in
        let ea : count u a ≡ count u (pending x) = omega arith in
        let parts : filter (λ p. u == user p) a ≡ filter (λ p. u == user p) (pending x) =
        (elim (cases_Bool (has u (pending x))) [
          | inr n ↦ (
              let z = count-none u (pending x) n in
              none_of u a (omega arith) ∙ sym (none_of u (pending x) z))
          | inl w ↦ (
              let (q, iq, uq) = has-in u (pending x) w in
              let nq = g.rules.next q iq in
              let cq = ap (λ u. number_of u x) uq in
              let il : In q (line run y ++ a) = subst (λ z. In q z) front (g.has_pending q iq) in
              let ia : In q a =
              (elim (in-append q (line run y) a il) [
                | inl l ↦ (
                    let up = (at-in (λ u. 0) (line run y) h.chained q l).1 in
                    let nn = h.numbered q l in
                    let cl = ap (λ u. count u (line run y)) uq in
                    absurd (omega arith))
                | inr r ↦ r
              ]) in
              one_of u a (omega arith) q ia uq ∙ sym (one_of u (pending x) most q iq uq))
        ]) in
        (a, front, parts)

    -- a plan of the user after that beginning has a greater number
    after_greater : (x y : View Plan) → In x run → In y run → (a : List Plan) → line run x ≡ line run y ++ a → (q : Plan) → In q a → user q ≡ user y.own → number y.own < number q
    after_greater x y i j a e q k u =
        let g = is_line run v nc x i in
        let h = is_line run v nc y j in
        let c = chained-back (λ u. 0) (line run y) a (subst (λ l. Chained (λ u. 0) l) e g.chained) in
        let low = (at-in (final (λ u. 0) (line run y)) a c q k).0 in
        let t = ap (λ l. final (λ u. 0) l (user q)) h.ends.1 ∙ final-push (λ u. 0) h.ends.0 y.own (user q) in
        let w = ap (λ u. version u y.own) u in
        let ny = h.numbered y.own (h.has_pending y.own (own_in y h.rules)) in
        let nq = g.numbered q (subst (λ l. In q l) (sym e) (in-right q (line run y) a k)) in
        omega arith

  -- one group: which plans raise it, its version in a plan's vector, the version in the record of the structure of a plan
  -- Good are views of which this is said: the one at hand, and those whose structures good ones show.
  module _ (raises : Plan → Bool) (group_version record_of : Plan → ℕ) (Handle : Type 0) (handle_of : Plan → Handle) (Good : View Plan → Type 0) where
    abbrev pub Down : List (View Plan) → Type 0
    Down run = (x y : View Plan) → In x run → In y run → Good x → In y.own x.structures → Good y

    abbrev step : Plan → ℕ
    step p = if raises p then 1 else 0

    abbrev pub Raised : ℕ → List Plan → Type 0
    Raised n [] = Unit {0}
    Raised n (p ∷ ps) = (group_version p ≡ n + step p) × Raised (group_version p) ps

    abbrev pub last_raised : ℕ → List Plan → ℕ
    last_raised n [] = n
    last_raised n (p ∷ ps) = last_raised (group_version p) ps

    abbrev pub group_of : Option Plan → ℕ
    group_of None = 0
    group_of (Some t) = group_version t

    abbrev pub record_in : Option Plan → ℕ
    record_in None = 0
    record_in (Some s) = record_of s

    raised-append : (n : ℕ) (a b : List Plan) → Raised n a → Raised (last_raised n a) b → Raised n (a ++ b)
    raised-append n [] b h k = k
    raised-append n (p ∷ a) b h k = (h.0, raised-append (group_version p) a b h.1 k)

    pub raised-back : (n : ℕ) (a b : List Plan) → Raised n (a ++ b) → Raised (last_raised n a) b
    raised-back n [] b h = h
    raised-back n (p ∷ a) b h = raised-back (group_version p) a b h.1

    last_raised-push : (n : ℕ) (a : List Plan) (p : Plan) → last_raised n (a ++ p ∷ []) ≡ group_version p
    last_raised-push n [] p = refl
    last_raised-push n (q ∷ a) p = last_raised-push (group_version q) a p

    last_grows : (n : ℕ) (l : List Plan) → Raised n l → n ≤ last_raised n l
    last_grows n [] h = omega arith
    last_grows n (p ∷ l) h = let ih = last_grows (group_version p) l h.1 in let e = h.0 in omega arith

    pub version_bounds : (n : ℕ) (l : List Plan) → Raised n l → (q : Plan) → In q l → (n + step q ≤ group_version q) × (group_version q ≤ last_raised n l)
    version_bounds n [] h q i = absurd i
    version_bounds n (p ∷ l) h q (inl i) =
        let e = h.0 in
        let k = last_grows (group_version p) l h.1 in
        let a = ap group_version i in
        let b = ap step i in
        omega arith
    version_bounds n (p ∷ l) h q (inr i) =
        let e = h.0 in
        let ih = version_bounds (group_version p) l h.1 q i in
        omega arith

    -- one plan raises the group to a version
    pub one_raises : (n : ℕ) (l : List Plan) → Raised n l → (p q : Plan) → In p l → In q l → raises p ≡ true → raises q ≡ true → group_version p ≡ group_version q → p ≡ q
    one_raises n [] h p q i j rp rq e = absurd i
    one_raises n (x ∷ l) h p q (inl i) (inl j) rp rq e = i ∙ sym j
    one_raises n (x ∷ l) h p q (inl i) (inr j) rp rq e =
        let b = (version_bounds (group_version x) l h.1 q j).0 in
        let s : step q ≡ 1 = ap (λ b. if b then 1 else 0) rq in
        let m = ap group_version i in
        absurd (omega arith)
    one_raises n (x ∷ l) h p q (inr i) (inl j) rp rq e =
        let b = (version_bounds (group_version x) l h.1 p i).0 in
        let s : step p ≡ 1 = ap (λ b. if b then 1 else 0) rp in
        let m = ap group_version j in
        absurd (omega arith)
    one_raises n (x ∷ l) h p q (inr i) (inr j) rp rq e = one_raises (group_version x) l h.1 p q i j rp rq e

    raised_base : (older : List (View Plan)) (x : View Plan) → Valid (x ∷ older) → NoCollision (x ∷ older) → Down (x ∷ older) → Good x → Raised (group_of x.top) x.above
        → ((y : View Plan) → In y older → Good y → Raised 0 (line older y)) → (t : Option Plan) → x.top ≡ t → Raised 0 (base (line_at older) t ++ x.above)
    raised_base older x v nc down good c ih None e = subst (λ n. Raised n x.above) (ap group_of e) c
    raised_base older x v nc down good c ih (Some t) e =
        let (y, i, m) = v.0.released t (v.0.rules.top_in t e) in
        let h = is_line older v.1 (no_collision_older older x nc) y i in
        let gy = down x y (inl refl) (inr i) good (subst (λ s. In s x.structures) (sym m) (v.0.rules.top_in t e)) in
        let k : group_of x.top ≡ last_raised 0 (line older y) =
        ap group_of e ∙ ap group_version (sym m) ∙ sym (ap (last_raised 0) h.ends.1 ∙ last_raised-push 0 h.ends.0 y.own) in
        subst (λ z. Raised 0 (line_at older (user z) (number z) ++ x.above)) m
        (raised-append 0 (line older y) x.above (ih y i gy) (subst (λ n. Raised n x.above) k c))

    pub raised_line : (run : List (View Plan)) → Valid run → NoCollision run → Down run → ((x : View Plan) → In x run → Good x → Raised (group_of x.top) x.above)
        → (x : View Plan) → In x run → Good x → Raised 0 (line run x)
    raised_line [] v nc down c x i good = absurd i
    raised_line (x' ∷ older) v nc down c x (inl i) good =
        let ih = λ (y : View Plan) (k : In y older) (gy : Good y). raised_line older v.1 (no_collision_older older x' nc) (λ a b j l. down a b (inr j) (inr l)) (λ z m. c z (inr m)) y k gy in
        let good' = subst (λ w. Good w) i good in
        let here : Raised 0 (line (x' ∷ older) x') = subst (λ l. Raised 0 l) (sym (line_here older x')) (raised_base older x' v nc down good' (c x' (inl refl) good') ih x'.top refl) in
        subst (λ w. Raised 0 (line (x' ∷ older) w)) (sym i) here
    raised_line (x' ∷ older) v nc down c x (inr i) good =
        subst (λ l. Raised 0 l) (sym (line_there older x' v x i)) (raised_line older v.1 (no_collision_older older x' nc) (λ a b j l. down a b (inr j) (inr l)) (λ z m. c z (inr m)) x i good)

    record_some : (u : ℕ) (zs : List Plan) → 0 < record_in (structure_of u zs) → (s : Plan) × In s zs × (u ≡ user s) × (record_of s ≡ record_in (structure_of u zs))
    record_some u [] h = absurd (omega arith)
    record_some u (z ∷ zs) h =
        elim (cases_eq u (user z)) [
          | inl e ↦ (z, inl refl, e, rw (eq-eqb u (user z) e))
          | inr n ↦ (
              let k : 0 < record_in (structure_of u zs) = rw (ne_eqb u (user z) n) at h in
              let r = record_some u zs k in
              (r.0, inr r.1, r.2, rw (ne_eqb u (user z) n) r.3))
        ]

    structure_some : (u : ℕ) (zs : List Plan) → 0 < number_in (structure_of u zs) → (s : Plan) × In s zs × (u ≡ user s) × (number s ≡ number_in (structure_of u zs)) × (record_of s ≡ record_in (structure_of u zs))
    structure_some u [] h = absurd (omega arith)
    structure_some u (z ∷ zs) h =
        elim (cases_eq u (user z)) [
          | inl e ↦ (z, inl refl, e, rw (eq-eqb u (user z) e), rw (eq-eqb u (user z) e))
          | inr n ↦ (
              let k : 0 < number_in (structure_of u zs) = rw (ne_eqb u (user z) n) at h in
              let r = structure_some u zs k in
              (r.0, inr r.1, r.2, rw (ne_eqb u (user z) n) r.3, rw (ne_eqb u (user z) n) r.4))
        ]

    module _ (run : List (View Plan)) (v : Valid run) (nc : NoCollision run) (down : Down run)
        (above_raise : (x : View Plan) → In x run → Good x → Raised (group_of x.top) x.above)
        (records_new : (y : View Plan) → In y run → Good y → raises y.own ≡ true → record_of y.own ≡ group_version y.own)
        (records_kept : (y : View Plan) → In y run → Good y → raises y.own ≡ false → record_of y.own ≡ record_in (structure_of (user y.own) y.structures))
        (handles_kept : (y : View Plan) → In y run → Good y → raises y.own ≡ false → (s : Plan) → In s y.structures → user y.own ≡ user s → handle_of y.own ≡ handle_of s) where
      pub own_last_version : (y : View Plan) → In y run → Good y → (q : Plan) → In q (line run y) → group_version q ≤ group_version y.own
      own_last_version y i gy q k =
          let c = raised_line run v nc down above_raise y i gy in
          let h = is_line run v nc y i in
          let b = (version_bounds 0 (line run y) c q k).1 in
          let t = ap (last_raised 0) h.ends.1 ∙ last_raised-push 0 h.ends.0 y.own in
          omega arith

      -- a user's plans in its line are recorded
      recorded : (n : ℕ) (y : View Plan) → In y run → Good y → number y.own ≤ n → (q : Plan) → In q (line run y) → user q ≡ user y.own → raises q ≡ true → group_version q ≤ record_of y.own
      recorded zero y i gy l q k u w = let p = (one_use run v).positive y.own (y, i, refl) in absurd (omega arith)
      recorded (suc n) y i gy l q k u w =
          elim (cases_Bool (raises y.own)) [
            | inl t ↦ (
                let e : record_of y.own ≡ group_version y.own = records_new y i gy t in
                let b = own_last_version y i gy q k in
                omega arith)
            | inr t ↦ (
                let e : record_of y.own ≡ record_in (structure_of (user y.own) y.structures) = records_kept y i gy t in
                let h = is_line run v nc y i in
                let nq = h.numbered q k in
                let io = h.has_pending y.own (own_in y h.rules) in
                let no = h.numbered y.own io in
                let bs = at-in (λ u. 0) (line run y) h.chained q k in
                let b0 = bs.0 in
                let b1 = bs.1 in
                let lc = line_counts run v nc y i (user q) in
                let w' = ap (λ u. version u y.own) u in
                let nx = h.rules.next y.own (own_in y h.rules) in
                elim (cases_eq (number q) (number y.own)) [
                  | inl m ↦ absurd (
                      let same : q ≡ y.own = unique (λ u. 0) (line run y) h.chained q y.own k io u (sym nq ∙ m ∙ no) in
                      let f = sym w ∙ ap raises same ∙ t in
                      cc f)
                  | inr m ↦ (
                      let (s, js, us, ns, rs) = structure_some (user y.own) y.structures (omega arith) in
                      let (z, jz, mz) = h.released s js in
                      let nz = ap number mz in
                      let uz : user q ≡ user z.own = u ∙ us ∙ sym (ap user mz) in
                      let js' = subst (λ d. In d y.structures) (sym mz) js in
                      let p = prefix run v nc y z i jz js' in
                      elim (in-append q (line run z) p.0 (subst (λ d. In q d) p.1 k)) [
                        | inl kq ↦ (
                            let ih = recorded n z jz (down y z i jz gy js') (omega arith) q kq uz w in
                            let rz = ap record_of mz in
                            omega arith)
                        | inr kq ↦ (let g = after_greater run v nc y z i jz p.0 p.1 q kq uz in absurd (omega arith))
                      ])
                ])
          ]

      -- the view that wrote a record
      pub written : (n : ℕ) (y : View Plan) → In y run → Good y → number y.own ≤ n → 0 < record_of y.own
          → (w : View Plan) × In w run × Good w × (raises w.own ≡ true) × (group_version w.own ≡ record_of y.own) × (handle_of w.own ≡ handle_of y.own) × (user w.own ≡ user y.own) × ((a : List Plan) × (line run y ≡ line run w ++ a))
      written zero y i gy l h = let p = (one_use run v).positive y.own (y, i, refl) in absurd (omega arith)
      written (suc n) y i gy l h =
          elim (cases_Bool (raises y.own)) [
            | inl t ↦ (
                let e : record_of y.own ≡ group_version y.own = records_new y i gy t in
                (y, i, gy, t, sym e, refl, refl, ([], sym (append-nil (line run y)))))
            | inr t ↦ (
                let e : record_of y.own ≡ record_in (structure_of (user y.own) y.structures) = records_kept y i gy t in
                let g = is_line run v nc y i in
                let nx = g.rules.next y.own (own_in y g.rules) in
                let (s, js, us, rs) = record_some (user y.own) y.structures (omega arith) in
                let sn = structure_number y g.rules s js in
                let cu = ap (λ u. number_of u y) us in
                let (z, jz, mz) = g.released s js in
                let nz = ap number mz in
                let rz = ap record_of mz in
                let js' = subst (λ d. In d y.structures) (sym mz) js in
                let p = prefix run v nc y z i jz js' in
                let (w, jw, gw', tw, gw, hw, uw, c) = written n z jz (down y z i jz gy js') (omega arith) (omega arith) in
                let hs = handles_kept y i gy t s js us in
                (w, jw, gw', tw, gw ∙ rz ∙ rs ∙ sym e, hw ∙ ap handle_of mz ∙ sym hs, uw ∙ ap user mz ∙ sym us, (c.0 ++ p.0, p.1 ∙ ap (λ d. d ++ p.0) c.1 ∙ append_assoc (line run w) c.0 p.0)))
          ]

      -- what raises the group past all records is pending
      pub still_pending : (x : View Plan) → In x run → Good x → (r : ℕ) → ((s : Plan) → In s x.structures → record_of s ≤ r) → (q : Plan) → In q (line run x) → raises q ≡ true → r < group_version q → In q (pending x)
      still_pending x i gx r m q k w h =
          let g = is_line run v nc x i in
          let nq = g.numbered q k in
          let bs = at-in (λ u. 0) (line run x) g.chained q k in
          let b0 = bs.0 in
          let b1 = bs.1 in
          let lc = line_counts run v nc x i (user q) in
          let oc = own_counts x g.rules (user q) in
          let most = at_most_one x g.rules (user q) in
          let old = λ (l : number q ≤ number_of (user q) x).
          (let (s, js, us, ns) = structure_in (user q) x.structures (omega arith) in
          let (z, jz, mz) = g.released s js in
          let nz = ap number mz in
          let uz : user q ≡ user z.own = us ∙ sym (ap user mz) in
          let rs = m s js in
          let rz = ap record_of mz in
          let js' = subst (λ d. In d x.structures) (sym mz) js in
          let p = prefix run v nc x z i jz js' in
          let bad : ⊥ = elim (in-append q (line run z) p.0 (subst (λ d. In q d) p.1 k)) [
            | inl kq ↦ (let rc = recorded (number z.own) z jz (down x z i jz gx js') (omega arith) q kq uz w in omega arith)
            | inr kq ↦ (let af = after_greater run v nc x z i jz p.0 p.1 q kq uz in omega arith)
          ] in
          bad) in
          elim (cases_Bool (has (user q) (pending x))) [
            | inr n ↦ (let z = count-none (user q) (pending x) n in absurd (old (omega arith)))
            | inl n ↦ (
                let (p, ip, up) = has-in (user q) (pending x) n in
                let np = g.rules.next p ip in
                let cp = ap (λ u. number_of u x) up in
                elim (cases_eq (number q) (number p)) [
                  | inl e ↦ (
                      let jp = g.has_pending p ip in
                      let same : q ≡ p = unique (λ u. 0) (line run x) g.chained q p k jp up (sym nq ∙ e ∙ g.numbered p jp) in
                      subst (λ d. In d (pending x)) (sym same) ip)
                  | inr e ↦ absurd (old (omega arith))
                ])
          ]

      -- what raises the group has a version of it
      pub raised_version : (x : View Plan) → In x run → Good x → (q : Plan) → In q (line run x) → raises q ≡ true → 0 < group_version q
      raised_version x i gx q k w =
          let b = (version_bounds 0 (line run x) (raised_line run v nc down above_raise x i gx) q k).0 in
          let st : step q ≡ 1 = ap (λ b. if b then 1 else 0) w in
          omega arith

      -- the group's part of a line: up to the plan that wrote the greatest record, then pending plans
      pub group_part : (x : View Plan) → In x run → Good x → (s : Plan) → In s x.structures → 0 < record_of s → ((z : Plan) → In z x.structures → record_of z ≤ record_of s)
          → (w : View Plan) × In w run × Good w × (raises w.own ≡ true) × (handle_of w.own ≡ handle_of s) × (length (line run w) < length (line run x)) × ((a : List Plan) × (line run x ≡ line run w ++ a)
          × ((q : Plan) → In q a → raises q ≡ true → In q (pending x) × (record_of s < group_version q))
          × ((q : Plan) → In q (pending x) → record_of s < group_version q → In q a))
      group_part x i gx s k h m =
          let g = is_line run v nc x i in
          let (y, jy, my) = g.released s k in
          let ry = ap record_of my in
          let k' = subst (λ d. In d x.structures) (sym my) k in
          let gy = down x y i jy gx k' in
          let p = prefix run v nc x y i jy k' in
          let sh = shorter run v nc x y i jy k' in
          let (w, jw, gw', tw, gw, hw, uw, c) = written (number y.own) y jy gy (omega arith) (omega arith) in
          let whole : line run x ≡ line run w ++ (c.0 ++ p.0) = p.1 ∙ ap (λ d. d ++ p.0) c.1 ∙ append_assoc (line run w) c.0 p.0 in
          let gs : group_version w.own ≡ record_of s = gw ∙ ry in
          let hv = is_line run v nc w jw in
          let fw = ap (last_raised 0) hv.ends.1 ∙ last_raised-push 0 hv.ends.0 w.own in
          let lw = ap length c.1 ∙ length-append (line run w) c.0 in
          let back = raised-back 0 (line run w) (c.0 ++ p.0) (subst (λ l. Raised 0 l) whole (raised_line run v nc down above_raise x i gx)) in (
            w,
            jw,
            gw',
            tw,
            hw ∙ ap handle_of my,
            omega arith,
            (
              c.0 ++ p.0,
              whole,
              (λ q iq rq.
                  (let lo = (version_bounds (last_raised 0 (line run w)) (c.0 ++ p.0) back q iq).0 in
                  let st : step q ≡ 1 = ap (λ b. if b then 1 else 0) rq in
                  let lt : record_of s < group_version q = omega arith in
                  (still_pending x i gx (record_of s) m q (subst (λ l. In q l) (sym whole) (in-right q (line run w) (c.0 ++ p.0) iq)) rq lt, lt))),
              (λ q iq lt.
                  (elim (in-append q (line run w) (c.0 ++ p.0) (subst (λ l. In q l) whole (g.has_pending q iq))) [
                    | inl kq ↦ absurd (let b = own_last_version w jw gw' q kq in omega arith)
                    | inr kq ↦ kq
                  ])),
            ),
          )
