-- Lists that have at most one for each user, ascending by user.
use Rattle.std.proofs.Common.{◌≡◌, ℕ, zero, suc, ◌<◌, ◌≤◌, Bool, true, false, cond, List, [], ◌∷◌, ◌++◌, Option, Some, None, refl, sym, ap, ◌∙◌, inl, inr, arith}
use Rattle.std.specs.Prelude.{◌==◌, find, filter_map, if◌then◌else◌}
use Rattle.std.specs.Cmp.{nat_cmp_is}
use Rattle.std.specs.List.{All, cons_option}
use Rattle.std.specs.Ordering.{nat_cmp, is_lt, is_eq}
use Rattle.std.specs.declared.cmp.Ordering.TheVariants.{Less, Equal, Greater}
use Rattle.std.proofs.lemmas.Bool.{eq-eqb, ne_eqb, cases_eq, eqb-true}
use Rattle.std.proofs.lemmas.List.{append-nil}
use Rattle.std.proofs.lemmas.List.Elements.{All-nil, All-cons, All-head, All-tail, All-append, filter_map-append}
use Rattle.layout.specs.Ascending.{with_row}
use Rattle.version_order.specs.Structure.{Structure}
use Rattle.pending_list.specs.declared.signed.Signed.{Signed}
use Rattle.pending_list.specs.Reply.{user_of}
use Rattle.consistency_server.specs.Event.{Event, Committed, committed, last_of, users_below, structures}

pub less : (a b : ℕ) → a < b → nat_cmp a b ≡ Less
less a b lt = sym (nat_cmp_is a b Less lt)

pub same : (a b : ℕ) → a ≡ b → nat_cmp a b ≡ Equal
same a b e = sym (nat_cmp_is a b Equal e)

pub greater : (a b : ℕ) → b < a → nat_cmp a b ≡ Greater
greater a b gt = sym (nat_cmp_is a b Greater gt)

-- what is found passes the test
pub find_holds : {X : Type 0} (p : X → Bool) (xs : List X) (y : X) → find p xs ≡ Some y → p y ≡ true
find_holds p [] y e = absurd cc
find_holds {X} p (x ∷ xs) y e =
    elim (p x) as (λ b. p x ≡ b → cond b (Some x) (find p xs) ≡ Some y → p y ≡ true) [
      | true ↦ λ is f. let e' : x ≡ y = cc in ap p (sym e') ∙ is
      | false ↦ λ is f. find_holds p xs y f
    ] refl e

pub users_more : (n : ℕ) → users_below (suc n) ≡ users_below n ++ n ∷ []
unfolding users_below
users_more n = refl

pub no_users : users_below 0 ≡ []
unfolding users_below
no_users = refl

module _ {X : Type 0} (key : X → ℕ) where
  -- ---- one more row

  -- a row that is below the last one is put before it
  row_before : (xs : List X) (x y : X) → key x < key y → with_row nat_cmp key (xs ++ y ∷ []) x ≡ with_row nat_cmp key xs x ++ y ∷ []
  row_before [] x y lt = rw (greater (key y) (key x) lt) refl
  row_before (z ∷ zs) x y lt =
      elim (nat_cmp (key z) (key x)) as (λ o. cond (is_lt o) (z ∷ with_row nat_cmp key (zs ++ y ∷ []) x) (cond (is_eq o) (x ∷ zs ++ y ∷ []) (x ∷ z ∷ zs ++ y ∷ [])) ≡ cond (is_lt o) (z ∷ with_row nat_cmp key zs x) (cond (is_eq o) (x ∷ zs) (x ∷ z ∷ zs)) ++ y ∷ []) [
        | Less ↦ ap (λ (ys : List X). z ∷ ys) (row_before zs x y lt)
        | Equal ↦ refl
        | Greater ↦ refl
      ]

  -- a row that is above all is put last
  row_last : (xs : List X) (x : X) → All (λ z. key z < key x) xs → with_row nat_cmp key xs x ≡ xs ++ x ∷ []
  row_last [] x below = refl
  row_last (z ∷ zs) x below =
      rw (less (key z) (key x) (All-head (λ y. key y < key x) z zs below)) (ap (λ (ys : List X). z ∷ ys) (row_last zs x (All-tail (λ y. key y < key x) z zs below)))

  -- and in the place of the last one, where that is of its key
  row_in_place : (xs : List X) (x y : X) → All (λ z. key z < key x) xs → key y ≡ key x → with_row nat_cmp key (xs ++ y ∷ []) x ≡ xs ++ x ∷ []
  row_in_place [] x y below e = rw (same (key y) (key x) e) refl
  row_in_place (z ∷ zs) x y below e =
      rw (less (key z) (key x) (All-head (λ w. key w < key x) z zs below)) (ap (λ (ys : List X). z ∷ ys) (row_in_place zs x y (All-tail (λ w. key w < key x) z zs below) e))

  -- ---- one for each user

  module _ (h : ℕ → Option X) (own : (u : ℕ) (y : X) → h u ≡ Some y → key y ≡ u) where
    upto : ℕ → List X
    upto n = filter_map h (users_below n)

    pub more : (n : ℕ) → filter_map h (users_below (suc n)) ≡ filter_map h (users_below n) ++ cons_option (h n) []
    more n = ap (filter_map h) (users_more n) ∙ filter_map-append h (users_below n) (n ∷ [])

    one_below : (n : ℕ) (o : Option X) → h n ≡ o → All (λ z. key z < suc n) (cons_option o [])
    one_below n None e = All-nil (λ z. key z < suc n)
    one_below n (Some y) e = All-cons (λ z. key z < suc n) y [] (omega (arith, own n y e)) (All-nil (λ z. key z < suc n))

    -- those of the first users are of them
    pub keys_below : (n : ℕ) → All (λ z. key z < n) (filter_map h (users_below n))
    keys_below zero = rw no_users (All-nil (λ z. key z < 0))
    keys_below (suc n) =
        rw (more n) (All-append (λ z. key z < suc n) (filter_map h (users_below n)) (cons_option (h n) []) (λ i d lt. omega (arith, keys_below n i d lt)) (one_below n (h n) refl))

    -- this one, and else those before
    abbrev pub with_one : X → ℕ → Option X
    with_one x u = if key x == u then Some x else h u

    unchanged : (x : X) (n : ℕ) → n ≤ key x → filter_map (with_one x) (users_below n) ≡ filter_map h (users_below n)
    unchanged x zero le = rw no_users refl
    unchanged x (suc n) le =
        ap (filter_map (with_one x)) (users_more n) ∙ filter_map-append (with_one x) (users_below n) (n ∷ [])
        ∙ ap (λ (ys : List X). ys ++ cons_option (with_one x n) []) (unchanged x n (omega arith))
        ∙ ap (λ b. filter_map h (users_below n) ++ cons_option (cond b (Some x) (h n)) []) (ne_eqb (key x) n (λ e. omega arith))
        ∙ sym (more n)

    last_one : (x : X) (n : ℕ) (o : Option X) → h n ≡ o → key x ≡ n → filter_map h (users_below n) ++ x ∷ [] ≡ with_row nat_cmp key (filter_map h (users_below n) ++ cons_option o []) x
    last_one x n None e is =
        sym (ap (λ (ys : List X). with_row nat_cmp key ys x) (append-nil (filter_map h (users_below n))) ∙ row_last (filter_map h (users_below n)) x (λ i d lt. omega (arith, keys_below n i d lt)))
    last_one x n (Some y) e is = sym (row_in_place (filter_map h (users_below n)) x y (λ i d lt. omega (arith, keys_below n i d lt)) (own n y e ∙ sym is))

    earlier_one : (x : X) (n : ℕ) (o : Option X) → h n ≡ o → key x < n → with_row nat_cmp key (filter_map h (users_below n)) x ++ cons_option o [] ≡ with_row nat_cmp key (filter_map h (users_below n) ++ cons_option o []) x
    earlier_one x n None e lt =
        append-nil (with_row nat_cmp key (filter_map h (users_below n)) x) ∙ sym (ap (λ (ys : List X). with_row nat_cmp key ys x) (append-nil (filter_map h (users_below n))))
    earlier_one x n (Some y) e lt = sym (row_before (filter_map h (users_below n)) x y (omega (arith, own n y e)))

    -- one more is a row more
    pub one_more : (x : X) (n : ℕ) → key x < n → filter_map (with_one x) (users_below n) ≡ with_row nat_cmp key (filter_map h (users_below n)) x
    one_more x zero lt = absurd (omega arith)
    one_more x (suc n) lt =
        ap (filter_map (with_one x)) (users_more n) ∙ filter_map-append (with_one x) (users_below n) (n ∷ [])
        ∙ (elim (cases_eq (key x) n) [
          | inl e ↦
              ap (λ (ys : List X). ys ++ cons_option (with_one x n) []) (unchanged x n (omega arith))
              ∙ ap (λ b. filter_map h (users_below n) ++ cons_option (cond b (Some x) (h n)) []) (eq-eqb (key x) n e)
              ∙ last_one x n (h n) refl e
          | inr ne ↦
              ap (λ (ys : List X). ys ++ cons_option (with_one x n) []) (one_more x n (omega arith))
              ∙ ap (λ b. with_row nat_cmp key (filter_map h (users_below n)) x ++ cons_option (cond b (Some x) (h n)) []) (ne_eqb (key x) n ne)
              ∙ earlier_one x n (h n) refl (omega arith)
        ])
        ∙ ap (λ (ys : List X). with_row nat_cmp key ys x) (sym (more n))

-- ---- structures

-- nobody has one where each has none
none_each : {X : Type 0} (n : ℕ) → filter_map {Y = X} (λ u. None) (users_below n) ≡ []
none_each zero = rw no_users refl
none_each {X} (suc n) =
    ap (filter_map {Y = X} (λ u. None)) (users_more n) ∙ filter_map-append {Y = X} (λ u. None) (users_below n) (n ∷ []) ∙ ap (λ (ys : List X). ys ++ []) (none_each n)

pub no_structures : structures [] ≡ []
no_structures = none_each 64

last_is_own : (es : List Event) (u : ℕ) (s : Signed Structure) → last_of u es ≡ Some s → user_of s ≡ u
last_is_own es u s e = eqb-true (user_of s) u (find_holds (λ t. t.value.plan.user == u) (committed es) s e)

-- a structure that is committed takes its place among the latest
pub structures_committed : (s : Signed Structure) (es : List Event) → user_of s < 64 → structures (Committed s ∷ es) ≡ with_row nat_cmp user_of (structures es) s
structures_committed s es lt = one_more user_of (λ u. last_of u es) (last_is_own es) s 64 lt
