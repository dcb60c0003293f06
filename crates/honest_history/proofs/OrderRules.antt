-- The reply to the operation that was placed last keeps the rules on vectors and on links.
use Rattle.std.proofs.Common.{◌≡◌, ◌≢◌, ℕ, List, ◌++◌, reverse, Option, Bool, true, false, refl, sym, ap, ◌∙◌, subst, inl, inr, arith}
use Rattle.std.specs.Prelude.{◌&&◌, not}
use Rattle.std.specs.List.{filter}
use Rattle.std.proofs.lemmas.Bool.{lt-ltb, le-ltb, cases_lt, cases_order, and_from, or_left, or_right, true≢false}
use Rattle.principals.specs.Table.{Table}
use Rattle.version_order.specs.declared.vector.Component.{Component}
use Rattle.version_order.specs.Plan.{Plan}
use Rattle.version_order.specs.Structure.{Structure}
use Rattle.version_order.specs.Vector.{depth}
use Rattle.pending_list.specs.declared.signed.Signed.{Signed}
use Rattle.pending_list.specs.Reply.{PendingItem, digest_of_last}
use Rattle.reply_rules.specs.Lists.{Lists, items, pending, shown}
use Rattle.reply_rules.specs.Rules.{all_in_order, each_has_next_vector, in_order, items_above, link, top_vector, vector}
use Rattle.agreement.proofs.Members.{In}
use Rattle.honest_history.proofs.Chains.{beyond, follows_above}
use Rattle.honest_history.proofs.Members.{all_from, bytes_equal, filter_filter, filter_reverse, filter_same}
use Rattle.honest_history.proofs.Pairs.{pairwise_append, pairwise_map, pairwise_more}
use Rattle.honest_history.proofs.RuleTests.{any_two_pairwise}
use Rattle.honest_history.proofs.Timeline.{place, user, vector_in}
use Rattle.honest_history.proofs.Tops.{Snapshot, above_pending, item_in, items_all, lists_at, own_above, pending_item, placed_at, shown_item, starts_at, structure_item}
use Rattle.honest_history.proofs.ListRules.{items_ascend}
use Rattle.honest_history.proofs.Vectors.{is_below_from}

module _ (s : Snapshot) where
  abbrev own : PendingItem
  own = s.own

  abbrev done : PendingItem → Bool
  done = s.done

  abbrev last : ℕ → Option (Signed Structure)
  last = s.last

  abbrev zs : List (Signed Structure)
  zs = s.structures

  abbrev b : Table
  b = s.table

  abbrev x : Lists
  x = lists_at s

  abbrev is : List PendingItem
  is = placed_at s

  abbrev tv : List Component
  tv = top_vector x

  abbrev d : ℕ
  d = depth tv

  abbrev open_item : PendingItem → Bool
  open_item i = not (done i)

  -- ---- vectors

  ordered_two : (i j : PendingItem) → In i is → In j is → place i ≢ place j → in_order i.plan j.plan ≡ true
  ordered_two i j h k n =
      elim (cases_order (place i) (place j)) [
        | inl e ↦ absurd (n e)
        | inr o ↦ elim o [
          | inl l ↦ or_left _ _ (and_from _ _ (lt-ltb (place i) (place j) l) (is_below_from (vector_in i) (vector_in j) (s.placing.ascends i h) (s.placing.grown i j h k l)))
          | inr l ↦ or_right _ _ (and_from _ _ (lt-ltb (place j) (place i) l) (is_below_from (vector_in j) (vector_in i) (s.placing.ascends j k) (s.placing.grown j i k h l)))
        ]
      ]

  abbrev pub Ordered : Plan → Plan → Type 0
  Ordered p q = in_order p q ≡ true

  plans_ordered : (p q : Plan) (i j : PendingItem) → p ≡ i.plan → q ≡ j.plan → In i is → In j is → place i ≢ place j → Ordered p q
  plans_ordered p q i j e f h k n = subst (λ (p : Plan). Ordered p q) (sym e) (subst (λ (q : Plan). Ordered i.plan q) (sym f) (ordered_two i j h k n))

  order_hold : all_in_order x ≡ true
  order_hold = any_two_pairwise in_order (shown x ++ pending x) (pairwise_append Ordered (shown x) (pending x)
      (pairwise_map Ordered (λ (z : Signed Structure). z.value.plan) zs (pairwise_more _ _ zs s.latests.ascend (λ y z h k l.
      let a = structure_item s y h in
      let c = structure_item s z k in
      plans_ordered y.value.plan z.value.plan a.0 c.0 a.3 c.3 a.1 c.1 (λ e.
      let m = ap user (s.placing.one_place a.0 c.0 a.1 c.1 e) in
      let p = ap (λ (p : Plan). p.user) a.3 in
      let q = ap (λ (p : Plan). p.user) c.3 in
      omega arith))))
      (pairwise_map Ordered (λ (i : PendingItem). i.plan) (items x) (pairwise_more _ _ (items x) (items_ascend s) (λ i j h k l.
      plans_ordered i.plan j.plan i j refl refl (item_in s i h).0 (item_in s j k).0 (λ e. omega arith))))
      (λ p q h k.
      let a = shown_item s p h in
      let c = pending_item s q k in
      plans_ordered p q a.0 c.0 a.3 c.3 a.1 c.1 (λ e. true≢false (sym a.2 ∙ ap done (s.placing.one_place a.0 c.0 a.1 c.1 e) ∙ c.2))))

  pub items_above_are : items_above x ≡ reverse (filter (beyond d) is)
  items_above_are =
      ap (filter (beyond d)) (items_all s) ∙ filter_reverse (beyond d) (filter open_item is)
      ∙ ap reverse (filter_filter (beyond d) open_item is ∙ filter_same (λ i. open_item i && beyond d i) (beyond d) is (λ i h. elim (cases_lt d (place i)) [
        | inl l ↦ rw (above_pending s i h l) refl
        | inr l ↦ rw (le-ltb d (place i) l) (and_false (not (done i)))
      ]))
    where
      and_false : (b : Bool) → (b && false) ≡ false
      and_false true = refl
      and_false false = refl

  pub vector_hold : vector b x ≡ true
  unfolding vector
  vector_hold =
      and_from _ _ order_hold
      (and_from _ _ (lt-ltb d (place own) (own_above s))
      (subst (λ l. each_has_next_vector b tv l ≡ true) (sym items_above_are) (follows_above b is d tv s.tabled.follows s.descending s.placing.deep (starts_at s))))

  -- ---- links

  pub link_hold : link x ≡ true
  unfolding link
  link_hold = all_from _ (items x) (λ i h.
      let p = item_in s i h in
      and_from _ _ (bytes_equal _ _ (s.placing.certificate i p.0))
      (bytes_equal _ _ (s.links i p.0 p.1 ∙ ap digest_of_last (ap last (s.placing.planned_user i p.0)
      ∙ sym (s.latests.of_user i.cert.user (let u = s.placing.users i p.0 in let e = s.placing.planned_user i p.0 in omega arith))))))
