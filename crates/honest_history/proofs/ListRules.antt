-- The reply to the operation that was placed last keeps the rules on lists, users and numbers.
use Rattle.std.proofs.Common.{◌≡◌, ◌≢◌, ℕ, ◌+◌, ◌<◌, ◌≤◌, List, map, Option, Some, None, Bool, true, false, refl, sym, ap, ◌∙◌, subst, inl, inr, arith}
use Rattle.std.specs.Prelude.{◌==◌, not}
use Rattle.std.specs.List.{filter, list_any}
use Rattle.std.proofs.lemmas.Bool.{eqb-true, eq-eqb, ltb-false, le-ltb, cases_lt, cases_Bool, and_from, true≢false, not-true}
use Rattle.principals.specs.Table.{Table}
use Rattle.version_order.specs.declared.vector.Component.{Component}
use Rattle.version_order.specs.Plan.{Plan}
use Rattle.version_order.specs.Structure.{Structure}
use Rattle.version_order.specs.Vector.{depth, version_of}
use Rattle.pending_list.specs.declared.signed.Signed.{Signed}
use Rattle.pending_list.specs.Reply.{PendingItem, Reply}
use Rattle.reply_rules.specs.Lists.{Lists, items, number_of, pending, shown}
use Rattle.reply_rules.specs.Rules.{counts_at, is_above, is_known, is_numbered, is_planned, lists, numbers, top_vector, unknown_user, waiting}
use Rattle.agreement.proofs.Members.{In, in-filter, in-kept, map-in}
use Rattle.agreement.proofs.Tests.{any_in}
use Rattle.honest_history.specs.Honest.{number_in}
use Rattle.honest_history.proofs.Chains.{Descending}
use Rattle.honest_history.proofs.Members.{all_from, none_in}
use Rattle.honest_history.proofs.Pairs.{Pairwise, pairwise_filter, pairwise_map, pairwise_more, pairwise_reverse}
use Rattle.honest_history.proofs.RuleTests.{ascends_pairwise, every_below_from, once_pairwise}
use Rattle.honest_history.proofs.Timeline.{number, place, user, version}
use Rattle.honest_history.proofs.Tops.{Snapshot, committed_below, in_items, item_in, items_all, lists_at, pending_item, placed_at, plan_depth, shown_item, top_counted, top_seen, top_unseen}

module _ (s : Snapshot) where
  abbrev rest : List PendingItem
  rest = s.rest

  abbrev done : PendingItem → Bool
  done = s.done

  abbrev last : ℕ → Option (Signed Structure)
  last = s.last

  abbrev zs : List (Signed Structure)
  zs = s.structures

  abbrev b : Table
  b = s.table

  abbrev x : Lists
  x = lists_at s

  abbrev is : List PendingItem
  is = placed_at s

  abbrev tv : List Component
  tv = top_vector x

  abbrev d : ℕ
  d = depth tv

  abbrev open_item : PendingItem → Bool
  open_item i = not (done i)

  -- ---- lists

  others_descending : Descending rest
  others_descending = s.descending.1

  pub items_ascend : Pairwise (λ i j. place i < place j) (items x)
  items_ascend = subst (Pairwise (λ i j. place i < place j)) (sym (items_all s)) (pairwise_reverse _ (filter open_item is) (pairwise_filter _ open_item is s.descending))

  -- a user has at most one pending operation
  pub one_pending : (i j : PendingItem) → In i is → In j is → done i ≡ false → done j ≡ false → user i ≡ user j → i ≡ j
  one_pending i j h k e f u =
      let a = s.commits.next i h in
      let b = s.commits.next j k in
      let m = ap (λ u. number_in (last u)) u in
      elim (cases_lt (number_in (last (user i))) (number i)) [
        | inl l ↦ elim (cases_lt (number_in (last (user j))) (number j)) [
          | inl q ↦ s.placing.one_number i j h k u (omega arith)
          | inr q ↦ absurd (true≢false (sym (s.commits.late j k q) ∙ f))
        ]
        | inr l ↦ absurd (true≢false (sym (s.commits.late i h l) ∙ e))
      ]

  abbrev pub reply : Reply
  reply = record { structures = zs; pending = items x }

  pub lists_hold : lists reply ≡ true
  unfolding lists
  lists_hold =
      and_from _ _ (ascends_pairwise (map (λ z. z.value.plan.user) zs) (pairwise_map _ (λ (z : Signed Structure). z.value.plan.user) zs s.latests.ascend))
      (and_from _ _ (ascends_pairwise (map (λ i. depth i.plan.vector) (items x)) (pairwise_map _ (λ (i : PendingItem). depth i.plan.vector) (items x) items_ascend))
      (and_from _ _ (once_pairwise (map (λ i. i.plan.user) (items x)) (pairwise_map _ (λ (i : PendingItem). i.plan.user) (items x)
      (pairwise_more _ (λ i j. user i ≢ user j) (items x) items_ascend (λ i j h k l u.
      let p = item_in s i h in
      let q = item_in s j k in
      let e = ap place (one_pending i j p.0 q.0 p.1 q.1 u) in
      omega arith))))
      (all_from is_planned (items x) (λ i h.
      let p = item_in s i h in
      and_from _ _ (eq-eqb i.plan.user i.cert.user (s.placing.planned_user i p.0)) (eq-eqb i.plan.number i.cert.number (s.placing.planned_number i p.0))))))

  -- ---- unknown user

  pub known_hold : unknown_user b x ≡ true
  unfolding unknown_user
  known_hold =
      and_from _ _
      (all_from (is_known b) (shown x) (λ p h. let r = shown_item s p h in subst (λ (p : Plan). is_known b p ≡ true) (sym r.3) (s.tabled.listed r.0 r.1)))
      (all_from (is_known b) (pending x) (λ p h. let r = pending_item s p h in subst (λ (p : Plan). is_known b p ≡ true) (sym r.3) (s.tabled.listed r.0 r.1)))

  -- ---- numbers

  numbered : (i : PendingItem) → In i is → is_numbered i.plan ≡ true
  numbered i h = eq-eqb (version (user i) i) (number i) (s.placing.own i h)

  pub number_last : (u : ℕ) → u < 64 → number_of u x ≡ number_in (last u)
  number_last u l = ap number_in (s.latests.of_user u l)

  pub pending_number : (i : PendingItem) → In i is → done i ≡ false → number i ≡ number_in (last (user i)) + 1
  pending_number i h f =
      let a = s.commits.next i h in
      elim (cases_lt (number_in (last (user i))) (number i)) [
        | inl l ↦ omega arith
        | inr l ↦ absurd (true≢false (sym (s.commits.late i h l) ∙ f))
      ]

  -- a pending item that isn't above
  pub waiting_item : (p : Plan) → In p (waiting x) → (i : PendingItem) × In i is × (done i ≡ false) × (p ≡ i.plan) × (place i ≤ d)
  waiting_item p h =
      let q = in-filter (λ p. not (is_above x p)) p (pending x) h in
      let r = pending_item s p q.0 in
      let m = ap plan_depth r.3 in
      let l = ltb-false d (depth p.vector) (not-true (is_above x p) q.1) in
      (r.0, r.1, r.2, r.3, omega arith)

  pub in_waiting : (i : PendingItem) → In i is → done i ≡ false → place i ≤ d → In i.plan (waiting x)
  in_waiting i h f l = in-kept (λ p. not (is_above x p)) i.plan (pending x) (map-in (λ (i : PendingItem). i.plan) (items x) i (in_items s i h f)) (ap not (le-ltb d (place i) l))

  counts : (u : ℕ) → u < 64 → counts_at x u ≡ true
  counts u l =
      let n = number_last u l in
      elim (cases_Bool (list_any (λ (p : Plan). p.user == u) (waiting x))) [
        | inl e ↦ rw e (eq-eqb _ _ (
            let r = any_in (λ (p : Plan). p.user == u) (waiting x) e in
            let q = waiting_item r.0 r.1 in
            let w : user q.0 ≡ u = ap (λ (p : Plan). p.user) (sym q.3) ∙ eqb-true (r.0).user u r.2 in
            let k = pending_number q.0 q.1 q.2 in
            let a = top_seen s q.0 q.1 q.4 in
            let m = ap (λ u. version_of u tv) w in
            let o = ap (λ u. number_in (last u)) w in
            elim (cases_lt (number_in (last u) + 1) (version_of u tv)) [
              | inl more ↦ absurd (
                  let c = top_counted s u (version_of u tv) l (omega arith) (omega arith) in
                  let y = s.commits.next c.0 c.1 in
                  let z = ap (λ u. number_in (last u)) c.2 in
                  let g = c.3 in
                  omega arith)
              | inr less ↦ omega arith
            ]))
        | inr e ↦ rw e (eq-eqb _ _ (
            let at_least : number_in (last u) ≤ version_of u tv = reaches (last u) refl in
            elim (cases_lt (number_in (last u)) (version_of u tv)) [
              | inl more ↦ absurd (
                  let c = top_counted s u (version_of u tv) l (omega arith) (omega arith) in
                  let g = c.3 in
                  let z = ap (λ u. number_in (last u)) c.2 in
                  elim (cases_Bool (done c.0)) [
                    | inl f ↦ (let y = s.commits.early c.0 c.1 f in omega arith)
                    | inr f ↦ elim (cases_lt d (place c.0)) [
                      | inl far ↦ (let y = top_unseen s c.0 c.1 far in let m = ap (λ u. version_of u tv) c.2 in omega arith)
                      | inr near ↦ (
                          let y = none_in (λ (p : Plan). p.user == u) (waiting x) e (c.0).plan (in_waiting c.0 c.1 f near) in
                          true≢false (sym (eq-eqb (user c.0) u c.2) ∙ y))
                    ]
                  ])
              | inr less ↦ omega arith
            ]))
      ]
    where
      reaches : (o : Option (Signed Structure)) → last u ≡ o → number_in (last u) ≤ version_of u tv
      reaches None e = let m = ap number_in e in omega arith
      reaches (Some z) e =
          let q = s.commits.lasts u z e in
          let m = ap number_in e in
          let k = ap (λ (p : Plan). p.number) q.2 in
          let w = ap (λ u. number_in (last u)) q.3 in
          let a = top_seen s q.0 q.1 (committed_below s q.0 q.1 (s.commits.late q.0 q.1 (omega arith))) in
          let v = ap (λ u. version_of u tv) q.3 in
          omega arith

  pub numbers_hold : numbers x ≡ true
  unfolding numbers
  numbers_hold =
      and_from _ _ (all_from is_numbered (shown x) (λ p h. let r = shown_item s p h in subst (λ (p : Plan). is_numbered p ≡ true) (sym r.3) (numbered r.0 r.1)))
      (and_from _ _ (all_from is_numbered (pending x) (λ p h. let r = pending_item s p h in subst (λ (p : Plan). is_numbered p ≡ true) (sym r.3) (numbered r.0 r.1)))
      (and_from _ _ (all_from (λ p. p.number == number_of p.user x + 1) (pending x) (λ p h.
      let r = pending_item s p h in
      subst (λ (p : Plan). (p.number == number_of p.user x + 1) ≡ true) (sym r.3)
      (eq-eqb _ _ (let k = pending_number r.0 r.1 r.2 in let n = number_last (user r.0) (s.placing.users r.0 r.1) in omega arith))))
      (every_below_from 64 (counts_at x) counts)))
