-- A structure that is committed, of an operation that is pending, keeps all of it.
use Rattle.std.proofs.Common.{◌≡◌, ◌≢◌, ℕ, List, ◌∷◌, map, reverse, Some, None, Bool, true, false, refl, sym, ap, ◌∙◌, subst, inl, inr}
use Rattle.std.specs.Prelude.{◌==◌, ◌&&◌, ◌||◌, not}
use Rattle.std.specs.List.{filter}
use Rattle.std.proofs.lemmas.Bool.{eq-eqb, ne_eqb, cases_eq, and_from, or_left, or_right, true≢false, false_from_ne_true, not-true}
use Rattle.version_order.specs.Plan.{Plan}
use Rattle.version_order.specs.Structure.{Structure}
use Rattle.version_order.specs.Vector.{depth}
use Rattle.pending_list.specs.declared.signed.Signed.{Signed}
use Rattle.pending_list.specs.Reply.{PendingItem}
use Rattle.consistency_server.specs.Event.{Event, Committed, last_of}
use Rattle.consistency_server.specs.State.{Placement, commits, pending_after, pending_of, table_after, vector_after}
use Rattle.agreement.proofs.Members.{In, in-filter, map-in}
use Rattle.honest_history.proofs.Entries.{commits_commit, entries_commit, links_commit}
use Rattle.honest_history.proofs.Good.{Good, is_committed, is_of, is_open, item_of, items, one_waits, pending_in}
use Rattle.honest_history.proofs.Members.{filter_filter, filter_reverse, filter_same, find_none, map_filter}
use Rattle.honest_history.proofs.Tabled.{IsStructureSigned, RecordsOf}
use Rattle.honest_history.proofs.Timeline.{number, user}

neither : (a b : Bool) → (not b && not a) ≡ not (a || b)
neither true true = refl
neither true false = refl
neither false true = refl
neither false false = refl

module _ (pinned : List ℕ) (es : List Event) (z : Signed Structure) (x : PendingItem) (g : Good pinned es) (there : In x (items pinned es)) (opened : is_committed es x ≡ false) (plan : z.value.plan ≡ x.plan) (records : RecordsOf (table_after pinned es) (items pinned es) x z.value) (sign : IsStructureSigned (table_after pinned es) z) where
  abbrev es' : List Event
  es' = Committed z ∷ es

  abbrev is : List PendingItem
  is = items pinned es

  user_is : z.value.plan.user ≡ user x
  user_is = ap (λ (p : Plan). p.user) plan

  pub now_done : is_committed es' x ≡ true
  now_done = or_left _ _ (and_from _ _ (eq-eqb z.value.plan.user (user x) user_is) (eq-eqb z.value.plan.number (number x) (ap (λ (p : Plan). p.number) plan)))

  pub still_open : (i : PendingItem) → is_committed es' i ≡ false → is_committed es i ≡ false
  still_open i f = false_from_ne_true (is_committed es i) (λ e. true≢false (sym (or_right _ (is_committed es i) e) ∙ f))

  pub other_open : (i : PendingItem) → user i ≢ user x → is_committed es i ≡ false → is_committed es' i ≡ false
  other_open i n f = rw (ne_eqb z.value.plan.user (user i) (λ e. n (sym e ∙ user_is)), f) refl

  waiting_next : map item_of (filter (λ w. not (commits z w)) (pending_after pinned es)) ≡ reverse (filter (is_open es') is)
  waiting_next =
      map_filter item_of (λ i. not (is_of i z)) (pending_after pinned es)
      ∙ ap (filter (λ i. not (is_of i z))) g.waiting
      ∙ filter_reverse (λ i. not (is_of i z)) (filter (is_open es) is)
      ∙ ap reverse (filter_filter (λ i. not (is_of i z)) (is_open es) is ∙ filter_same (λ i. is_open es i && not (is_of i z)) (is_open es') is (λ i h. neither (is_of i z) (is_committed es i)))

  recorded_next : (u : ℕ) (y : Signed Structure) → last_of u es' ≡ Some y → (k : PendingItem) → In k is → y.value.plan ≡ k.plan → RecordsOf (table_after pinned es) is k y.value
  recorded_next u y e k ki m =
      elim (cases_eq z.value.plan.user u) [
        | inl f ↦ (
            let a : Some z ≡ Some y = rw (eq-eqb z.value.plan.user u f) at e in
            let n : z ≡ y = cc in
            let w : x ≡ k = g.placing.one_place x k there ki (ap (λ (p : Plan). depth p.vector) (sym plan ∙ ap (λ (y : Signed Structure). y.value.plan) n ∙ m)) in
            subst (λ (y : Signed Structure). RecordsOf (table_after pinned es) is k y.value) n (subst (λ (k : PendingItem). RecordsOf (table_after pinned es) is k z.value) w records))
        | inr f ↦ (let a : last_of u es ≡ Some y = rw (ne_eqb z.value.plan.user u f) at e in g.recorded u y a k ki m)
      ]

  pub good_committed : Good pinned es'
  unfolding table_after vector_after pending_after
  good_committed =
      record {
        placing = g.placing;
        latest = g.latest;
        same = g.same;
        entries = entries_commit is (is_committed es) (λ u. last_of u es) z x g.placing g.commits there opened plan g.entries;
        commits = commits_commit is (is_committed es) (λ u. last_of u es) z x g.placing g.commits there opened plan;
        made = λ y h. (elim h [ inl e ↦ (x, there, ap (λ (y : Signed Structure). y.value.plan) e ∙ plan) | inr k ↦ g.made y k ]);
        links = links_commit is (is_committed es) (λ u. last_of u es) z x g.placing g.commits there opened plan g.links;
        tabled = g.tabled;
        descending = g.descending;
        signed = λ y h. (elim h [ inl e ↦ subst (IsStructureSigned (table_after pinned es)) (sym e) sign | inr k ↦ g.signed y k ]);
        super_key = g.super_key;
        recorded = recorded_next;
        waiting = waiting_next;
      }

  -- nothing of its user is pending any more
  pub none_left : pending_of (user x) (filter (λ w. not (commits z w)) (pending_after pinned es)) ≡ None
  none_left =
      find_none (λ (w : Placement). w.item.plan.user == user x) (filter (λ w. not (commits z w)) (pending_after pinned es)) (λ w i.
      let (waits, left) = in-filter (λ w. not (commits z w)) w (pending_after pinned es) i in
      ne_eqb w.item.plan.user (user x) (λ u.
      let here = pending_in pinned es g w.item (map-in item_of (pending_after pinned es) w waits) in
      let same = one_waits pinned es g w.item x here.0 there here.1 opened u in
      let of_w : z.value.plan ≡ w.item.plan = plan ∙ ap (λ (i : PendingItem). i.plan) (sym same) in
      let gone : commits z w ≡ true = and_from _ _ (eq-eqb z.value.plan.user w.item.plan.user (ap (λ (p : Plan). p.user) of_w)) (eq-eqb z.value.plan.number w.item.plan.number (ap (λ (p : Plan). p.number) of_w)) in
      true≢false (sym gone ∙ not-true (commits z w) left)))
