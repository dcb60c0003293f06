-- The table after all operations is the one that user 0's handle names, as user 0's pending operation leaves it.
use Rattle.std.proofs.Common.{◌≡◌, ℕ, List, [], ◌∷◌, ◌++◌, map, Option, Some, None, Bool, true, false, cond, refl, sym, ap, ◌∙◌, subst, inl, inr, arith}
use Rattle.std.specs.Prelude.{◌==◌, find, not}
use Rattle.std.specs.List.{filter}
use Rattle.std.specs.Option.{option_map, option_map_or}
use Rattle.std.proofs.lemmas.Bool.{eqb-true, eq-eqb, ne_eqb, cases_Bool, cases_eq, and_left}
use Rattle.std.proofs.lemmas.List.{map-append}
use Rattle.layout.specs.Types.{Handle, Key}
use Rattle.principals.specs.Table.{Table, genesis}
use Rattle.version_order.specs.Plan.{Plan}
use Rattle.version_order.specs.Structure.{Structure}
use Rattle.update_cert.specs.Cert.{Cert}
use Rattle.pending_list.specs.declared.signed.Signed.{Signed}
use Rattle.pending_list.specs.Reply.{PendingItem}
use Rattle.client_tree.specs.Genesis.{first_handle}
use Rattle.consistency_server.specs.Event.{Event, Placed, Committed, last_of}
use Rattle.consistency_server.specs.State.{Placement, after_operation, commits, next_item, next_placement, pending_after, pending_of, state_after, table_after}
use Rattle.honest_history.specs.Placed.{lists_to, table_to}
use Rattle.honest_history.specs.Honest.{IsHonest, Names, Naming}
use Rattle.honest_history.specs.Served.{IsTableOf, NamesFirst}
use Rattle.honest_history.proofs.Events.{latests_after}
use Rattle.honest_history.proofs.Committing.{none_left}
use Rattle.honest_history.proofs.Good.{Good, item_of}
use Rattle.honest_history.proofs.Placing.{CanPlace}
use Rattle.honest_history.proofs.Reached.{Reached, can_commit, honest_open, reached, still_kept}
use Rattle.honest_history.proofs.Tables.{others_leave}
use Rattle.honest_history.proofs.Timeline.{user}
use Rattle.honest_history.proofs.Waiting.{CanCommit, Grown}

-- ---- finding

-- one more is found where nothing before it is
abbrev or_this : {A : Type 0} → Option A → Option A → Option A
or_this None o = o
or_this (Some x) o = Some x

find_push : {A : Type 0} (f : A → Bool) (xs : List A) (y : A) → find f (xs ++ y ∷ []) ≡ or_this (find f xs) (cond (f y) (Some y) None)
find_push f [] y = refl
find_push {A} f (x ∷ xs) y = go (f x) (find_push f xs y)
  where
    go : (b : Bool) → find f (xs ++ y ∷ []) ≡ or_this (find f xs) (cond (f y) (Some y) None) → cond b (Some x) (find f (xs ++ y ∷ [])) ≡ or_this (cond b (Some x) (find f xs)) (cond (f y) (Some y) None)
    go true e = refl
    go false e = e

find_kept : {A : Type 0} (f t : A → Bool) (xs : List A) → ((x : A) → f x ≡ true → t x ≡ true) → find f (filter t xs) ≡ find f xs
find_kept f t [] h = refl
find_kept f t (x ∷ xs) h =
    elim (cases_Bool (f x)) [
      | inl e ↦ rw (h x e, e) refl
      | inr e ↦ elim (cases_Bool (t x)) [
        | inl k ↦ rw (k, e) (find_kept f t xs h)
        | inr k ↦ rw (k, e) (find_kept f t xs h)
      ]
    ]

find_map : (u : ℕ) (ws : List Placement) → find (λ i. i.plan.user == u) (map item_of ws) ≡ option_map item_of (pending_of u ws)
find_map u [] = refl
find_map u (w ∷ ws) = go (w.item.plan.user == u) (find_map u ws)
  where
    go : (b : Bool) → find (λ i. i.plan.user == u) (map item_of ws) ≡ option_map item_of (pending_of u ws)
        → cond b (Some w.item) (find (λ i. i.plan.user == u) (map item_of ws)) ≡ option_map item_of (cond b (Some w) (pending_of u ws))
    go true e = refl
    go false e = e

-- ---- the table

-- this table, as the operation leaves it, if there is one
abbrev after_item : Table → Option PendingItem → Table
after_item users o = option_map_or (λ i. after_operation i.cert users) o users

-- the handle of user 0's structure, without one that of the beginning
abbrev handle_by : Key → Option (Signed Structure) → Handle
handle_by pinned o = option_map_or (λ z. z.value.handle) o (first_handle 0 pinned)

pub record HasTable (names : Naming) (pinned : Key) (es : List Event) : Type 0 where
  pub users : Table
  pub named : Names names (handle_by pinned (last_of 0 es)) users
  pub after : table_after pinned es ≡ after_item users (option_map item_of (pending_of 0 (pending_after pinned es)))

module _ (names : Naming) (pinned : Key) where
  pub start : NamesFirst names pinned → HasTable names pinned []
  unfolding table_after pending_after
  start first = record { users = genesis pinned; named = first; after = refl }

  -- one more operation, among which user 0's is found
  placed_found : (users table : Table) (ws : List Placement) (w : Placement) → pending_of w.item.plan.user ws ≡ None → w.item.plan.user ≡ w.item.cert.user → table ≡ after_item users (option_map item_of (pending_of 0 ws))
      → after_operation w.item.cert table ≡ after_item users (option_map item_of (pending_of 0 (ws ++ w ∷ [])))
  placed_found users table ws w free same h =
      elim (cases_eq w.item.plan.user 0) [
        | inl zero ↦ (
            let none : pending_of 0 ws ≡ None = ap (λ u. pending_of u ws) (sym zero) ∙ free in
            let found : pending_of 0 (ws ++ w ∷ []) ≡ Some w = find_push (λ (v : Placement). v.item.plan.user == 0) ws w ∙ rw (none, eq-eqb w.item.plan.user 0 zero) refl in
            ap (after_operation w.item.cert) (h ∙ ap (λ o. after_item users (option_map item_of o)) none) ∙ ap (λ o. after_item users (option_map item_of o)) (sym found))
        | inr other ↦ (
            let found : pending_of 0 (ws ++ w ∷ []) ≡ pending_of 0 ws = find_push (λ (v : Placement). v.item.plan.user == 0) ws w ∙ rw (ne_eqb w.item.plan.user 0 other) (or_none (pending_of 0 ws)) in
            others_leave w.item.cert.user w.item.cert.number w.item.cert.changes table (λ e. other (same ∙ e)) ∙ h ∙ ap (λ o. after_item users (option_map item_of o)) (sym found))
      ]
    where
      or_none : {A : Type 0} (o : Option A) → or_this o None ≡ o
      or_none None = refl
      or_none (Some x) = refl

  table_placed : (es : List Event) (c : Signed Cert) → CanPlace pinned es c → HasTable names pinned es → HasTable names pinned (Placed c ∷ es)
  unfolding table_after pending_after
  table_placed es c can t =
      record {
        users = t.users;
        named = t.named;
        after = placed_found t.users (table_after pinned es) (pending_after pinned es) (next_placement (state_after pinned es) c) can.free refl t.after;
      }

  -- the structure is of the operation that honest clients sign it over
  table_committed : (es : List Event) (z : Signed Structure) → Good pinned es → Grown pinned es → (can : CanCommit pinned es z) → IsHonest names pinned es z.value → HasTable names pinned es → HasTable names pinned (Committed z ∷ es)
  unfolding table_after pending_after
  table_committed es z g grown can honest t =
      elim (cases_eq z.value.plan.user 0) [
        | inl zero ↦ (
            let own = next_item (state_after pinned honest.earlier) honest.cert in
            let opened = honest_open pinned es z.value names g honest in
            let k = still_kept pinned es honest.earlier honest.cert grown honest.since opened.1 in
            let of_super : own.plan.user ≡ 0 = ap (λ (p : Plan). p.user) (sym honest.over.plan) ∙ zero in
            let last : last_of 0 (Committed z ∷ es) ≡ Some z = rw (eq-eqb z.value.plan.user 0 zero) refl in
            let own_user : user can.own ≡ 0 = ap (λ (p : Plan). p.user) (sym can.plan) ∙ zero in
            let found = subst (λ u. pending_of u (filter (λ w. not (commits z w)) (pending_after pinned es)) ≡ None) own_user (none_left pinned es z can.own g can.there can.opened can.plan can.records can.signed) in
            record {
              users = table_after pinned es;
              named = subst (λ o. Names names (handle_by pinned o) (table_after pinned es)) (sym last) (subst (Names names z.value.handle) (sym (k.table of_super)) (honest.over.handle of_super));
              after = ap (λ o. after_item (table_after pinned es) (option_map item_of o)) (sym found);
            })
        | inr other ↦ (
            let last : last_of 0 (Committed z ∷ es) ≡ last_of 0 es = rw (ne_eqb z.value.plan.user 0 other) refl in
            let found : pending_of 0 (filter (λ w. not (commits z w)) (pending_after pinned es)) ≡ pending_of 0 (pending_after pinned es)
            = find_kept (λ (w : Placement). w.item.plan.user == 0) (λ w. not (commits z w)) (pending_after pinned es) (λ w e. ap not (and_left _ _ (ne_eqb z.value.plan.user w.item.plan.user (λ same. other (same ∙ eqb-true w.item.plan.user 0 e))))) in
            record {
              users = t.users;
              named = subst (λ o. Names names (handle_by pinned o) t.users) (sym last) t.named;
              after = t.after ∙ ap (λ o. after_item t.users (option_map item_of o)) (sym found);
            })
      ]

  pub has_table : NamesFirst names pinned → (es : List Event) → Reached names pinned es → HasTable names pinned es
  has_table first [] r = start first
  has_table first (Placed c ∷ es) r = table_placed es c r.0 (has_table first es r.2)
  has_table first (Committed z ∷ es) r =
      let before = reached names pinned es r.3 in
      table_committed es z before.0 before.1 (can_commit names pinned es z before.0 before.1 r.0 r.2) r.2 (has_table first es r.3)

  -- so it is in the reply to an operation
  pub table_of_reply : (es : List Event) (c : Signed Cert) → HasTable names pinned (Placed c ∷ es) → IsTableOf names pinned (lists_to pinned es c) (table_to pinned es c)
  unfolding pending_after
  table_of_reply es c t =
      let ws = pending_after pinned es in
      let w = next_placement (state_after pinned es) c in
      record {
        users = t.users;
        named = subst (λ o. Names names (handle_by pinned o) t.users) (sym ((latests_after es).of_user 0 (omega arith))) t.named;
        after = t.after ∙ ap (λ o. after_item t.users o) (sym (find_map 0 (ws ++ w ∷ [])) ∙ ap (find (λ i. i.plan.user == 0)) (map-append item_of ws (w ∷ [])));
      }
