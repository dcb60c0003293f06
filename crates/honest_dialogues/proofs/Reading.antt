-- The table of principals that clients read of a reply.
use Rattle.std.proofs.Common.{◌≡◌, ◌≢◌, ℕ, List, [], ◌∷◌, ◌++◌, map, Some, None, Bool, true, refl, sym, ap, ◌∙◌, inl, inr}
use Rattle.std.specs.Prelude.{◌==◌, ◌&&◌, find, not}
use Rattle.std.specs.List.{All, filter, list_all}
use Rattle.std.specs.Option.{option_map_or}
use Rattle.std.proofs.lemmas.Bool.{eqb-true, eqb-false, cases_Bool, and_parts, not-true}
use Rattle.layout.specs.Types.{Key}
use Rattle.principals.specs.Table.{Table}
use Rattle.update_cert.specs.Cert.{cert}
use Rattle.update_cert.specs.Reading.{Reading, after_read}
use Rattle.update_cert.specs.World.{Principals, Tree}
use Rattle.update_cert.proofs.TableStands.{changes_fit, stands}
use Rattle.pending_list.specs.Reply.{PendingItem}
use Rattle.tree_parts.proofs.SomeReading.{some_reading}
use Rattle.client_tree.specs.Principals.{IsPending}
use Rattle.client_tree.specs.View.{actor_of, after_items, comes_after, handle_in, named, tree_before}
use Rattle.reply_rules.specs.Lists.{Lists, items}
use Rattle.reply_rules.specs.Rules.{each_once, is_planned, lists, pending_ascends, pending_once, structures_ascend}
use Rattle.reply_check.specs.FirstBroken.{view_over}
use Rattle.consistency_server.specs.State.{after_operation}
use Rattle.agreement.proofs.Members.{In, in-filter, in-left, in-right, map-in, of_all}
use Rattle.agreement.proofs.Tests.{all_in}
use Rattle.honest_history.specs.Honest.{Names, Naming}
use Rattle.honest_history.specs.Served.{IsTableOf}
use Rattle.honest_history.proofs.Tables.{others_leave}
use Rattle.honest_dialogues.specs.Reading.{reply_of}

-- the table after these operations, in turn
abbrev tables : List PendingItem → Table → Table
tables [] u = u
tables (i ∷ is) u = tables is (after_operation i.cert u)

tables_append : (is js : List PendingItem) (u : Table) → tables (is ++ js) u ≡ tables js (tables is u)
tables_append [] js u = refl
tables_append (i ∷ is) js u = tables_append is js (after_operation i.cert u)

-- those of other users leave it
tables_leave : (is : List PendingItem) (u : Table) → ((i : PendingItem) → In i is → i.cert.user ≢ 0) → tables is u ≡ u
tables_leave [] u other = refl
tables_leave (i ∷ is) u other =
    ap (tables is) (others_leave i.cert.user i.cert.number i.cert.changes u (other i (inl refl))) ∙ tables_leave is u (λ j k. other j (inr k))

-- so that only user 0's count
tables_of_super : (is : List PendingItem) (u : Table) → tables (filter (λ i. i.cert.user == 0) is) u ≡ tables is u
tables_of_super [] u = refl
tables_of_super (i ∷ is) u =
    elim (cases_Bool (i.cert.user == 0)) [
      | inl e ↦ rw e (tables_of_super is (after_operation i.cert u))
      | inr e ↦ rw e (tables_of_super is u ∙ ap (tables is) (sym (others_leave i.cert.user i.cert.number i.cert.changes u (eqb-false i.cert.user 0 e))))
    ]

abbrev is_super : PendingItem → Bool
is_super i = i.plan.user == 0

-- of whom at most one is pending
tables_found : (is : List PendingItem) (u : Table) → each_once (map (λ i. i.plan.user) is) ≡ true → ((i : PendingItem) → In i is → i.plan.user ≡ i.cert.user) → tables is u ≡ option_map_or (λ i. after_operation i.cert u) (find is_super is) u
tables_found [] u once planned = refl
tables_found (i ∷ is) u once planned =
    let parts = and_parts (list_all (λ m. not (i.plan.user == m)) (map (λ i. i.plan.user) is)) (each_once (map (λ i. i.plan.user) is)) once in
    elim (cases_Bool (i.plan.user == 0)) [
      | inl e ↦ (
          let zero = eqb-true i.plan.user 0 e in
          rw e (tables_leave is (after_operation i.cert u) (λ j k m.
          let apart = all_in (λ m. not (i.plan.user == m)) (map (λ i. i.plan.user) is) parts.0 j.plan.user (map-in (λ (i : PendingItem). i.plan.user) is j k) in
          eqb-false i.plan.user j.plan.user (not-true (i.plan.user == j.plan.user) apart) (zero ∙ sym (planned j (inr k) ∙ m)))))
      | inr e ↦ (
          let other = eqb-false i.plan.user 0 e in
          rw e (ap (tables is) (others_leave i.cert.user i.cert.number i.cert.changes u (λ m. other (planned i (inl refl) ∙ m))) ∙ tables_found is u parts.1 (λ j k. planned j (inr k))))
    ]

-- ---- what is read

items_stand : (reads : Reading) (t : Table) (is : List PendingItem) (w : Tree) (u : Table) → ((i : PendingItem) → In i is → cert.Fits i.cert) → w 0 1 ≡ Some (Principals u) → after_items reads t is w 0 1 ≡ Some (Principals (tables is u))
unfolding after_items
items_stand reads t [] w u fits stood = stood
items_stand reads t (i ∷ is) w u fits stood =
    items_stand reads t is (after_read reads (actor_of t i) i.cert.changes w) (after_operation i.cert u) (λ j k. fits j (inr k))
    (stands reads (actor_of t i) i.cert.changes w u (changes_fit i.cert (fits i (inl refl))) stood)

module _ (naming : Naming) (pinned : Key) (x : Lists) (users t : Table) (void : List ℕ) (held : lists (reply_of x) ≡ true) (fits : All (λ i. cert.Fits i.cert) (items x)) where
  each_fits : (i : PendingItem) → In i (items x) → cert.Fits i.cert
  each_fits = of_all (λ (i : PendingItem). cert.Fits i.cert) (items x) fits

  -- the pending operations, in turn, make it of the one that is named
  read_is : IsPending users (view_over pinned t x) void → t ≡ tables (items x) users
  unfolding comes_after
  read_is pending =
      let v = view_over pinned t x in
      let reads = (some_reading (λ digest. None)).0 in
      let before = items_stand reads t (filter (comes_after v 0) x.others) (named reads users v) users (λ i k. each_fits i (in-left i x.others (x.own ∷ []) (in-filter (comes_after v 0) i x.others k).0)) refl in
      let after = stands reads (actor_of t x.own) x.own.cert.changes (tree_before reads users v) (tables (filter (comes_after v 0) x.others) users) (changes_fit x.own.cert (each_fits x.own (in-right x.own x.others (x.own ∷ []) (inl refl)))) before in
      let same : Some (Principals t) ≡ Some (Principals (after_operation x.own.cert (tables (filter (comes_after v 0) x.others) users))) = sym (pending.after reads) ∙ after in
      let is : t ≡ after_operation x.own.cert (tables (filter (comes_after v 0) x.others) users) = cc in
      is ∙ ap (after_operation x.own.cert) (tables_of_super x.others users) ∙ sym (tables_append x.others (x.own ∷ []) users)

  pub read_named : Names naming (handle_in pinned x.structures 0) users → IsPending users (view_over pinned t x) void → IsTableOf naming pinned x t
  unfolding lists
  read_named names pending =
      let r = reply_of x in
      let a = and_parts (structures_ascend r) (pending_ascends r && (pending_once r && list_all is_planned r.pending)) held in
      let b = and_parts (pending_ascends r) (pending_once r && list_all is_planned r.pending) a.1 in
      let c = and_parts (pending_once r) (list_all is_planned r.pending) b.1 in
      record {
        users = users;
        named = names;
        after = read_is pending ∙ tables_found (items x) users c.0 (λ i k. eqb-true i.plan.user i.cert.user (and_parts (i.plan.user == i.cert.user) (i.plan.number == i.cert.number) (all_in is_planned (items x) c.1 i k)).0);
      }

pub each_read : (naming : Naming) (pinned : Key) (x : Lists) (users t : Table) (void : List ℕ) → lists (reply_of x) ≡ true → All (λ i. cert.Fits i.cert) (items x) → Names naming (handle_in pinned x.structures 0) users → IsPending users (view_over pinned t x) void → IsTableOf naming pinned x t
each_read naming pinned x users t void held fits names pending = read_named naming pinned x users t void held fits names pending
