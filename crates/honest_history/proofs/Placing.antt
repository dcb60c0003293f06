-- An operation that is placed next keeps all of it, and the reply to it breaks no rule.
use Rattle.std.proofs.Common.{◌≡◌, ℕ, ◌+◌, ◌<◌, List, [], ◌∷◌, ◌++◌, reverse, Some, None, true, false, refl, sym, ap, ◌∙◌, subst, inl, inr, arith}
use Rattle.std.specs.Prelude.{◌==◌}
use Rattle.std.specs.List.{filter, list_any}
use Rattle.std.proofs.lemmas.Bool.{eqb-true, eq-eqb, cases_Bool, and_parts, true≢false, false_from_ne_true}
use Rattle.std.proofs.lemmas.List.{map-append}
use Rattle.lms_sign.specs.Signature.{valid}
use Rattle.principals.specs.Table.{Table}
use Rattle.version_order.specs.declared.plan.Entry.{Entry}
use Rattle.version_order.specs.declared.vector.Component.{Component}
use Rattle.version_order.specs.Plan.{Plan, entry_of}
use Rattle.version_order.specs.Structure.{Structure}
use Rattle.version_order.specs.Vector.{can_raise_all, depth, version_of}
use Rattle.update_cert.specs.Cert.{Cert, cert}
use Rattle.pending_list.specs.declared.signed.Signed.{Signed}
use Rattle.pending_list.specs.Groups.{groups, groups_at, raises, raises_at}
use Rattle.pending_list.specs.Reply.{PendingItem, digest_of_last}
use Rattle.consistency_server.specs.Event.{Event, Placed, committed, last_of, structures}
use Rattle.consistency_server.specs.State.{Placement, after_operation, next_groups, next_item, next_placement, pending_after, pending_of, state_after, table_after, vector_after}
use Rattle.agreement.proofs.Members.{In, in-filter, in-map, map-in}
use Rattle.agreement.proofs.Tests.{are_groups}
use Rattle.honest_history.proofs.Entries.{commits_next, entries_next}
use Rattle.honest_history.proofs.Events.{entries_all, entries_from, latests_after}
use Rattle.honest_history.proofs.Good.{Good, in_pending, is_committed, is_of, is_open, item_of, items, one_waits, pending, pending_in}
use Rattle.honest_history.proofs.Members.{any_none, find_nothing, find_some, reverse_cons}
use Rattle.honest_history.proofs.Tabled.{IsBefore, IsStructureSigned, RecordsOf, Tabled, are_before, raised_stay, structure_stays, tabled_next}
use Rattle.honest_history.proofs.Tables.{key_for, super_stays}
use Rattle.honest_history.proofs.Timeline.{Next, latest_next, next_depth, number, place, placing_next, user, version}
use Rattle.honest_history.proofs.Tops.{Snapshot}

-- the certificate is its user's next one, and signed under the key that the table has
pub record CanPlace (pinned : List ℕ) (es : List Event) (c : Signed Cert) : Type 0 where
  pub users : c.value.user < 64
  pub key : List ℕ
  pub has : key_for (table_after pinned es) c.value.user (version_of 0 (vector_after pinned es)) ≡ Some key
  pub signed : valid key (cert.spell c.value) c.signature ≡ true
  pub number : c.value.number ≡ version_of c.value.user (vector_after pinned es) + 1
  pub last : c.value.last ≡ digest_of_last (last_of c.value.user es)
  pub free : pending_of c.value.user (pending_after pinned es) ≡ None
  pub room : can_raise_all (c.value.user ∷ next_groups (table_after pinned es) (vector_after pinned es) c.value) (vector_after pinned es) ≡ true

module _ (pinned : List ℕ) (es : List Event) (c : Signed Cert) (g : Good pinned es) (p : CanPlace pinned es c) where
  abbrev is : List PendingItem
  is = items pinned es

  abbrev table : Table
  table = table_after pinned es

  abbrev v : List Component
  v = vector_after pinned es

  abbrev x : PendingItem
  x = next_item (state_after pinned es) c

  next : Next v x
  next =
      record {
        users = p.users;
        planned_user = refl;
        planned_number = refl;
        certificate = refl;
        groups = groups_at table (version_of 0 v) c.value;
        group = λ h i. are_groups 32 h (in-filter (raises_at table (version_of 0 v) c.value) h groups i).0;
        vector = refl;
        number = p.number;
      }

  -- the new operation isn't committed
  pub fresh_open : is_committed es x ≡ false
  fresh_open = any_none (is_of x) (committed es) (λ z h. false_from_ne_true (is_of x z) (λ e.
      let q = and_parts (z.value.plan.user == x.plan.user) (z.value.plan.number == x.plan.number) e in
      let u = eqb-true z.value.plan.user (user x) q.0 in
      let n = eqb-true z.value.plan.number (number x) q.1 in
      let (i, ii, m) = g.made z h in
      let a = ap (λ (p : Plan). p.number) m in
      let b : user i ≡ user x = ap (λ (p : Plan). p.user) (sym m) ∙ u in
      let o = g.placing.own i ii in
      let w = g.latest.grown i ii (user x) in
      let k = ap (λ u. version u i) b in
      let y = p.number in
      omega arith))

  -- of its user nothing else is pending
  pub all_done : (i : PendingItem) → In i is → user i ≡ user x → is_committed es i ≡ true
  all_done i h u =
      elim (cases_Bool (is_committed es i)) [
        | inl e ↦ e
        | inr e ↦ absurd (
            let (w, there, same) = in-map item_of (pending_after pinned es) i (in_pending pinned es g i h e) in
            let no = find_nothing (λ (w : Placement). w.item.plan.user == c.value.user) (pending_after pinned es) p.free w there in
            true≢false (sym (eq-eqb w.item.plan.user c.value.user (ap user (sym same) ∙ u)) ∙ no))
      ]

  pub deeper_new : (i : PendingItem) → In i is → place i < place x
  deeper_new i h = let a = g.latest.deepest i h in let d = next_depth v x g.latest.ascends next in omega arith

  pub new_from : (e : Entry) → In e x.plan.entries → (j : PendingItem) × In j is × (is_committed es j ≡ false) × (e ≡ entry_of j.plan)
  new_from e h =
      let (w, there, same) = entries_from (pending_after pinned es) e h in
      let q = pending_in pinned es g w.item (map-in item_of (pending_after pinned es) w there) in
      (w.item, q.0, q.1, same)

  new_all : (j : PendingItem) → In j is → is_committed es j ≡ false → In (entry_of j.plan) x.plan.entries
  new_all j h f =
      let (w, there, same) = in-map item_of (pending_after pinned es) j (in_pending pinned es g j h f) in
      let below : w.item.plan.user < 64 = subst (λ (i : PendingItem). user i < 64) same (g.placing.users j h) in
      subst (λ (i : PendingItem). In (entry_of i.plan) x.plan.entries) (sym same)
      (entries_all (pending_after pinned es) w there below (λ y k u.
      let q = pending_in pinned es g y.item (map-in item_of (pending_after pinned es) y k) in
      let r = pending_in pinned es g w.item (map-in item_of (pending_after pinned es) w there) in
      one_waits pinned es g y.item w.item q.0 r.0 q.1 r.1 u))

  pub before : (i : PendingItem) → In i is → IsBefore c.value i
  before = are_before is v x g.latest next

  abbrev table' : Table
  table' = after_operation c.value table

  pub raises_same : (i : PendingItem) (h : ℕ) → In i is → raises table' h i ≡ raises table h i
  raises_same i h there = ap (λ (gs : List ℕ). list_any (λ k. k == h) gs) (raised_stay table c.value i (before i there))

  records_kept : (k : PendingItem) (z : Structure) → In k is → RecordsOf table is k z → RecordsOf table' (x ∷ is) k z
  records_kept k z ki r =
      record {
        from = λ q h. (let (i, ii, u, l, m, v, w) = r.from q h in (i, inr ii, u, l, raises_same i q.group ii ∙ m, v, w));
        all = λ i h ii u l m. (elim ii [
          | inl e ↦ absurd (let d = deeper_new k ki in let w = ap place e in omega arith)
          | inr a ↦ r.all i h a u l (sym (raises_same i h a) ∙ m)
        ]);
      }

  recorded_next : (u : ℕ) (z : Signed Structure) → last_of u es ≡ Some z → (k : PendingItem) → In k (x ∷ is) → z.value.plan ≡ k.plan → RecordsOf table' (x ∷ is) k z.value
  recorded_next u z e k (inl a) m = absurd (
      let (i, ii, n, w) = g.commits.lasts u z e in
      let d = deeper_new i ii in
      let q = ap (λ (p : Plan). depth p.vector) (sym n ∙ m ∙ ap (λ (k : PendingItem). k.plan) a) in
      omega arith)
  recorded_next u z e k (inr a) m = records_kept k z.value a (g.recorded u z e k a m)

  signed_next : (z : Signed Structure) → In z (committed es) → IsStructureSigned table' z
  signed_next z h = let (i, ii, m) = g.made z h in structure_stays table c.value i z m (before i ii) (g.signed z h)

  waiting_next : pending pinned es ++ x ∷ [] ≡ reverse (filter (is_open es) (x ∷ is))
  waiting_next = rw fresh_open (ap (λ (is : List PendingItem). is ++ x ∷ []) g.waiting ∙ sym (reverse_cons x (filter (is_open es) is)))

  pub good_placed : Good pinned (Placed c ∷ es)
  unfolding table_after vector_after pending_after next
  good_placed =
      record {
        placing = placing_next is v x g.placing g.latest next;
        latest = latest_next is v x g.placing g.latest next;
        same = refl;
        entries = entries_next is (is_committed es) (λ u. last_of u es) v x g.placing g.latest next g.commits all_done g.entries new_from new_all;
        commits = commits_next is (is_committed es) (λ u. last_of u es) v x g.placing g.latest next g.commits all_done fresh_open;
        made = λ z h. (let r = g.made z h in (r.0, inr r.1, r.2));
        links = λ i h f. (elim h [ inl e ↦ subst (λ (i : PendingItem). i.cert.last ≡ digest_of_last (last_of (user i) es)) (sym e) p.last | inr k ↦ g.links i k f ]);
        tabled = tabled_next table is v x g.latest next g.tabled g.same refl p.key p.has p.signed;
        descending = (λ j h. deeper_new j h, g.descending);
        signed = signed_next;
        super_key = λ n. super_stays c.value table n pinned (g.super_key n);
        recorded = recorded_next;
        waiting = map-append item_of (pending_after pinned es) (next_placement (state_after pinned es) c ∷ []) ∙ waiting_next;
      }

  -- right after it was placed
  unfoldable pub snapshot : Snapshot
  snapshot =
      record {
        own = x;
        rest = is;
        done = is_committed es;
        last = λ u. last_of u es;
        structures = structures es;
        table = table_after pinned (Placed c ∷ es);
        placing = good_placed.placing;
        entries = good_placed.entries;
        commits = good_placed.commits;
        links = good_placed.links;
        tabled = subst (Tabled (table_after pinned (Placed c ∷ es)) (x ∷ is)) (sym good_placed.same) good_placed.tabled;
        descending = good_placed.descending;
        waits = fresh_open;
        latests = latests_after es;
        recorded = good_placed.recorded;
        signed = λ z h. (let r = (latests_after es).is_last z h in good_placed.signed z (find_some (λ (z : Signed Structure). z.value.plan.user == r.0) (committed es) z r.2).0);
        own_entries = new_from;
      }
