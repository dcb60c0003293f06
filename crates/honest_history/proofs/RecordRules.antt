-- The reply to the operation that was placed last keeps the rule on group records.
use Rattle.std.proofs.Common.{◌≡◌, ◌≢◌, ℕ, zero, suc, ◌+◌, ◌<◌, ◌≤◌, List, [], ◌∷◌, Option, Some, Bool, true, false, refl, sym, ap, ◌∙◌, subst, inl, inr, arith}
use Rattle.std.specs.Prelude.{◌==◌, ◌&&◌, not, nat_lt}
use Rattle.std.specs.List.{filter, list_any}
use Rattle.std.proofs.lemmas.Bool.{eq-eqb, ne_eqb, lt-ltb, le-ltb, le-leb, cases_eq, cases_lt, cases_order, and_parts, and_from, and_left, and_right, or_left, or_right, false_from_ne_true}
use Rattle.principals.specs.Table.{Table, is_member}
use Rattle.version_order.specs.declared.structure.GroupRecord.{GroupRecord}
use Rattle.version_order.specs.declared.vector.Component.{Component}
use Rattle.version_order.specs.Plan.{Plan}
use Rattle.version_order.specs.Structure.{Structure}
use Rattle.version_order.specs.Vector.{version_of}
use Rattle.pending_list.specs.declared.signed.Signed.{Signed}
use Rattle.pending_list.specs.Groups.{groups, raises, table_version, touches}
use Rattle.pending_list.specs.Reply.{PendingItem}
use Rattle.reply_rules.specs.Lists.{Lists, items}
use Rattle.reply_rules.specs.Rules.{differ, greater, group_complete, group_records, has_all, newest, newest_in, record_holds, records_once, top_vector, versions_beyond}
use Rattle.agreement.proofs.Members.{In, in-filter, in-kept, in-map, map-in}
use Rattle.honest_history.proofs.Groups.{group_grows, group_placed, group_range, raised_is}
use Rattle.honest_history.proofs.ListRules.{items_ascend}
use Rattle.honest_history.proofs.Members.{all_from, any_from}
use Rattle.honest_history.proofs.Pairs.{Pairwise, pairwise_filter, pairwise_map, pairwise_more}
use Rattle.honest_history.proofs.RuleTests.{once_pairwise}
use Rattle.honest_history.proofs.Tabled.{version_before}
use Rattle.honest_history.proofs.Timeline.{place, user, version}
use Rattle.honest_history.proofs.Tops.{Snapshot, in_items, item_in, last_behind, lists_at, ordered, own_deepest, placed_at, structure_item}

greater_left : (m n : ℕ) → m ≤ greater m n
greater_left m n = elim (cases_lt m n) [ inl l ↦ rw (lt-ltb m n l) (omega arith) | inr l ↦ rw (le-ltb m n l) (omega arith) ]

greater_right : (m n : ℕ) → n ≤ greater m n
greater_right m n = elim (cases_lt m n) [ inl l ↦ rw (lt-ltb m n l) (omega arith) | inr l ↦ rw (le-ltb m n l) (omega arith) ]

newest_record : (g : ℕ) (rs : List GroupRecord) (r : GroupRecord) → In r rs → r.group ≡ g → r.version ≤ newest_in g rs
newest_record g [] r h e = absurd h
newest_record g (s ∷ rs) r (inl m) e =
    rw (eq-eqb s.group g (ap (λ (r : GroupRecord). r.group) (sym m) ∙ e)) (let a = greater_left s.version (newest_in g rs) in let w = ap (λ (r : GroupRecord). r.version) m in omega arith)
newest_record g (s ∷ rs) r (inr m) e =
    let ih = newest_record g rs r m e in
    elim (cases_eq s.group g) [
      | inl q ↦ rw (eq-eqb s.group g q) (let a = greater_right s.version (newest_in g rs) in omega arith)
      | inr q ↦ rw (ne_eqb s.group g q) ih
    ]

newest_of : (g : ℕ) (zs : List (Signed Structure)) (z : Signed Structure) (r : GroupRecord) → In z zs → In r z.value.groups → r.group ≡ g → r.version ≤ newest g zs
newest_of g [] z r h k e = absurd h
newest_of g (y ∷ zs) z r (inl m) k e =
    let a = newest_record g y.value.groups r (subst (λ (z : Signed Structure). In r z.value.groups) m k) e in
    let l = greater_left (newest_in g y.value.groups) (newest g zs) in
    omega arith
newest_of g (y ∷ zs) z r (inr m) k e =
    let ih = newest_of g zs z r m k e in
    let l = greater_right (newest_in g y.value.groups) (newest g zs) in
    omega arith

has_all_from : (m n : ℕ) (ns : List ℕ) → 0 < m → ((k : ℕ) → m ≤ k → k ≤ n → In k ns) → has_all m n ns ≡ true
has_all_from m zero ns p h = refl
has_all_from m (suc n) ns p h =
    elim (cases_lt (suc n) m) [
      | inl l ↦ or_left _ _ (lt-ltb (suc n) m l)
      | inr l ↦ or_right _ _ (and_from _ _ (any_from (λ k. k == suc n) ns (suc n) (h (suc n) l (omega arith)) (eq-eqb (suc n) (suc n) refl)) (has_all_from m n ns p (λ k a b. h k a (omega arith))))
    ]

once_records : (zs : List (Signed Structure)) → Pairwise (λ y z. differ y z ≡ true) zs → records_once zs ≡ true
once_records [] p = refl
once_records (z ∷ zs) p = and_from _ _ (all_from (differ z) zs p.0) (once_records zs p.1)

module _ (s : Snapshot) where
  abbrev own : PendingItem
  own = s.own

  abbrev done : PendingItem → Bool
  done = s.done

  abbrev last : ℕ → Option (Signed Structure)
  last = s.last

  abbrev zs : List (Signed Structure)
  zs = s.structures

  abbrev b : Table
  b = s.table

  abbrev x : Lists
  x = lists_at s

  abbrev is : List PendingItem
  is = placed_at s

  abbrev tv : List Component
  tv = top_vector x

  grows : (g : ℕ) (i j : PendingItem) → In i is → In j is → place j < place i → raises b g i ≡ true → version g j < version g i
  grows g i j h k l m = group_grows b g is s.tabled.follows s.descending i j h k l m

  -- two operations don't raise a group to one version
  one_version : (g : ℕ) (i j : PendingItem) → In i is → In j is → raises b g i ≡ true → raises b g j ≡ true → version g i ≡ version g j → i ≡ j
  one_version g i j h k m n e =
      elim (cases_order (place i) (place j)) [
        | inl q ↦ s.placing.one_place i j h k q
        | inr o ↦ elim o [
          | inl l ↦ absurd (let w = grows g j i k h l n in omega arith)
          | inr l ↦ absurd (let w = grows g i j h k l m in omega arith)
        ]
      ]

  no_less : (u : ℕ) (i k : PendingItem) → In i is → In k is → place i ≤ place k → version u i ≤ version u k
  no_less u i k h m l =
      elim (cases_eq (place i) (place k)) [
        | inl e ↦ (let w = ap (version u) (s.placing.one_place i k h m e) in omega arith)
        | inr n ↦ s.placing.grown i k h m (omega arith) u
      ]

  record_hold : (z : Signed Structure) (r : GroupRecord) → In z zs → In r z.value.groups → record_holds b z.value.plan r ≡ true
  record_hold z r h m =
      let q = structure_item s z h in
      let (i, ii, u, l, g, v, tb) = (s.recorded (user q.0) z q.4 q.0 q.1 q.3).from r m in
      let a = no_less r.group i q.0 ii q.1 l in
      let c = no_less 0 i q.0 ii q.1 l in
      let w = version_before i.plan in
      let e = ap (λ (p : Plan). version_of r.group p.vector) q.3 in
      let f = ap (λ (p : Plan). version_of 0 p.vector) q.3 in
      let member : is_member b r.group i.cert.user (table_version i.plan) ≡ true = (and_parts (list_any (touches r.group) i.cert.changes) _ (raised_is b r.group i g).2).1 in
      let who : i.cert.user ≡ z.value.plan.user = sym (s.placing.planned_user i ii) ∙ u ∙ ap (λ (p : Plan). p.user) (sym q.3) in
      and_from _ _ (le-leb r.version (version_of r.group z.value.plan.vector) (omega arith))
      (and_from _ _ (le-leb r.table (version_of 0 z.value.plan.vector) (omega arith))
      (subst (λ n. is_member b r.group z.value.plan.user n ≡ true) (sym tb) (subst (λ n. is_member b r.group n (table_version i.plan) ≡ true) who member)))

  records_differ : (y z : Signed Structure) → In y zs → In z zs → y.value.plan.user ≢ z.value.plan.user → differ y z ≡ true
  records_differ y z h k n =
      all_from _ y.value.groups (λ r m. all_from _ z.value.groups (λ q o.
      elim (cases_eq r.group q.group) [
        | inl e ↦ ap not (and_right (r.group == q.group) (r.version == q.version) (ne_eqb r.version q.version (λ f.
            let a = structure_item s y h in
            let c = structure_item s z k in
            let (i, ii, u, l, g, v, tb) = (s.recorded (user a.0) y a.4 a.0 a.1 a.3).from r m in
            let (j, ji, w, l', g', v', tb') = (s.recorded (user c.0) z c.4 c.0 c.1 c.3).from q o in
            let same = one_version r.group i j ii ji g (ap (λ h. raises b h j) e ∙ g') (sym v ∙ f ∙ v' ∙ ap (λ h. version h j) (sym e)) in
            n (ap (λ (p : Plan). p.user) a.3 ∙ sym u ∙ ap user same ∙ w ∙ ap (λ (p : Plan). p.user) (sym c.3)))))
        | inr e ↦ ap not (and_left (r.group == q.group) (r.version == q.version) (ne_eqb r.group q.group e))
      ]))

  complete_hold : (g : ℕ) → In g groups → group_complete b x g ≡ true
  complete_hold g gi =
      let test = λ (i : PendingItem). raises b g i && nat_lt (newest g zs) (version g i) in
      and_from _ _ (once_pairwise _ (pairwise_map _ (version g) (filter test (items x)) (pairwise_more (λ i j. place i < place j) (λ i j. version g i ≢ version g j) (filter test (items x)) (pairwise_filter _ test (items x) (items_ascend s)) (λ i j h k l e.
      let p = in-filter test i (items x) h in
      let q = in-filter test j (items x) k in
      let w = grows g j i (item_in s j q.0).0 (item_in s i p.0).0 l (and_parts _ _ q.1).0 in
      omega arith))))
      (and_from _ _ (all_from _ (versions_beyond b g (newest g zs) (items x)) (λ v h.
      let r = in-map (version g) (filter test (items x)) v h in
      let q = (item_in s r.0 (in-filter test r.0 (items x) r.1).0).0 in
      let up : place r.0 ≤ place own = elim q [ inl e ↦ (let w = ap place e in omega arith) | inr k ↦ (let w = own_deepest s r.0 k in omega arith) ] in
      let n = no_less g r.0 own q (inl refl) up in
      let e = r.2 in
      le-leb v (version g own) (omega arith)))
      (has_all_from (newest g zs + 1) (version g own) (versions_beyond b g (newest g zs) (items x)) (omega arith) (λ k l le.
      let (j, ji, m, e) = group_placed b g k is s.tabled.follows s.placing.users (group_range g gi).0 (group_range g gi).1 (omega arith) le in
      let open' : done j ≡ false = false_from_ne_true (done j) (λ f.
      let (z, n, zi, ni, p, a, u, le') = last_behind s j ji f in
      let up = ordered s j n ji ni (sym u) le' in
      let lu : last (user n) ≡ Some z = ap last u ∙ a in
      let r = (s.recorded (user n) z lu n ni p).all j g ji (sym u) up m in
      let most = newest_of g zs z r.0 zi r.1 r.2 in
      let v = r.3 in
      omega arith)
      in
      subst (λ n. In n (versions_beyond b g (newest g zs) (items x))) e
      (map-in (version g) (filter test (items x)) j (in-kept test j (items x) (in_items s j ji open')
      (and_from _ _ m (lt-ltb (newest g zs) (version g j) (omega arith))))))))

  pub records_hold : group_records b x ≡ true
  unfolding group_records
  records_hold =
      and_from _ _ (all_from _ zs (λ z h. all_from (record_holds b z.value.plan) z.value.groups (λ r k. record_hold z r h k)))
      (and_from _ _ (once_records zs (pairwise_more _ _ zs s.latests.ascend (λ y z h k l. records_differ y z h k (λ e. omega arith))))
      (all_from (group_complete b x) groups complete_hold))
