-- The records of a structure that an honest client signs over the reply to its own operation.
use Rattle.std.proofs.Common.{◌≡◌, ℕ, ◌+◌, ◌<◌, ◌≤◌, List, Option, Some, None, true, false, refl, sym, ap, ◌∙◌, subst, inl, inr, arith}
use Rattle.std.specs.Prelude.{◌==◌}
use Rattle.std.specs.List.{list_any}
use Rattle.std.proofs.lemmas.Bool.{cases_Bool, cases_eq, cases_lt, true≢false}
use Rattle.principals.specs.Table.{Table}
use Rattle.version_order.specs.declared.structure.GroupRecord.{GroupRecord}
use Rattle.version_order.specs.Plan.{Plan}
use Rattle.version_order.specs.Structure.{Structure}
use Rattle.pending_list.specs.declared.signed.Signed.{Signed}
use Rattle.pending_list.specs.Groups.{raises, table_version}
use Rattle.pending_list.specs.Reply.{PendingItem}
use Rattle.update_cert.specs.Cert.{Cert}
use Rattle.consistency_server.specs.Event.{Event, last_of}
use Rattle.consistency_server.specs.State.{next_item, state_after, table_after}
use Rattle.honest_history.specs.Placed.{lists_to, table_to}
use Rattle.honest_history.specs.Honest.{Naming, SignsOver, records_in, number_in}
use Rattle.agreement.proofs.Members.{In, contains_in, in_contains}
use Rattle.honest_history.proofs.Good.{Good, is_committed, items}
use Rattle.honest_history.proofs.Tabled.{RecordsOf}
use Rattle.honest_history.proofs.Timeline.{number, ordered_places, place, user, version}
use Rattle.honest_history.proofs.Waiting.{Kept}

module _ (names : Naming) (pinned : List ℕ) (es earlier : List Event) (c : Signed Cert) (z : Structure) (g : Good pinned es) (k : Kept pinned earlier c es) (opened : is_committed es (next_item (state_after pinned earlier) c) ≡ false) (over : SignsOver names (table_to pinned earlier c) (last_of c.value.user earlier) (lists_to pinned earlier c) z) where
  abbrev x : PendingItem
  x = next_item (state_after pinned earlier) c

  abbrev is : List PendingItem
  is = items pinned es

  abbrev table : Table
  table = table_after pinned es

  abbrev last : Option (Signed Structure)
  last = last_of (user x) es

  raises_same : (h : ℕ) → raises table h x ≡ raises (table_to pinned earlier c) h x
  raises_same h = ap (λ (gs : List ℕ). list_any (λ n. n == h) gs) k.raised

  x_next : number x ≡ number_in last + 1
  x_next =
      let n = g.commits.next x k.there in
      elim (cases_lt (number_in last) (number x)) [
        | inl l ↦ omega arith
        | inr l ↦ absurd (true≢false (sym (g.commits.late x k.there l) ∙ opened))
      ]

  -- a record that is there of an operation of the user, as it is said
  abbrev FromOne : GroupRecord → Type 0
  FromOne r = (i : PendingItem) × In i is × (user i ≡ user x) × (place i ≤ place x) × (raises table r.group i ≡ true) × (r.version ≡ version r.group i) × (r.table ≡ table_version i.plan)

  -- the last structure's operation was placed before
  last_before : (y : Signed Structure) → last ≡ Some y → (i : PendingItem) × In i is × (y.value.plan ≡ i.plan) × (user i ≡ user x) × (number i ≡ number_in last) × (place i ≤ place x)
  last_before y e =
      let (i, ii, m, u) = g.commits.lasts (user x) y e in
      let n : number i ≡ number_in last = ap (λ (p : Plan). p.number) (sym m) ∙ sym (ap number_in e) in
      let next = x_next in
      (i, ii, m, u, n, ordered_places is g.placing i x ii k.there u (omega arith))

  from_last : (o : Option (Signed Structure)) → last ≡ o → (r : GroupRecord) → In r (records_in o) → FromOne r
  from_last None e r h = absurd h
  from_last (Some y) e r h =
      let (j, ji, m, u, n, l) = last_before y e in
      let (i, ii, v, w, q, s, t) = (g.recorded (user x) y e j ji m).from r h in
      (i, ii, v ∙ u, omega arith, q, s, t)

  from : (r : GroupRecord) → In r z.groups → FromOne r
  from r h =
      elim (over.records r (in_contains r z.groups h)) [
        | inl new ↦ (x, k.there, refl, omega arith, raises_same r.group ∙ new.raised, new.version, new.table)
        | inr old ↦ from_last last refl r (subst (λ (o : Option (Signed Structure)). In r (records_in o)) (sym k.last) (contains_in r (records_in (last_of (user x) earlier)) old))
      ]

  abbrev HasOne : PendingItem → ℕ → Type 0
  HasOne i h = (r : GroupRecord) × In r z.groups × (r.group ≡ h) × (version h i ≤ r.version)

  -- the new record of a group that the operation raises
  new_has : (i : PendingItem) (h : ℕ) → version h i ≤ version h x → raises table h x ≡ true → HasOne i h
  new_has i h le m =
      let (r, there, of_group, new) = over.raised h (sym (raises_same h) ∙ m) in
      let v = new.version in
      let same = ap (λ n. version n x) of_group in
      (r, contains_in r z.groups there, of_group, omega arith)

  -- or the one that is carried on
  old_has : (i : PendingItem) (h : ℕ) (r : GroupRecord) → In r (records_in last) → r.group ≡ h → version h i ≤ r.version → version h i ≤ version h x → HasOne i h
  old_has i h r there of_group le more =
      elim (cases_Bool (raises table h x)) [
        | inl e ↦ new_has i h more e
        | inr e ↦ (
            let old = in_contains r (records_in (last_of (user x) earlier)) (subst (λ (o : Option (Signed Structure)). In r (records_in o)) k.last there) in
            let not_raised : raises (table_to pinned earlier c) r.group x ≡ false = ap (λ n. raises (table_to pinned earlier c) n x) of_group ∙ sym (raises_same h) ∙ e in
            (r, contains_in r z.groups (over.carried r old not_raised), of_group, le))
      ]

  -- an earlier operation of the user's is committed, so that the last structure has its groups
  earlier_has : (o : Option (Signed Structure)) → last ≡ o → (i : PendingItem) (h : ℕ) → In i is → user i ≡ user x → number i < number x → version h i ≤ version h x → raises table h i ≡ true → HasOne i h
  earlier_has None e i h ii u l more m = absurd (
      let p = g.placing.positive i ii in
      let n = ap number_in e in
      let next = x_next in
      omega arith)
  earlier_has (Some y) e i h ii u l more m =
      let (j, ji, q, v, n, le) = last_before y e in
      let next = x_next in
      let up = ordered_places is g.placing i j ii ji (u ∙ sym v) (omega arith) in
      let (r, there, of_group, least) = (g.recorded (user x) y e j ji q).all i h ii (u ∙ sym v) up m in
      old_has i h r (subst (λ (o : Option (Signed Structure)). In r (records_in o)) (sym e) there) of_group least more

  all : (i : PendingItem) (h : ℕ) → In i is → user i ≡ user x → place i ≤ place x → raises table h i ≡ true → HasOne i h
  all i h ii u l m =
      elim (cases_eq (place i) (place x)) [
        | inl e ↦ (
            let same = g.placing.one_place i x ii k.there e in
            let v = ap (version h) same in
            new_has i h (omega arith) (ap (raises table h) (sym same) ∙ m))
        | inr n ↦ (
            let a = g.placing.unseen i x ii k.there (omega arith) in
            let o = g.placing.own i ii in
            let w = ap (λ u. version u i) u in
            earlier_has last refl i h ii u (omega arith) (g.placing.grown i x ii k.there (omega arith) h) m)
      ]

  pub sign_records : RecordsOf table is x z
  sign_records = record { from = from; all = all }
