-- What an honest server has right after it placed an operation: the lists of the reply, and the operations that it
-- placed before. Top, and what is above it.
use Rattle.std.proofs.Common.{◌≡◌, ℕ, ◌<◌, ◌≤◌, List, [], ◌∷◌, reverse, Option, Some, None, Bool, true, false, refl, sym, ap, ◌∙◌, subst, inl, inr, arith}
use Rattle.std.specs.Prelude.{◌==◌, not, find}
use Rattle.std.specs.List.{filter}
use Rattle.std.specs.Option.{option_map_or}
use Rattle.std.proofs.lemmas.Bool.{cases_eq, true≢false, false_from_ne_true, not-true}
use Rattle.principals.specs.Table.{Table}
use Rattle.version_order.specs.declared.plan.Entry.{Entry}
use Rattle.version_order.specs.declared.vector.Component.{Component}
use Rattle.version_order.specs.Plan.{Plan, entry_of}
use Rattle.version_order.specs.Structure.{Structure}
use Rattle.version_order.specs.Vector.{depth, version_of}
use Rattle.pending_list.specs.declared.signed.Signed.{Signed}
use Rattle.pending_list.specs.Reply.{PendingItem, depth_of, top}
use Rattle.pending_list.proofs.Highest.{none_listed, top_is}
use Rattle.reply_rules.specs.Lists.{Lists, items, pending, shown}
use Rattle.reply_rules.specs.Rules.{top_plan, top_vector}
use Rattle.agreement.proofs.Members.{In, contains_in, in-filter, in-kept, in-map, of_all}
use Rattle.honest_history.specs.Honest.{number_in}
use Rattle.honest_history.proofs.Chains.{Descending, StartsAt}
use Rattle.honest_history.proofs.Entries.{Commits, Entries, Links}
use Rattle.honest_history.proofs.Members.{in_reverse, in_unreverse, reverse_cons}
use Rattle.honest_history.proofs.Pairs.{Pairwise}
use Rattle.honest_history.proofs.Tabled.{IsStructureSigned, RecordsOf, Tabled}
use Rattle.honest_history.proofs.Timeline.{Placing, number, ordered_places, place, user, version}

-- the structures of a reply are the last ones of the users
pub record Latests (zs : List (Signed Structure)) (last : ℕ → Option (Signed Structure)) : Type 0 where
  pub of_user : (u : ℕ) → u < 64 → find (λ z. z.value.plan.user == u) zs ≡ last u
  pub is_last : (z : Signed Structure) → In z zs → (u : ℕ) × (u < 64) × (last u ≡ Some z)
  pub is_in : (u : ℕ) (z : Signed Structure) → u < 64 → last u ≡ Some z → In z zs
  pub ascend : Pairwise (λ y z. y.value.plan.user < z.value.plan.user) zs

-- The operation that was placed last, those before it, the newest first, which of them are committed, the last
-- structure of each user, the structures of the reply, and the table after all of them.
pub record Snapshot : Type 0 where
  pub own : PendingItem
  pub rest : List PendingItem
  pub done : PendingItem → Bool
  pub last : ℕ → Option (Signed Structure)
  pub structures : List (Signed Structure)
  pub table : Table
  pub placing : Placing (own ∷ rest)
  pub entries : Entries (own ∷ rest) done
  pub commits : Commits (own ∷ rest) done last
  pub links : Links (own ∷ rest) done last
  pub tabled : Tabled table (own ∷ rest) own.plan.vector
  pub descending : Descending (own ∷ rest)
  pub waits : done own ≡ false
  pub latests : Latests structures last
  pub recorded : (u : ℕ) (z : Signed Structure) → last u ≡ Some z → (k : PendingItem) → In k (own ∷ rest) → z.value.plan ≡ k.plan → RecordsOf table (own ∷ rest) k z.value
  pub signed : (z : Signed Structure) → In z structures → IsStructureSigned table z
  pub own_entries : (e : Entry) → In e own.plan.entries → (j : PendingItem) × In j rest × (done j ≡ false) × (e ≡ entry_of j.plan)

-- the lists of the reply
abbrev pub lists_at : Snapshot → Lists
lists_at s = record { structures = s.structures; others = reverse (filter (λ i. not (s.done i)) s.rest); own = s.own }

-- the operations that were placed, the newest first
abbrev pub placed_at : Snapshot → List PendingItem
placed_at s = s.own ∷ s.rest

abbrev pub plan_depth : Plan → ℕ
plan_depth p = depth p.vector

abbrev pub vector_of : Option Plan → List Component
vector_of o = option_map_or (λ (p : Plan). p.vector) o []

module _ (s : Snapshot) where
  abbrev own : PendingItem
  own = s.own

  abbrev rest : List PendingItem
  rest = s.rest

  abbrev done : PendingItem → Bool
  done = s.done

  abbrev last : ℕ → Option (Signed Structure)
  last = s.last

  abbrev zs : List (Signed Structure)
  zs = s.structures

  abbrev x : Lists
  x = lists_at s

  abbrev is : List PendingItem
  is = placed_at s

  abbrev tv : List Component
  tv = top_vector x

  abbrev d : ℕ
  d = depth tv

  abbrev open_item : PendingItem → Bool
  open_item i = not (done i)

  -- the pending items are the operations that aren't committed
  pub items_all : items x ≡ reverse (filter open_item is)
  items_all = rw s.waits (sym (reverse_cons own (filter open_item rest)))

  pub item_in : (i : PendingItem) → In i (items x) → In i is × (done i ≡ false)
  item_in i h =
      let r = in-filter open_item i is (in_unreverse i (filter open_item is) (subst (λ l. In i l) items_all h)) in
      (r.0, not-true (done i) r.1)

  pub in_items : (i : PendingItem) → In i is → done i ≡ false → In i (items x)
  in_items i h f = subst (λ l. In i l) (sym items_all) (in_reverse i (filter open_item is) (in-kept open_item i is h (ap not f)))

  pub pending_item : (p : Plan) → In p (pending x) → (i : PendingItem) × In i is × (done i ≡ false) × (p ≡ i.plan)
  pending_item p h =
      let r = in-map (λ (i : PendingItem). i.plan) (items x) p h in
      let q = item_in r.0 r.1 in
      (r.0, q.0, q.1, r.2)

  -- a structure is that of a committed operation
  pub structure_item : (z : Signed Structure) → In z zs → (i : PendingItem) × In i is × (done i ≡ true) × (z.value.plan ≡ i.plan) × (last (user i) ≡ Some z)
  structure_item z h =
      let r = s.latests.is_last z h in
      let q = s.commits.lasts r.0 z r.2 in
      let l : last (user q.0) ≡ Some z = ap last q.3 ∙ r.2 in
      let n : number_in (last (user q.0)) ≡ number q.0 = ap number_in l ∙ ap (λ (p : Plan). p.number) q.2 in
      (q.0, q.1, s.commits.late q.0 q.1 (omega arith), q.2, l)

  pub shown_item : (p : Plan) → In p (shown x) → (i : PendingItem) × In i is × (done i ≡ true) × (p ≡ i.plan)
  shown_item p h =
      let r = in-map (λ (z : Signed Structure). z.value.plan) zs p h in
      let q = structure_item r.0 r.1 in
      (q.0, q.1, q.2, r.2 ∙ q.3)

  -- an operation that is committed has its user's structure behind it
  pub last_behind : (i : PendingItem) → In i is → done i ≡ true → (z : Signed Structure) × (k : PendingItem) × In z zs × In k is × (z.value.plan ≡ k.plan) × (last (user i) ≡ Some z) × (user k ≡ user i) × (number i ≤ number k)
  last_behind i h e = go (last (user i)) refl
    where
      go : (o : Option (Signed Structure)) → last (user i) ≡ o → (z : Signed Structure) × (k : PendingItem) × In z zs × In k is × (z.value.plan ≡ k.plan) × (last (user i) ≡ Some z) × (user k ≡ user i) × (number i ≤ number k)
      go None m = absurd (let a = s.commits.early i h e in let p = s.placing.positive i h in let n = ap number_in m in omega arith)
      go (Some z) m =
          let q = s.commits.lasts (user i) z m in
          let a = s.commits.early i h e in
          let n = ap number_in m in
          let k = ap (λ (p : Plan). p.number) q.2 in
          (z, q.0, s.latests.is_in (user i) z (s.placing.users i h) m, q.1, q.2, m, q.3, omega arith)

  -- of a user's operations the greater number has the greater depth
  pub ordered : (i k : PendingItem) → In i is → In k is → user i ≡ user k → number i ≤ number k → place i ≤ place k
  ordered i k = ordered_places is s.placing i k

  -- top is the plan of a committed operation, or there is no structure
  pub data TopCases : Type 0 where
    Without : top_plan x ≡ None → zs ≡ [] → TopCases
    At : (k : PendingItem) → In k is → done k ≡ true → top_plan x ≡ Some k.plan → ((y : Signed Structure) → In y zs → depth y.value.plan.vector ≤ place k) → TopCases

  pub top_cases : TopCases
  top_cases = go (top zs) refl
    where
      go : (o : Option (Signed Structure)) → top zs ≡ o → TopCases
      go None e = Without (ap (λ (o : Option (Signed Structure)). option_map_or (λ z. Some z.value.plan) o None) e) (none_listed zs e)
      go (Some z) e =
          let is_top = top_is zs z e in
          let q = structure_item z (contains_in z zs is_top.there) in
          At q.0 q.1 q.2 (ap (λ (o : Option (Signed Structure)). option_map_or (λ z. Some z.value.plan) o None) e ∙ ap (λ (p : Plan). Some p) q.3)
          (λ y i. subst (λ (p : Plan). depth y.value.plan.vector ≤ depth p.vector) q.3 (of_all (λ (y : Signed Structure). depth_of y ≤ depth_of z) zs is_top.deepest y i))

  -- what is committed isn't above
  pub committed_below : (i : PendingItem) → In i is → done i ≡ true → place i ≤ d
  committed_below i h e =
      let (z, k, zi, ki, p, m, u, n) = last_behind i h e in
      let o = ordered i k h ki (sym u) n in
      elim top_cases [
        | Without f g ↦ absurd (subst (λ l. In z l) g zi)
        | At j ji jd f g ↦ (
            let a = g z zi in
            let q = ap plan_depth p in
            let w = ap (λ o. depth (vector_of o)) f in
            omega arith)
      ]

  -- what is above is pending
  pub above_pending : (i : PendingItem) → In i is → d < place i → done i ≡ false
  above_pending i h l = false_from_ne_true (done i) (λ e. let a = committed_below i h e in omega arith)

  pub starts_at : StartsAt is d tv
  starts_at =
      elim top_cases [
        | Without f g ↦ inr (ap (λ o. depth (vector_of o)) f, ap vector_of f)
        | At k ki kd f g ↦ inl (k, ki, sym (ap (λ o. depth (vector_of o)) f), sym (ap vector_of f))
      ]

  pub top_seen : (j : PendingItem) → In j is → place j ≤ d → number j ≤ version_of (user j) tv
  top_seen j h l =
      let o = s.placing.own j h in
      elim starts_at [
        | inl k ↦ (
            let m = ap (version_of (user j)) k.3 in
            let e = k.2 in
            elim (cases_eq (place j) (place k.0)) [
              | inl q ↦ (let w = ap (version (user j)) (s.placing.one_place j k.0 h k.1 q) in omega arith)
              | inr q ↦ (let g = s.placing.grown j k.0 h k.1 (omega arith) (user j) in omega arith)
            ])
        | inr e ↦ absurd (let p = s.placing.deep j h in let z = e.0 in omega arith)
      ]

  pub top_unseen : (j : PendingItem) → In j is → d < place j → version_of (user j) tv < number j
  top_unseen j h l =
      elim starts_at [
        | inl k ↦ (let m = ap (version_of (user j)) k.3 in let e = k.2 in let u = s.placing.unseen k.0 j k.1 h (omega arith) in omega arith)
        | inr e ↦ (let m = ap (version_of (user j)) e.1 in let p = s.placing.positive j h in omega arith)
      ]

  pub top_counted : (u n : ℕ) → u < 64 → 0 < n → n ≤ version_of u tv → (j : PendingItem) × In j is × (user j ≡ u) × (number j ≡ n)
  top_counted u n l p le =
      elim starts_at [
        | inl k ↦ (let m = ap (version_of u) k.3 in s.placing.counted k.0 u n k.1 l p (omega arith))
        | inr e ↦ absurd (let m = ap (version_of u) e.1 in omega arith)
      ]

  pub own_deepest : (i : PendingItem) → In i rest → place i < place own
  own_deepest i h = s.descending.0 i h

  pub own_above : d < place own
  own_above =
      elim top_cases [
        | Without f g ↦ (let w = ap (λ o. depth (vector_of o)) f in let p = s.placing.deep own (inl refl) in omega arith)
        | At k ki kd f g ↦ (
            let w = ap (λ o. depth (vector_of o)) f in
            elim ki [
              | inl e ↦ absurd (true≢false (sym kd ∙ ap done e ∙ s.waits))
              | inr r ↦ (let a = own_deepest k r in omega arith)
            ])
      ]
