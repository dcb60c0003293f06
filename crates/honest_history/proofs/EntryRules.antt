-- The reply to the operation that was placed last keeps the rule on entries.
use Rattle.std.proofs.Common.{◌≡◌, ℕ, ◌<◌, ◌≤◌, List, [], ◌∷◌, ◌++◌, map, Option, Some, None, Bool, true, false, refl, sym, ap, ◌∙◌, subst, inl, inr, arith}
use Rattle.std.specs.Prelude.{◌⊎◌, ◌==◌, ◌||◌, not}
use Rattle.std.specs.List.{filter}
use Rattle.std.specs.Option.{option_map_or}
use Rattle.std.proofs.lemmas.Bool.{ne_eqb, ltb-true, lt-ltb, cases_Bool, cases_eq, cases_lt, and_from, or_left, or_right, true≢false, false_from_ne_true, not-true}
use Rattle.std.proofs.lemmas.List.{map-append}
use Rattle.principals.specs.Table.{Table}
use Rattle.version_order.specs.declared.plan.Entry.{Entry}
use Rattle.version_order.specs.declared.vector.Component.{Component}
use Rattle.version_order.specs.Plan.{Plan, entry_of}
use Rattle.version_order.specs.Structure.{Structure}
use Rattle.version_order.specs.Vector.{depth}
use Rattle.pending_list.specs.declared.signed.Signed.{Signed}
use Rattle.pending_list.specs.Reply.{PendingItem}
use Rattle.reply_rules.specs.Lists.{Lists, items, pending, shown}
use Rattle.reply_rules.specs.Rules.{all_show, entries, entries_of, is_above, items_above, lists_entry, other_entries, own_entry_of_top, rest_of, shows, top_entries, top_vector, waiting, within}
use Rattle.agreement.proofs.Members.{In, in-append, in-filter, in-kept, in-left, in-map, in-right, map-in}
use Rattle.agreement.proofs.Tests.{entry_in as entry_listed}
use Rattle.honest_history.proofs.Chains.{beyond}
use Rattle.honest_history.proofs.Members.{all_from, in_reverse, in_unreverse, map_filter}
use Rattle.honest_history.proofs.Pairs.{Pairwise, pairwise_filter}
use Rattle.honest_history.proofs.RuleTests.{in_listed}
use Rattle.honest_history.proofs.Timeline.{place, user}
use Rattle.honest_history.proofs.Tops.{Snapshot, above_pending, in_items, item_in, last_behind, lists_at, ordered, own_deepest, placed_at, plan_depth, top_cases, vector_of, At, Without}
use Rattle.honest_history.proofs.ListRules.{items_ascend, waiting_item}

abbrev entries_of_top : Option Plan → List Entry
entries_of_top o = option_map_or (λ (p : Plan). p.entries) o []

module _ (s : Snapshot) where
  abbrev own : PendingItem
  own = s.own

  abbrev rest : List PendingItem
  rest = s.rest

  abbrev done : PendingItem → Bool
  done = s.done

  abbrev zs : List (Signed Structure)
  zs = s.structures

  abbrev b : Table
  b = s.table

  abbrev x : Lists
  x = lists_at s

  abbrev is : List PendingItem
  is = placed_at s

  abbrev tv : List Component
  tv = top_vector x

  abbrev open_item : PendingItem → Bool
  open_item i = not (done i)

  abbrev d : ℕ
  d = depth tv

  abbrev entry : PendingItem → Entry
  entry i = entry_of i.plan

  same_item : (i j : PendingItem) → In i is → In j is → entry i ≡ entry j → i ≡ j
  same_item i j h k e = s.placing.one_number i j h k (ap (λ (e : Entry). e.user) e) (ap (λ (e : Entry). e.number) e)

  -- top's entries have what is pending and isn't above
  top_waits : (j : PendingItem) → In j is → done j ≡ false → place j ≤ d → In (entry j) (top_entries x)
  top_waits j h f l =
      elim (top_cases s) [
        | Without e g ↦ absurd (let w = ap (λ o. depth (vector_of o)) e in let p = s.placing.deep j h in omega arith)
        | At k ki kd e g ↦ (
            let w = ap (λ o. depth (vector_of o)) e in
            subst (λ es. In (entry j) es) (sym (ap entries_of_top e)) (elim (cases_eq (place j) (place k)) [
              | inl m ↦ absurd (true≢false (sym kd ∙ ap done (sym (s.placing.one_place j k h ki m)) ∙ f))
              | inr n ↦ s.entries.waiting k j ki h (omega arith) f
            ]))
      ]

  -- what a later plan has of the time before top is of top
  top_has : (i j : PendingItem) → In i is → In j is → d < place i → place j ≤ d → In (entry j) i.plan.entries → In (entry j) (top_entries x) ⊎ In (entry j) (own_entry_of_top x)
  top_has i j h k l le m =
      elim (top_cases s) [
        | Without e g ↦ absurd (let w = ap (λ o. depth (vector_of o)) e in let p = s.placing.deep j k in omega arith)
        | At y yi yd e g ↦ (
            let w = ap (λ o. depth (vector_of o)) e in
            elim (cases_eq (place j) (place y)) [
              | inl q ↦ inr (subst (λ es. In (entry j) es) (sym (ap (λ o. option_map_or (λ (p : Plan). entry_of p ∷ []) o []) e)) (inl (ap entry (s.placing.one_place j y k yi q))))
              | inr n ↦ inl (subst (λ es. In (entry j) es) (sym (ap entries_of_top e)) (s.entries.kept y j i yi k h (omega arith) (omega arith) m))
            ])
      ]

  known : (e : Entry) → In e (top_entries x) → (lists_entry (entries_of (shown x)) e || lists_entry (entries_of (pending x)) e) ≡ true
  known e h =
      elim (top_cases s) [
        | Without f g ↦ absurd (subst (λ es. In e es) (ap entries_of_top f) h)
        | At k ki kd f g ↦ (
            let (j, ji, l, m) = s.entries.from k e ki (subst (λ es. In e es) (ap entries_of_top f) h) in
            elim (cases_Bool (done j)) [
              | inl y ↦ (
                  let (z, n, zi, ni, p, a, u, le) = last_behind s j ji y in
                  let up = ordered s j n ji ni (sym u) le in
                  let same : j ≡ n =
                  elim (cases_lt (place j) (place n)) [
                    | inl far ↦ absurd (
                        let c = s.entries.order k j n ki ji ni (sym u) far (subst (λ e. In e k.plan.entries) m (subst (λ es. In e es) (ap entries_of_top f) h)) in
                        let q = g z zi in
                        let w = ap plan_depth p in
                        omega arith)
                    | inr near ↦ s.placing.one_place j n ji ni (omega arith)
                  ]
                  in
                  or_left _ _ (in_listed _ e (subst (λ e. In e (entries_of (shown x))) (sym (m ∙ ap entry same ∙ ap (entry_of) (sym p)))
                  (map-in (entry_of) (shown x) z.value.plan (map-in (λ (z : Signed Structure). z.value.plan) zs z zi)))))
              | inr y ↦ or_right _ _ (in_listed _ e (subst (λ e. In e (entries_of (pending x))) (sym m)
                  (map-in (entry_of) (pending x) j.plan (map-in (λ (i : PendingItem). i.plan) (items x) j (in_items s j ji y)))))
            ])
      ]

  abbrev plans : List PendingItem → List Plan
  plans is = map (λ i. i.plan) is

  entry_from : (e : Entry) (js : List PendingItem) → In e (entries_of (plans js)) → (j : PendingItem) × In j js × (e ≡ entry j)
  entry_from e js h =
      let r = in-map (entry_of) (plans js) e h in
      let q = in-map (λ (i : PendingItem). i.plan) js r.0 r.1 in
      (q.0, q.1, r.2 ∙ ap (entry_of) q.2)

  entry_in : (j : PendingItem) (js : List PendingItem) → In j js → In (entry j) (entries_of (plans js))
  entry_in j js h = map-in (entry_of) (plans js) j.plan (map-in (λ (i : PendingItem). i.plan) js j h)

  -- these are above
  abbrev Above : List PendingItem → Type 0
  Above js = (j : PendingItem) → In j js → In j is × (d < place j)

  -- the rest of a plan's entries is of the time up to top
  rest_from : (before : List PendingItem) (i : PendingItem) (e : Entry) → In i is → ((j : PendingItem) → In j is → d < place j → place j < place i → In j before) → In e (rest_of (plans before) i.plan) → (j : PendingItem) × In j is × (place j ≤ d) × (e ≡ entry j) × In (entry j) i.plan.entries
  rest_from before i e h complete m =
      let q = in-filter (λ e. not (lists_entry (entries_of (plans before)) e)) e i.plan.entries m in
      let (j, ji, l, k) = s.entries.from i e h q.0 in
      elim (cases_lt d (place j)) [
        | inl far ↦ absurd (true≢false (sym (subst (λ e. lists_entry (entries_of (plans before)) e ≡ true) (sym k) (in_listed _ (entry j) (entry_in j before (complete j ji far l)))) ∙ not-true (lists_entry (entries_of (plans before)) e) q.1))
        | inr near ↦ (j, ji, near, k, subst (λ e. In e i.plan.entries) k q.0)
      ]

  in_rest : (before : List PendingItem) (i j : PendingItem) → Above before → In j is → place j ≤ d → In (entry j) i.plan.entries → In (entry j) (rest_of (plans before) i.plan)
  in_rest before i j above h l m =
      in-kept (λ e. not (lists_entry (entries_of (plans before)) e)) (entry j) i.plan.entries m
      (ap not (false_from_ne_true (lists_entry (entries_of (plans before)) (entry j)) (λ y.
      let r = entry_from (entry j) before (entry_listed _ (entry j) y) in
      let a = above r.0 r.1 in
      let k = ap place (same_item j r.0 h a.0 r.2) in
      let n = a.1 in
      omega arith)))

  -- what a plan has of the time up to top stands in the rest of the one before it
  abbrev RestHas : Option (List Entry) → PendingItem → Type 0
  RestHas None i = Unit {0}
  RestHas (Some es) i = (j : PendingItem) → In j is → place j ≤ d → In (entry j) i.plan.entries → In (entry j) es

  shows_one : (before : List PendingItem) (rest' : Option (List Entry)) (i : PendingItem) → Above before → ((j : PendingItem) → In j before → place j < place i) → In i is → d < place i → ((j : PendingItem) → In j is → d < place j → place j < place i → In j before) → RestHas rest' i → shows x (plans before) rest' i.plan ≡ true
  shows_one before rest' i above less h l complete has =
      and_from _ _ (all_from (lists_entry i.plan.entries) (entries_of (plans before)) (λ e k.
      let r = entry_from e before k in
      let a = above r.0 r.1 in
      in_listed _ e (subst (λ e. In e i.plan.entries) (sym r.2) (s.entries.waiting i r.0 h a.0 (less r.0 r.1) (above_pending s r.0 a.0 a.1)))))
      (and_from _ _ (all_from _ (rest_of (plans before) i.plan) (λ e k.
      let r = rest_from before i e h complete k in
      elim (top_has i r.0 h r.1 l r.2 r.4) [
        | inl a ↦ or_left _ _ (in_listed _ e (subst (λ e. In e (top_entries x)) (sym r.3) a))
        | inr a ↦ or_right _ _ (in_listed _ e (subst (λ e. In e (own_entry_of_top x)) (sym r.3) a))
      ]))
      (and_from _ _ (all_from (lists_entry (rest_of (plans before) i.plan)) (entries_of (waiting x)) (λ e k.
      let r = in-map (entry_of) (waiting x) e k in
      let q = waiting_item s r.0 r.1 in
      let m : e ≡ entry q.0 = r.2 ∙ ap (entry_of) q.3 in
      let w = q.4 in
      in_listed _ e (subst (λ e. In e (rest_of (plans before) i.plan)) (sym m) (in_rest before i q.0 above q.1 q.4 (s.entries.waiting i q.0 h q.1 (omega arith) q.2)))))
      (and_from _ _ (all_from (λ e. not (e.user == i.plan.user)) (rest_of (plans before) i.plan) (λ e k.
      let r = rest_from before i e h complete k in
      let n = s.entries.others i r.0 h r.1 r.4 in
      ap not (ne_eqb e.user (user i) (λ y. n (ap (λ (e : Entry). e.user) (sym r.3) ∙ y)))))
      (lies rest' has))))
    where
      lies : (rest' : Option (List Entry)) → RestHas rest' i → within (rest_of (plans before) i.plan) rest' ≡ true
      lies None has = refl
      lies (Some es) has = all_from (lists_entry es) (rest_of (plans before) i.plan) (λ e k.
          let r = rest_from before i e h complete k in
          in_listed es e (subst (λ e. In e es) (sym r.3) (has r.0 r.1 r.2 r.4)))

  shows_all : (before as' : List PendingItem) (rest' : Option (List Entry)) → Above before → Above as' → Pairwise (λ i j. place i < place j) as' → ((i j : PendingItem) → In j before → In i as' → place j < place i) → ((j : PendingItem) → In j is → d < place j → In j before ⊎ In j as') → ((i : PendingItem) → In i as' → RestHas rest' i) → all_show x (plans before) rest' (plans as') ≡ true
  shows_all before [] rest' a b p l c r = refl
  shows_all before (i ∷ as') rest' a b p l c r =
      let here = b i (inl refl) in
      and_from _ _ (shows_one before rest' i a (λ j h. l i j h (inl refl)) here.0 here.1 (λ j h k m. elim (c j h k) [
        | inl y ↦ y
        | inr y ↦ absurd (elim y [ inl e ↦ (let w = ap place e in omega arith) | inr z ↦ (let w = p.0 j z in omega arith) ])
      ]) (r i (inl refl)))
      (subst (λ ps. all_show x ps (Some (rest_of (plans before) i.plan)) (plans as') ≡ true) (map-append (λ (i : PendingItem). i.plan) before (i ∷ []))
      (shows_all (before ++ i ∷ []) as' (Some (rest_of (plans before) i.plan))
      (λ j h. elim (in-append j before (i ∷ []) h) [ inl k ↦ a j k | inr k ↦ elim k [ inl e ↦ subst (λ j. In j is × (d < place j)) (sym e) here | inr z ↦ absurd z ] ])
      (λ j h. b j (inr h)) p.1
      (λ k j h m. elim (in-append j before (i ∷ []) h) [ inl y ↦ l k j y (inr m) | inr y ↦ elim y [ inl e ↦ (let w = p.0 k m in let q = ap place e in omega arith) | inr z ↦ absurd z ] ])
      (λ j h k. elim (c j h k) [ inl y ↦ inl (in-left j before (i ∷ []) y) | inr y ↦ elim y [ inl e ↦ inl (in-right j before (i ∷ []) (inl e)) | inr z ↦ inr z ] ])
      (λ k m j h le n.
      let up = p.0 k m in
      let far = here.1 in
      in_rest before i j a h le (s.entries.kept i j k here.0 h (b k (inr m)).0 (omega arith) up n))))

  pub entries_hold : entries x ≡ true
  unfolding entries
  entries_hold =
      and_from _ _ (all_from _ (top_entries x) known)
      (and_from _ _ (all_from (lists_entry (top_entries x)) (entries_of (waiting x)) (λ e k.
      let r = in-map (entry_of) (waiting x) e k in
      let q = waiting_item s r.0 r.1 in
      in_listed _ e (subst (λ e. In e (top_entries x)) (sym (r.2 ∙ ap (entry_of) q.3)) (top_waits q.0 q.1 q.2 q.4))))
      (and_from _ _ (subst (λ ps. all_show x [] None ps ≡ true) (map_filter (λ (i : PendingItem). i.plan) (is_above x) (items x))
      (shows_all [] (items_above x) None (λ j h. absurd h)
      (λ j h. let r = in-filter (beyond d) j (items x) h in ((item_in s j r.0).0, ltb-true d (place j) r.1))
      (pairwise_filter _ (beyond d) (items x) (items_ascend s)) (λ i j h k. absurd h)
      (λ j h l. inr (in-kept (beyond d) j (items x) (in_items s j h (above_pending s j h l)) (lt-ltb d (place j) l)))
      (λ i h. tt)))
      (and_from _ _
      (all_from (lists_entry (other_entries x)) own.plan.entries (λ e h.
      let r = s.own_entries e h in
      in_listed _ e (subst (λ e. In e (other_entries x)) (sym r.3) (entry_in r.0 x.others (in_reverse r.0 (filter open_item rest) (in-kept open_item r.0 rest r.1 (ap not r.2)))))))
      (all_from (lists_entry own.plan.entries) (other_entries x) (λ e h.
      let r = entry_from e x.others h in
      let q = in-filter open_item r.0 rest (in_unreverse r.0 (filter open_item rest) r.1) in
      in_listed _ e (subst (λ e. In e own.plan.entries) (sym r.2) (s.entries.waiting own r.0 (inl refl) (inr q.0) (own_deepest s r.0 q.0) (not-true (done r.0) q.1))))))))
