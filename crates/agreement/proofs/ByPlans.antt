-- The lists of a reply by their plans, and what the rules say of them.
use Rattle.std.proofs.Common.{◌≡◌, ◌≢◌, ℕ, ◌+◌, ◌<◌, ◌≤◌, List, [], ◌∷◌, ◌++◌, Option, Some, None, Bool, true, false, cond, refl, sym, ap, ◌∙◌, subst, inl, inr, arith, append_assoc}
use Rattle.std.specs.Prelude.{◌==◌, ◌&&◌, ◌||◌, find, map, nat_lt, not, if◌then◌else◌}
use Rattle.std.specs.List.{filter, list_all, list_any}
use Rattle.std.specs.Option.{option_map_or}
use Rattle.std.proofs.lemmas.Bool.{eqb-true, eqb-false, eq-eqb, ne_eqb, lt-ltb, le-ltb, cases_Bool, cases_lt, cases_eq, false≢true, and_parts, or_cases, not-true}
use Rattle.std.proofs.lemmas.List.{append-nil, map-append}
use Rattle.std.proofs.lemmas.List.Elements.{filter-append}
use Rattle.version_order.specs.declared.plan.Entry.{Entry}
use Rattle.version_order.specs.declared.vector.Component.{Component}
use Rattle.version_order.specs.Plan.{Plan, entry_of, plan}
use Rattle.version_order.specs.Structure.{Structure}
use Rattle.version_order.specs.Vector.{raised, version_of}
use Rattle.version_order.proofs.Raising.{version_of-raised}
use Rattle.principals.specs.Table.{Table}
use Rattle.pending_list.specs.declared.signed.Signed.{Signed}
use Rattle.pending_list.specs.Groups.{groups, raised_groups, raises_at, table_version}
use Rattle.pending_list.specs.Reply.{PendingItem, Reply, reply, top}
use Rattle.pending_list.specs.Reply as reply_spec
use Rattle.pending_list.proofs.Highest.{none_listed, top_is}
use Rattle.reply_rules.specs.Lists.{Lists, items, number_of, pending, shown, structure_of}
use Rattle.reply_rules.specs.Rules.{above, above_show, all_show, ascends_after, counts_at, depth, each_once, entries, entries_of, each_has_next_vector, group_records, is_above, is_next, is_numbered, is_planned, items_above, left_of, link, lists, lists_entry, names_certificate, names_last, next_vector, numbers, other_entries, own_above, own_all, own_entry_of_top, own_only, pending_ascends, pending_next, pending_numbered, pending_once, rest_known, rest_of, rest_others, rest_waiting, same_vector, shows, shows_earlier, structures_ascend, structures_numbered, top_counts, top_entries, top_known, top_plan, top_vector, top_waiting, unknown_user, vector, vectors_follow, waiting, waits, within, all_in_order, is_known}
use Rattle.reply_rules.specs.Broken.{broken, later_rules}
use Rattle.reply_rules.specs.declared.rule.Rule.TheVariants as rule
use Rattle.reply_rules.proofs.Above.{above_plans}
use Rattle.reply_rules.proofs.SameVector.{same_vector_is}
use Rattle.agreement.proofs.Plans
use Rattle.agreement.proofs.Members.{In, in-filter, in-kept, in-map, map-in, contains_in, nil-split, one, one-cases, one-other}
use Rattle.agreement.proofs.Tests.{all_in, all_above, are_groups, below_at, entry_in, first_holds, later_ascend, plan_in, user_stays}
use Rattle.agreement.proofs.Formed.{one_each, pending_plan_fits, structure_plan_fits, user_below}

-- the version of a user, and 0 of a group
abbrev pub users_version : ℕ → List Component → ℕ
users_version u v = if nat_lt u 64 then version_of u v else 0

abbrev pub shape : Plans.Shape Plan Entry
shape =
    record {
      user_of = λ p. p.user;
      number_of_plan = λ p. p.number;
      version_at = λ u p. users_version u p.vector;
      entries_in = λ p. p.entries;
      entry_for = λ p. entry_of p;
      entry_user = λ e. e.user;
      entry_number = λ e. e.number;
      same_user = λ p. refl;
      same_number = λ p. refl;
    }

abbrev pub plan_in_item : PendingItem → Plan
plan_in_item i = i.plan

abbrev pub plan_shown : Signed Structure → Plan
plan_shown z = z.value.plan

-- the lists of a reply by their plans
abbrev pub by_plans : Lists → Plans.View Plan
by_plans x =
    record { structures = shown x; others = map plan_in_item x.others; own = x.own.plan; top = top_plan x; above = above x; below = waiting x }

abbrev pub Count : ℕ → List Plan → ℕ
Count = Plans.count Plan Entry shape

-- the pending plans, the own one last
pub pending_plans : (x : Lists) → pending x ≡ map plan_in_item x.others ++ x.own.plan ∷ []
pending_plans x = map-append plan_in_item x.others (x.own ∷ [])

-- ---- lists

users_shown : (zs : List (Signed Structure)) → map (λ z. z.value.plan.user) zs ≡ map (λ (p : Plan). p.user) (map plan_shown zs)
users_shown [] = refl
users_shown (z ∷ zs) = ap (λ us. z.value.plan.user ∷ us) (users_shown zs)

users_pending : (is : List PendingItem) → map (λ i. i.plan.user) is ≡ map (λ (p : Plan). p.user) (map plan_in_item is)
users_pending [] = refl
users_pending (i ∷ is) = ap (λ us. i.plan.user ∷ us) (users_pending is)

depths_pending : (is : List PendingItem) → map (λ i. depth i.plan) is ≡ map (λ (p : Plan). depth p) (map plan_in_item is)
depths_pending [] = refl
depths_pending (i ∷ is) = ap (λ ds. depth i.plan ∷ ds) (depths_pending is)

once_ascending : (before : Option ℕ) (ps : List Plan) → ascends_after before (map (λ (p : Plan). p.user) ps) ≡ true → Plans.EachOnce Plan Entry shape ps
once_ascending before [] h = tt
once_ascending before (p ∷ ps) h =
    let later = later_ascend before p.user (map (λ (p : Plan). p.user) ps) h in
    ((λ q i e. let more = all_above p.user (map (λ (p : Plan). p.user) ps) later q.user (map-in (λ (p : Plan). p.user) ps q i) in absurd (omega arith)), once_ascending (Some p.user) ps later)

once_each : (ps : List Plan) → each_once (map (λ (p : Plan). p.user) ps) ≡ true → Plans.EachOnce Plan Entry shape ps
once_each [] h = tt
once_each (p ∷ ps) h =
    let parts = and_parts (list_all (λ m. not (p.user == m)) (map (λ (p : Plan). p.user) ps)) (each_once (map (λ (p : Plan). p.user) ps)) h in (
      (λ q i e.
          let other = all_in (λ m. not (p.user == m)) (map (λ (p : Plan). p.user) ps) parts.0 q.user (map-in (λ (p : Plan). p.user) ps q i) in
          eqb-false p.user q.user (not-true (p.user == q.user) other) e),
      once_each ps parts.1,
    )

-- ---- the top

top_shown : (zs : List (Signed Structure)) (t : Plan) → reply_spec.top_plan zs ≡ Some t → In t (map plan_shown zs)
top_shown zs t e = go (top zs) refl e
  where
    go : (o : Option (Signed Structure)) → top zs ≡ o → option_map_or (λ s. Some s.value.plan) o None ≡ Some t → In t (map plan_shown zs)
    go None is e = cc
    go (Some s) is e =
        let same : s.value.plan ≡ t = cc in
        subst (λ (p : Plan). In p (map plan_shown zs)) same (map-in plan_shown zs s (contains_in s zs (top_is zs s is).there))

top_nothing : (zs : List (Signed Structure)) → reply_spec.top_plan zs ≡ None → map plan_shown zs ≡ []
top_nothing zs e = go (top zs) refl e
  where
    go : (o : Option (Signed Structure)) → top zs ≡ o → option_map_or (λ s. Some s.value.plan) o None ≡ None → map plan_shown zs ≡ []
    go None is e = ap (map plan_shown) (none_listed zs is)
    go (Some s) is e = cc

version_top : (t : Option Plan) (u : ℕ) → Plans.version_of Plan Entry shape t u ≡ users_version u (option_map_or (λ p. p.vector) t [])
version_top (Some t) u = refl
version_top None u = elim (cases_lt u 64) [ inl l ↦ rw (lt-ltb u 64 l) refl | inr l ↦ rw (le-ltb u 64 l) refl ]

entries_top : (t : Option Plan) → Plans.entries_of Plan Entry shape t ≡ option_map_or (λ p. p.entries) t []
entries_top (Some t) = refl
entries_top None = refl

-- ---- the structure of a user

abbrev pub option_plan : Option (Signed Structure) → Option Plan
option_plan None = None
option_plan (Some z) = Some z.value.plan

pub structure_by_plans : (u : ℕ) (zs : List (Signed Structure)) → Plans.structure_of Plan Entry shape u (map plan_shown zs) ≡ option_plan (find (λ z. z.value.plan.user == u) zs)
structure_by_plans u [] = refl
structure_by_plans u (z ∷ zs) =
    elim (cases_eq u z.value.plan.user) [
      | inl e ↦ rw (eq-eqb u z.value.plan.user e, eq-eqb z.value.plan.user u (sym e)) refl
      | inr e ↦ rw (ne_eqb u z.value.plan.user e, ne_eqb z.value.plan.user u (λ m. e (sym m))) (structure_by_plans u zs)
    ]

number_by_plan : (o : Option (Signed Structure)) → Plans.number_in Plan Entry shape (option_plan o) ≡ option_map_or (λ z. z.value.plan.number) o 0
number_by_plan None = refl
number_by_plan (Some z) = refl

pub number_by_plans : (u : ℕ) (x : Lists) → Plans.number_of Plan Entry shape u (by_plans x) ≡ number_of u x
number_by_plans u x = ap (Plans.number_in Plan Entry shape) (structure_by_plans u x.structures) ∙ number_by_plan (structure_of u x)

-- ---- counts

count_kept : (u n : ℕ) (p : Plan) (xs ys : List Plan) (b : Bool) → Count u xs + Count u ys ≡ n → Count u (cond b (p ∷ xs) xs) + Count u (cond (not b) (p ∷ ys) ys) ≡ one u p.user + n
count_kept u n p xs ys true e = omega arith
count_kept u n p xs ys false e = omega arith

count_filter : (t : Plan → Bool) (u : ℕ) (ps : List Plan) → Count u (filter t ps) + Count u (filter (λ p. not (t p)) ps) ≡ Count u ps
count_filter t u [] = omega arith
count_filter t u (p ∷ ps) = count_kept u (Count u ps) p (filter t ps) (filter (λ p. not (t p)) ps) (t p) (count_filter t u ps)

count_some : (u : ℕ) (ps : List Plan) → Count u ps ≤ 1 → (if list_any (λ (p : Plan). p.user == u) ps then 1 else 0) ≡ Count u ps
count_some u [] h = refl
count_some u (p ∷ ps) h =
    elim (one-cases u p.user) [
      | inl e ↦ (let o = e.1 in rw (eq-eqb p.user u (sym e.0)) (omega arith))
      | inr e ↦ (
          let o = e.1 in
          let ih = count_some u ps (omega arith) in
          rw (ne_eqb p.user u (λ m. e.0 (sym m))) (omega arith))
    ]

count_absent : (u : ℕ) (ps : List Plan) → ((q : Plan) → In q ps → u ≢ q.user) → Count u ps ≡ 0
count_absent u [] h = refl
count_absent u (p ∷ ps) h =
    let ih = count_absent u ps (λ q i. h q (inr i)) in
    let o = one-other u p.user (h p (inl refl)) in
    omega arith

structure_absent : (u : ℕ) (ps : List Plan) → ((q : Plan) → In q ps → u ≢ q.user) → Plans.number_in Plan Entry shape (Plans.structure_of Plan Entry shape u ps) ≡ 0
structure_absent u [] h = refl
structure_absent u (p ∷ ps) h = rw (ne_eqb u p.user (h p (inl refl))) (structure_absent u ps (λ q i. h q (inr i)))

-- ---- vectors

of_user : (u : ℕ) (v : List Component) → u < 64 → users_version u v ≡ version_of u v
of_user u v l = rw (lt-ltb u 64 l) refl

of_group : (u : ℕ) (v : List Component) → 64 ≤ u → users_version u v ≡ 0
of_group u v l = rw (le-ltb u 64 l) refl

pub one_turned : (u w : ℕ) → (if w == u then 1 else 0) ≡ one u w
one_turned u w = elim (cases_eq u w) [ inl e ↦ rw (eq-eqb w u (sym e), eq-eqb u w e) refl | inr e ↦ rw (ne_eqb w u (λ m. e (sym m)), ne_eqb u w e) refl ]

pub raised_are_groups : (t : Table) (i : PendingItem) (g : ℕ) → In g (raised_groups t i) → 64 ≤ g
raised_are_groups t i g j = are_groups 32 g (in-filter (raises_at t (table_version i.plan) i.cert) g groups j).0

-- the vector that follows, by users
next_version : (t : Table) (i : PendingItem) (v : List Component) (u : ℕ) → i.plan.user < 64 → i.plan.vector ≡ next_vector t i v → users_version u i.plan.vector ≡ users_version u v + one u i.plan.user
next_version t i v u l e =
    elim (cases_lt u 64) [
      | inl k ↦ (
          let next = ap (version_of u) e in
          let stays = user_stays u (raised_groups t i) (raised i.plan.user v) k (raised_are_groups t i) in
          let one_more = version_of-raised i.plan.user u v in
          let turned = one_turned u i.plan.user in
          let here = of_user u i.plan.vector k in
          let there = of_user u v k in
          omega arith)
      | inr k ↦ (
          let none = one-other u i.plan.user (λ m. omega arith) in
          let here = of_group u i.plan.vector k in
          let there = of_group u v k in
          omega arith)
    ]

chained_of_next : (t : Table) (v : List Component) (is : List PendingItem) → ((i : PendingItem) → In i is → i.plan.user < 64) → each_has_next_vector t v is ≡ true → Plans.Chained Plan Entry shape (λ u. users_version u v) (map plan_in_item is)
chained_of_next t v [] users h = tt
chained_of_next t v (i ∷ is) users h =
    let parts = and_parts (same_vector i.plan.vector (next_vector t i v)) (each_has_next_vector t i.plan.vector is) h in
    let e = same_vector_is i.plan.vector (next_vector t i v) parts.0 in
    ((λ u. next_version t i v u (users i (inl refl)) e), chained_of_next t i.plan.vector is (λ j k. users j (inr k)) parts.1)

chained_from : (f g : ℕ → ℕ) (ps : List Plan) → ((u : ℕ) → f u ≡ g u) → Plans.Chained Plan Entry shape f ps → Plans.Chained Plan Entry shape g ps
chained_from f g [] e c = tt
chained_from f g (p ∷ ps) e c = ((λ u. let a = c.0 u in let b = e u in omega arith), c.1)

-- ---- entries

-- each plan above shows what it has to, with those before it
shows_at : (x : Lists) (done : List Plan) (rest : Option (List Entry)) (before : List Plan) (p : Plan) (after ps : List Plan) → ps ≡ before ++ p ∷ after → all_show x done rest ps ≡ true
    → (rest_before : Option (List Entry)) × (shows x (done ++ before) rest_before p ≡ true)
shows_at x done rest before p after [] e h = absurd (nil-split p before after e)
shows_at x done rest [] p after (q ∷ ps) e h =
    let m : q ≡ p = cc in
    let here = (and_parts (shows x done rest q) (all_show x (done ++ q ∷ []) (Some (rest_of done q)) ps) h).0 in
    (rest, subst (λ z. shows x z rest p ≡ true) (sym (append-nil done)) (subst (λ z. shows x done rest z ≡ true) m here))
shows_at x done rest (b ∷ before) p after (q ∷ ps) e h =
    let m : q ≡ b = cc in
    let later : ps ≡ before ++ p ∷ after = cc in
    let there = (and_parts (shows x done rest q) (all_show x (done ++ q ∷ []) (Some (rest_of done q)) ps) h).1 in
    let found = shows_at x (done ++ q ∷ []) (Some (rest_of done q)) before p after ps later there in
    (found.0, subst (λ z. shows x z found.0 p ≡ true) (append_assoc done (q ∷ []) before ∙ ap (λ z. done ++ z ∷ before) m) found.1)

own_of_top : (t : Option Plan) (e : Entry) → lists_entry (option_map_or (λ p. entry_of p ∷ []) t []) e ≡ true → (p : Plan) × (t ≡ Some p) × (e ≡ entry_of p)
own_of_top None e h = absurd (false≢true h)
own_of_top (Some t) e h = elim (entry_in (entry_of t ∷ []) e h) [ inl is ↦ (t, refl, is) | inr none ↦ absurd none ]

listed_of : (es : List Entry) (ps : List Plan) → list_all (lists_entry es) (entries_of ps) ≡ true → (q : Plan) → In q ps → In (entry_of q) es
listed_of es ps h q i = entry_in es (entry_of q) (all_in (lists_entry es) (entries_of ps) h (entry_of q) (map-in (λ p. entry_of p) ps q i))

left_in : (known es : List Entry) (e : Entry) → In e (left_of known es) → In e es
left_in known es e i = (in-filter (λ e. not (lists_entry known e)) e es i).0

shows_plan : (x : Lists) (before : List Plan) (rest : Option (List Entry)) (p : Plan) → shows x before rest p ≡ true → Plans.Shows Plan Entry shape (by_plans x) before p
shows_plan x before rest p h =
    let earlier = and_parts (shows_earlier before p) (rest_known x before p && (rest_waiting x before p && (rest_others before p && within (rest_of before p) rest))) h in
    let known = and_parts (rest_known x before p) (rest_waiting x before p && (rest_others before p && within (rest_of before p) rest)) earlier.1 in
    let waits = and_parts (rest_waiting x before p) (rest_others before p && within (rest_of before p) rest) known.1 in
    record {
      earlier = λ q i. listed_of p.entries before earlier.0 q i;
      rest = λ e i.
          elim (cases_Bool (lists_entry (entries_of before) e)) [
            | inl is ↦ inl (plan_in before e is)
            | inr is_not ↦ (
                let left = in-kept (λ e. not (lists_entry (entries_of before) e)) e p.entries i (ap not is_not) in
                let told = all_in (λ e. lists_entry (top_entries x) e || lists_entry (own_entry_of_top x) e) (rest_of before p) known.0 e left in
                elim (or_cases (lists_entry (top_entries x) e) (lists_entry (own_entry_of_top x) e) told) [
                  | inl of_top ↦ inr (inl (subst (λ (es : List Entry). In e es) (sym (entries_top (top_plan x))) (entry_in (top_entries x) e of_top)))
                  | inr is_top ↦ inr (inr (own_of_top (top_plan x) e is_top))
                ])
          ];
      waiting = λ q i. left_in (entries_of before) p.entries (entry_of q) (listed_of (rest_of before p) (waiting x) waits.0 q i);
    }

-- ---- lists that break no rule

-- what the rules say of the lists of a reply
pub record Parts (t : Table) (x : Lists) : Type 0 where
  pub structures_ascend : Plans.EachOnce Plan Entry shape (shown x)
  pub depths : ascends_after None (map (λ p. depth p) (pending x)) ≡ true
  pub pending_once : Plans.EachOnce Plan Entry shape (pending x)
  pub planned : list_all is_planned (items x) ≡ true
  pub known : list_all (is_known t) (pending x) ≡ true
  pub pending_numbered : pending_numbered x ≡ true
  pub pending_next : pending_next x ≡ true
  pub top_counts : top_counts x ≡ true
  pub ordered : all_in_order x ≡ true
  pub own_above : own_above x ≡ true
  pub vectors_follow : vectors_follow t x ≡ true
  pub top_known : top_known x ≡ true
  pub top_waiting : top_waiting x ≡ true
  pub above_show : above_show x ≡ true
  pub own_only : own_only x ≡ true
  pub own_all : own_all x ≡ true
  pub link : list_all (λ i. names_certificate i && names_last x i) (items x) ≡ true

abbrev reply_with : Lists → Reply
reply_with x = record { structures = x.structures; pending = items x }

pub parts_of : (t : Table) (x : Lists) → lists (reply_with x) ≡ true → broken t x ≡ None → Parts t x
unfolding lists unknown_user numbers vector entries link
parts_of t x holds unbroken =
    let r = reply_with x in
    let ascend = and_parts (structures_ascend r) (pending_ascends r && (pending_once r && list_all is_planned (items x))) holds in
    let deeper = and_parts (pending_ascends r) (pending_once r && list_all is_planned (items x)) ascend.1 in
    let once = and_parts (pending_once r) (list_all is_planned (items x)) deeper.1 in
    let known = first_holds rule.UnknownUser (unknown_user t x) (later_rules t x) unbroken in
    let counted = first_holds rule.Numbers (numbers x) ((rule.Vector, vector t x) ∷ (rule.Entries, entries x) ∷ (rule.Link, link x) ∷ (rule.GroupRecord, group_records t x) ∷ []) known.1 in
    let raised = first_holds rule.Vector (vector t x) ((rule.Entries, entries x) ∷ (rule.Link, link x) ∷ (rule.GroupRecord, group_records t x) ∷ []) counted.1 in
    let listed = first_holds rule.Entries (entries x) ((rule.Link, link x) ∷ (rule.GroupRecord, group_records t x) ∷ []) raised.1 in
    let linked = first_holds rule.Link (link x) ((rule.GroupRecord, group_records t x) ∷ []) listed.1 in
    let numbered = and_parts (structures_numbered x) (pending_numbered x && (pending_next x && top_counts x)) counted.0 in
    let of_pending = and_parts (pending_numbered x) (pending_next x && top_counts x) numbered.1 in
    let next = and_parts (pending_next x) (top_counts x) of_pending.1 in
    let order = and_parts (all_in_order x) (own_above x && vectors_follow t x) raised.0 in
    let follows = and_parts (own_above x) (vectors_follow t x) order.1 in
    let top_first = and_parts (top_known x) (top_waiting x && (above_show x && (own_only x && own_all x))) listed.0 in
    let waits = and_parts (top_waiting x) (above_show x && (own_only x && own_all x)) top_first.1 in
    let show = and_parts (above_show x) (own_only x && own_all x) waits.1 in
    let own = and_parts (own_only x) (own_all x) show.1 in
    record {
      structures_ascend = once_ascending None (shown x) (sym (ap (λ us. ascends_after None us) (users_shown x.structures)) ∙ ascend.0);
      pending_once = once_each (pending x) (sym (ap each_once (users_pending (items x))) ∙ once.0);
      depths = sym (ap (λ ds. ascends_after None ds) (depths_pending (items x))) ∙ deeper.0;
      planned = once.1;
      known = (and_parts (list_all (is_known t) (shown x)) (list_all (is_known t) (pending x)) known.0).1;
      pending_numbered = of_pending.0;
      pending_next = next.0;
      top_counts = next.1;
      ordered = order.0;
      own_above = follows.0;
      vectors_follow = follows.1;
      top_known = top_first.0;
      top_waiting = waits.0;
      above_show = show.0;
      own_only = own.0;
      own_all = own.1;
      link = linked.0;
    }

module _ (t : Table) (x : Lists) (read : reply.Fits (reply_with x)) (holds : lists (reply_with x) ≡ true) (unbroken : broken t x ≡ None) where
  pub parts : Parts t x
  parts = parts_of t x holds unbroken

  to_pending : (q : Plan) → In q (map plan_in_item x.others ++ x.own.plan ∷ []) → In q (pending x)
  to_pending q i = subst (λ (ps : List Plan). In q ps) (sym (pending_plans x)) i

  from_pending : (q : Plan) → In q (pending x) → In q (map plan_in_item x.others ++ x.own.plan ∷ [])
  from_pending q i = subst (λ (ps : List Plan). In q ps) (pending_plans x) i

  pub shown_fits : (q : Plan) → In q (shown x) → plan.Fits q
  shown_fits q i = let z = in-map plan_shown x.structures q i in subst plan.Fits (sym z.2) (structure_plan_fits (reply_with x) read z.0 z.1)

  pub pending_fits : (q : Plan) → In q (pending x) → plan.Fits q
  pending_fits q i = let j = in-map plan_in_item (items x) q i in subst plan.Fits (sym j.2) (pending_plan_fits (reply_with x) read j.0 j.1)

  pub waiting_pending : (q : Plan) → In q (waiting x) → In q (pending x)
  waiting_pending q i = (in-filter (λ p. not (is_above x p)) q (pending x) i).0

  pub above_pending : (q : Plan) → In q (above x) → In q (pending x)
  above_pending q i = (in-filter (is_above x) q (pending x) i).0

  pub above_user : (i : PendingItem) → In i (items_above x) → i.plan.user < 64
  above_user i j = user_below i.plan (pending_fits i.plan (map-in plan_in_item (items x) i (in-filter (λ i. is_above x i.plan) i (items x) j).0))

  top_count : (u : ℕ) → Plans.version_of Plan Entry shape (top_plan x) u ≡ Plans.number_of Plan Entry shape u (by_plans x) + Count u (waiting x)
  top_count u =
      let v = version_top (top_plan x) u in
      elim (cases_lt u 64) [
        | inl k ↦ (
            let told = eqb-true (version_of u (top_vector x)) (number_of u x + (if waits x u then 1 else 0)) (below_at 64 (counts_at x) parts.top_counts u k) in
            let here = of_user u (top_vector x) k in
            let number = number_by_plans u x in
            let once = Plans.count-once Plan Entry shape u (pending x) parts.pending_once in
            let both = count_filter (is_above x) u (pending x) in
            let some = count_some u (waiting x) (omega arith) in
            omega arith)
        | inr k ↦ (
            let here = of_group u (top_vector x) k in
            let none = structure_absent u (shown x) (λ q i e. let l = user_below q (shown_fits q i) in absurd (omega arith)) in
            let none_waits = count_absent u (waiting x) (λ q i e. let l = user_below q (pending_fits q (waiting_pending q i)) in absurd (omega arith)) in
            omega arith)
      ]

  -- so the rules as counts and members hold of their plans
  pub rules_of : Plans.Rules Plan Entry shape (by_plans x)
  rules_of =
      record {
        structures_once = parts.structures_ascend;
        pending_once = subst (λ (ps : List Plan). Plans.EachOnce Plan Entry shape ps) (pending_plans x) parts.pending_once;
        top_in = λ q e. top_shown x.structures q e;
        top_none = λ e. top_nothing x.structures e;
        above_pending = λ q i. from_pending q (above_pending q i);
        below_pending = λ q i. from_pending q (waiting_pending q i);
        pending_cases = λ q i.
            elim (cases_Bool (is_above x q)) [
              | inl e ↦ inl (in-kept (is_above x) q (pending x) (to_pending q i) e)
              | inr e ↦ inr (in-kept (λ p. not (is_above x p)) q (pending x) (to_pending q i) (ap not e))
            ];
        parts = λ u. count_filter (is_above x) u (pending x) ∙ ap (Count u) (pending_plans x);
        above_ends = (
          filter (is_above x) (map plan_in_item x.others),
          (let e = ap (filter (is_above x)) (pending_plans x) ∙ filter-append (is_above x) (map plan_in_item x.others) (x.own.plan ∷ []) in rw parts.own_above at e),
        );
        of_pending = λ p i.
            let told = eqb-true (version_of p.user p.vector) p.number (all_in is_numbered (pending x) parts.pending_numbered p (to_pending p i)) in
            sym told ∙ sym (of_user p.user p.vector (user_below p (pending_fits p (to_pending p i))));
        next = λ p i.
            let told = eqb-true p.number (number_of p.user x + 1) (all_in (is_next x) (pending x) parts.pending_next p (to_pending p i)) in
            let number = number_by_plans p.user x in
            omega arith;
        of_top = top_count;
        chained =
            subst (λ (ps : List Plan). Plans.Chained Plan Entry shape (Plans.version_of Plan Entry shape (top_plan x)) ps) (sym (above_plans x))
            (chained_from (λ u. users_version u (top_vector x)) (Plans.version_of Plan Entry shape (top_plan x)) (map plan_in_item (items_above x)) (λ u. sym (version_top (top_plan x) u))
            (chained_of_next t (top_vector x) (items_above x) above_user parts.vectors_follow));
        top_only = λ e i.
            let told = all_in (λ e. lists_entry (entries_of (shown x)) e || lists_entry (entries_of (pending x)) e) (top_entries x) parts.top_known e (subst (λ (es : List Entry). In e es) (entries_top (top_plan x)) i) in
            elim (or_cases (lists_entry (entries_of (shown x)) e) (lists_entry (entries_of (pending x)) e) told) [
              | inl k ↦ inl (plan_in (shown x) e k)
              | inr k ↦ inr (let found = plan_in (pending x) e k in (found.0, from_pending found.0 found.1, found.2))
            ];
        top_waiting = λ p i. subst (λ (es : List Entry). In (entry_of p) es) (sym (entries_top (top_plan x))) (listed_of (top_entries x) (waiting x) parts.top_waiting p i);
        of_above = λ b p c e. (let w = shows_at x [] None b p c (above x) e parts.above_show in shows_plan x b w.0 p w.1);
        own_only = λ e i. plan_in (map plan_in_item x.others) e (all_in (lists_entry (other_entries x)) x.own.plan.entries parts.own_only e i);
        own_all = λ q i. listed_of x.own.plan.entries (map plan_in_item x.others) parts.own_all q i;
        one_each = λ p i. one_each p (pending_fits p (to_pending p i));
      }
