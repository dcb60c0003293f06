-- Parts of groups: what a client reads of a group is what the world of its line has.
use Rattle.std.proofs.Common.{◌≡◌, ℕ, ◌+◌, ◌<◌, ◌≤◌, List, [], ◌∷◌, ◌++◌, length, Option, Some, None, Bool, true, false, cond, refl, sym, ap, ◌∙◌, subst, inl, inr, arith, append_assoc, length-append}
use Rattle.std.specs.Prelude.{◌==◌, ◌&&◌, find, map, nat_lt, nat_le, if◌then◌else◌}
use Rattle.std.specs.List.{filter, list_any}
use Rattle.std.specs.Option.{option_and_then, option_map, option_map_or}
use Rattle.std.proofs.lemmas.Bool.{eqb-true, eq-eqb, ne_eqb, ltb-true, lt-ltb, le-ltb, cases_Bool, cases_eq, false≢true, true≢false, and_parts, and_from, and_left, and_right}
use Rattle.std.proofs.lemmas.List.{append-nil, map-append}
use Rattle.principals.specs.Table.{is_member}
use Rattle.layout.specs.Types.{Key}
use Rattle.version_order.specs.declared.plan.Entry.{Entry}
use Rattle.version_order.specs.declared.structure.GroupRecord.{GroupRecord}
use Rattle.version_order.specs.declared.vector.Component.{Component}
use Rattle.version_order.specs.Plan.{Plan}
use Rattle.version_order.specs.Structure.{Structure}
use Rattle.version_order.specs.Vector.{version_of}
use Rattle.update_cert.specs.Reading.{Reading, read_changes}
use Rattle.update_cert.specs.World.{Tree, genesis}
use Rattle.pending_list.specs.declared.signed.Signed.{Signed}
use Rattle.pending_list.specs.Groups.{raises, table_version, touches}
use Rattle.pending_list.specs.Reply.{PendingItem}
use Rattle.reply_rules.specs.Lists.{items, pending, shown, structure_of}
use Rattle.reply_rules.specs.Rules.{above, depth, each_has_next_vector, items_above, is_above, next_vector, same_vector, top_plan, top_vector}
use Rattle.reply_rules.proofs.Above.{above_plans}
use Rattle.reply_rules.proofs.SameVector.{same_vector_is}
use Rattle.client_tree.specs.Genesis.{first_handle}
use Rattle.client_tree.specs.View.{actor_of, comes_after, handle_of, named, newest, record_of, tree, tree_before}
use Rattle.agreement.specs.Runs.{AreAccepted, NoViewCollision, View, number_of, reply_of, user_of}
use Rattle.agreement.specs.Worlds.{IsHonest, NameFirst, Names, view_in, world}
use Rattle.agreement.proofs.Plans
use Rattle.agreement.proofs.Members.{Ascends, In, ascends_kept, ascends_same, in-filter, in-kept, in-left, in-map, in-middle, in-right, in-split, map-in}
use Rattle.agreement.proofs.Formed.{cert_fits, cert_user, record_positive}
use Rattle.agreement.proofs.ByPlans.{above_user, option_plan, parts, pending_plans, plan_in_item, plan_shown, shape, structure_by_plans}
use Rattle.agreement.proofs.Runs.{accepted_in, none_collide, of_view, valid_by_plans}
use Rattle.agreement.proofs.Lines.{cert_in_item}
use Rattle.agreement.proofs.TreeParts.{Part, judged_front, part_after, part_forbidden, part_untouched, parts_after, world-append, world_part}
use Rattle.agreement.proofs.LineItems.{IsOperation, bare, cut_whole, in_operations, in_run, in_whole, is_line, operations, operations_end, operations_plans, plan_line, same_kept, same_operation, whole, whole_ends, whole_length, whole_plans}
use Rattle.agreement.proofs.UserParts.{Base, alike_before, before_part, cut_end, judged, judged_from, named_is, structure_found, structure_shown, tree_part}
use Rattle.agreement.proofs.GroupVersions.{Newest, ascends_by, depths_ascend, newest_cases, next_group_version, no_fall, raises_is, record_listed, version_in}

-- ---- look-ups in a line and a run

pub item_at : ℕ → ℕ → List PendingItem → Option PendingItem
item_at u n is = find (λ i. (i.plan.user == u) && (i.plan.number == n)) is

item_found : (is : List PendingItem) (i : PendingItem) → In i is → ((j : PendingItem) → In j is → j.plan.user ≡ i.plan.user → j.plan.number ≡ i.plan.number → j ≡ i) → item_at i.plan.user i.plan.number is ≡ Some i
unfolding item_at
item_found [] i k o = absurd k
item_found (j ∷ is) i k o =
    elim (cases_Bool ((j.plan.user == i.plan.user) && (j.plan.number == i.plan.number))) [
      | inl t ↦ (
          let p = and_parts (j.plan.user == i.plan.user) (j.plan.number == i.plan.number) t in
          rw t (ap Some (o j (inl refl) (eqb-true j.plan.user i.plan.user p.0) (eqb-true j.plan.number i.plan.number p.1))))
      | inr f ↦ elim k [
        | inl e ↦ absurd (
            let t = and_from _ _ (eq-eqb j.plan.user i.plan.user (ap (λ (i : PendingItem). i.plan.user) (sym e))) (eq-eqb j.plan.number i.plan.number (ap (λ (i : PendingItem). i.plan.number) (sym e))) in
            true≢false (sym t ∙ f))
        | inr r ↦ rw f (item_found is i r (λ q m. o q (inr m)))
      ]
    ]

pub signed_at : ℕ → ℕ → List View → Option Structure
signed_at u n run = option_map (λ y. y.signed) (find (λ y. (user_of y == u) && (number_of y == n)) run)

signed_found : (run : List View) → AreAccepted run → (y : View) → In y run → signed_at (user_of y) (number_of y) run ≡ Some y.signed
unfolding signed_at
signed_found [] v y i = absurd i
signed_found (x ∷ older) v y (inl i) =
    rw (eq-eqb (user_of x) (user_of y) (ap (λ (w : View). user_of w) (sym i)), eq-eqb (number_of x) (number_of y) (ap (λ (w : View). number_of w) (sym i)))
    (ap (λ (w : View). Some w.signed) (sym i))
signed_found (x ∷ older) v y (inr i) =
    elim (cases_eq (user_of x) (user_of y)) [
      | inl e ↦ (
          let k = Plans.older_less Plan Entry shape (map of_view older) (of_view x) (valid_by_plans (x ∷ older) v) (of_view y) (map-in of_view older y i) (sym e) in
          rw (and_right (user_of x == user_of y) (number_of x == number_of y) (ne_eqb (number_of x) (number_of y) (λ m. omega arith)))
          (signed_found older v.1 y i))
      | inr e ↦ rw (and_left (user_of x == user_of y) (number_of x == number_of y) (ne_eqb (user_of x) (user_of y) e)) (signed_found older v.1 y i)
    ]

shown_found : (zs : List (Signed Structure)) (z : Signed Structure) → In z zs → ((y : Signed Structure) → In y zs → y.value.plan.user ≡ z.value.plan.user → y.value.plan ≡ z.value.plan)
    → Plans.EachOnce Plan Entry shape (map plan_shown zs) → find (λ y. y.value.plan.user == z.value.plan.user) zs ≡ Some z
shown_found [] z k o once = absurd k
shown_found (y ∷ zs) z (inl e) o once = rw (eq-eqb y.value.plan.user z.value.plan.user (ap (λ (z : Signed Structure). z.value.plan.user) (sym e))) (ap Some (sym e))
shown_found (y ∷ zs) z (inr r) o once =
    rw (ne_eqb y.value.plan.user z.value.plan.user (λ m. once.0 z.value.plan (map-in plan_shown zs z r) m)) (shown_found zs z r (λ q m. o q (inr m)) once.1)

one_if : (b : Bool) → b ≡ true → ◌≡◌ {A = ℕ} (if b then 1 else 0) 1
one_if b e = ap (λ b. if b then 1 else 0) e

-- what is kept is the same by tests that agree
pub kept_same : (f h : PendingItem → Bool) (is : List PendingItem) → ((i : PendingItem) → In i is → f i ≡ h i) → filter f is ≡ filter h is
kept_same f h [] each = refl
kept_same f h (i ∷ is) each =
    ap (λ b. if b then i ∷ filter f is else filter f is) (each i (inl refl))
    ∙ ap (λ (l : List PendingItem). if h i then i ∷ l else l) (kept_same f h is (λ j k. each j (inr k)))

module _ (reads : Reading) (key : Key) (run : List View) (first : NameFirst reads key) (v : AreAccepted run) (nc : NoViewCollision run) (all : (x : View) → In x run → IsHonest reads key x) where
  pub pending_in_line : (x : View) → In x run → (i : PendingItem) → In i (operations x) → In i (whole run x)
  pending_in_line x k i ki =
      let h = is_line run v nc x k in
      let p = h.has_pending i.plan (subst (λ l. In i.plan l) (operations_plans x) (map-in plan_in_item (operations x) i ki)) in
      let (j, kj, e) = in-map plan_in_item (whole run x) i.plan (subst (λ l. In i.plan l) (sym (whole_plans run x)) p) in
      let m : i ≡ j = same_operation run v nc i j (in_operations run v nc x k i ki) (in_whole run v nc x j kj) e in
      subst (λ z. In z (whole run x)) (sym m) kj

  -- operations are told apart by user and number in a line
  pub line_item : (x : View) → In x run → (i j : PendingItem) → In i (whole run x) → In j (whole run x) → j.plan.user ≡ i.plan.user → j.plan.number ≡ i.plan.number → j ≡ i
  line_item x k i j ki kj u n =
      let h = is_line run v nc x k in
      let in_plans = λ (q : PendingItem) (r : In q (whole run x)). subst (λ l. In q.plan l) (whole_plans run x) (map-in plan_in_item (whole run x) q r) in
      let pi = in_plans i ki in
      let pj = in_plans j kj in
      let ni = h.numbered i.plan pi in
      let nj = h.numbered j.plan pj in
      same_operation run v nc j i (in_whole run v nc x j kj) (in_whole run v nc x i ki)
      (Plans.unique Plan Entry shape (λ u. 0) (plan_line run x) h.chained j.plan i.plan pj pi u (sym nj ∙ n ∙ ni))

  -- the pending plans ascend by depth
  view_ascends : (x : View) → In x run → Ascends (λ (p : Plan). depth p) (pending x.lists)
  view_ascends x i =
      let a = (accepted_in run v x i).1 in
      depths_ascend None (pending x.lists) (parts x.table x.lists a.read a.lists a.rules).depths

  -- x is the view at hand, g a group
  module _ (x : View) (ix : In x run) (g : ℕ) (low : 64 ≤ g) (high : g < 96) where
    -- a plan's operation in x's line raises the group, as x judges it
    abbrev pub Raises : Plan → Bool
    Raises p = option_map_or (raises x.table g) (item_at p.user p.number (whole run x)) false

    abbrev pub group_version : Plan → ℕ
    group_version p = version_of g p.vector

    abbrev pub record_signed : Plan → Option GroupRecord
    record_signed p = option_and_then (λ z. record_of g z.groups) (signed_at p.user p.number run)

    abbrev pub recorded_version : Plan → ℕ
    recorded_version p = version_in (record_signed p)

    -- views whose line is a beginning of x's
    abbrev pub Good : Plans.View Plan → Type 0
    Good y = (a : List Plan) × (plan_line run x ≡ Plans.line Plan Entry shape (map of_view run) y ++ a)

    -- each of these plans has the version of the group that follows from the one before it, which is this
    abbrev Chain : ℕ → List Plan → Type 0
    Chain n ps = Plans.Raised Plan Entry shape Raises group_version recorded_version (Option GroupRecord) record_signed Good n ps

    abbrev version_top : Option Plan → ℕ
    version_top o = Plans.group_of Plan Entry shape Raises group_version recorded_version (Option GroupRecord) record_signed Good o

    down : Plans.Down Plan Entry shape Raises group_version recorded_version (Option GroupRecord) record_signed Good (map of_view run)
    down y z i j good k =
        let (a, e) = Plans.prefix Plan Entry shape (map of_view run) (valid_by_plans run v) (none_collide run v nc) y z i j k in
        (a ++ good.0, good.1 ∙ ap (λ l. l ++ good.0) e ∙ append_assoc (Plans.line Plan Entry shape (map of_view run) z) a good.0)

    raises_here : (i : PendingItem) → In i (whole run x) → Raises i.plan ≡ raises x.table g i
    raises_here i k = ap (λ o. option_map_or (raises x.table g) o false) (item_found (whole run x) i k (λ q l u n. line_item x ix i q k l u n))

    signed_record : (y : View) → In y run → record_signed y.lists.own.plan ≡ record_of g y.signed.groups
    signed_record y i = ap (option_and_then (λ z. record_of g z.groups)) (signed_found run v y i)

    shown_record : (y : View) → In y run → (z : Signed Structure) → In z y.lists.structures → record_signed z.value.plan ≡ record_of g z.value.groups
    shown_record y i z k =
        let (w, j, e, p, sh) = structure_shown reads key run first v nc all y i z k in
        ap record_signed (sym p) ∙ signed_record w j ∙ ap (λ (z : Structure). record_of g z.groups) e

    -- each good view judges its pending operations as x does
    alike : (y : View) → In y run → Good (of_view y) → (i : PendingItem) → In i (operations y) → raises y.table g i ≡ Raises i.plan
    alike y j good i k =
        let (c, ec, mc) = cut_whole run v nc x y good.0 good.1 in
        let ky = pending_in_line y j i k in
        let kx = subst (λ l. In i l) (sym ec) (in-left i (whole run y) c ky) in
        let (b, a, e) = in-split i (whole run y) ky in
        let m = judged reads key run first v nc all y j b i a e g i.cert.user in
        let n = judged reads key run first v nc all x ix b i (a ++ c) (ec ∙ ap (λ l. l ++ c) e ∙ append_assoc b (i ∷ a) c) g i.cert.user in
        raises_is y.table g i low high
        ∙ ap (λ b. list_any (touches g) i.cert.changes && b) (m ∙ sym n)
        ∙ sym (raises_is x.table g i low high)
        ∙ sym (raises_here i kx)

    alike_pending : (i : PendingItem) → In i (operations x) → raises x.table g i ≡ Raises i.plan
    alike_pending i k = sym (raises_here i (pending_in_line x ix i k))

    -- ---- versions of the group along the line

    follows_group : (y : View) → In y run → Good (of_view y) → (w : List Component) (is : List PendingItem) → ((i : PendingItem) → In i is → In i (items_above y.lists)) → each_has_next_vector y.table w is ≡ true
        → Chain (version_of g w) (map plan_in_item is)
    follows_group y j good w [] f t = tt
    follows_group y j good w (i ∷ is) f t =
        let q = and_parts (same_vector i.plan.vector (next_vector y.table i w)) (each_has_next_vector y.table i.plan.vector is) t in
        let a = (accepted_in run v y j).1 in
        let above_i = f i (inl refl) in
        let user = above_user y.table y.lists a.read a.lists a.rules i above_i in
        let n = next_group_version y.table i w g low high user (same_vector_is i.plan.vector (next_vector y.table i w) q.0) in
        let is_pending = (in-filter (λ (i : PendingItem). is_above y.lists i.plan) i (items y.lists) above_i).0 in
        let same : raises y.table g i ≡ Raises i.plan = alike y j good (bare i) (map-in bare (items y.lists) i is_pending) in
        (n ∙ ap (λ b. version_of g w + (if b then 1 else 0)) same, follows_group y j good i.plan.vector is (λ r k. f r (inr k)) q.1)

    group_top : (o : Option Plan) → version_top o ≡ version_of g (option_map_or (λ p. p.vector) o [])
    group_top None = refl
    group_top (Some t) = refl

    above_raise : (y : Plans.View Plan) → In y (map of_view run) → Good y
        → Chain (version_top y.top) y.above
    above_raise z i good =
        let (y, j, e) = in-map of_view run z i in
        let a = (accepted_in run v y j).1 in
        let c = follows_group y j (subst (λ w. Good w) e good) (top_vector y.lists) (items_above y.lists) (λ i k. k) (parts y.table y.lists a.read a.lists a.rules).vectors_follow in
        subst (λ (w : Plans.View Plan). Chain (version_top w.top) w.above) (sym e)
        (subst (λ n. Chain n (above y.lists)) (sym (group_top (top_plan y.lists)))
        (subst (λ (ps : List Plan). Chain (version_of g (top_vector y.lists)) ps) (sym (above_plans y.lists)) c))

    own_is_operation : (y : View) → In (bare y.lists.own) (operations y)
    own_is_operation y = subst (λ l. In (bare y.lists.own) l) (sym (operations_end y)) (in-middle (bare y.lists.own) (map bare y.lists.others) [])

    own_raises : (y : View) → In y run → Good (of_view y) → raises y.table g y.lists.own ≡ Raises y.lists.own.plan
    own_raises y j good = alike y j good (bare y.lists.own) (own_is_operation y)

    -- the new record, and the one that is kept
    own_new : (y : View) → (j : In y run) → Good (of_view y) → Raises y.lists.own.plan ≡ true
        → (r : GroupRecord) × (record_signed y.lists.own.plan ≡ Some r) × (r.version ≡ version_of g y.lists.own.plan.vector) × Names reads g r.handle (tree reads (all y j).users (view_in key y))
    own_new y j good t =
        let (r, is, version, names) = (all y j).raised g (own_raises y j good ∙ t) in
        (r, signed_record y j ∙ is, version, names)

    own_kept : (y : View) → In y run → Good (of_view y) → Raises y.lists.own.plan ≡ false
        → record_signed y.lists.own.plan ≡ option_and_then (λ z. record_of g z.value.groups) (structure_of (user_of y) y.lists)
    own_kept y j good f = signed_record y j ∙ (all y j).kept g (own_raises y j good ∙ f)

    records_new : (y : Plans.View Plan) → In y (map of_view run) → Good y → Raises y.own ≡ true → recorded_version y.own ≡ group_version y.own
    records_new z i good =
        let (y, j, e) = in-map of_view run z i in
        subst (λ (w : Plans.View Plan). Raises w.own ≡ true → recorded_version w.own ≡ group_version w.own) (sym e)
        (λ t. (let (r, is, version, names) = own_new y j (subst (λ w. Good w) e good) t in ap version_in is ∙ version))

    records_kept : (y : Plans.View Plan) → In y (map of_view run) → Good y → Raises y.own ≡ false
        → recorded_version y.own ≡ Plans.record_in Plan Entry shape Raises group_version recorded_version (Option GroupRecord) record_signed Good (Plans.structure_of Plan Entry shape y.own.user y.structures)
    records_kept z i good =
        let (y, j, e) = in-map of_view run z i in
        subst (λ (w : Plans.View Plan). Raises w.own ≡ false → recorded_version w.own ≡ Plans.record_in Plan Entry shape Raises group_version recorded_version (Option GroupRecord) record_signed Good (Plans.structure_of Plan Entry shape w.own.user w.structures)) (sym e)
        (λ f. ap version_in (own_kept y j (subst (λ w. Good w) e good) f) ∙ go y j (structure_of (user_of y) y.lists) refl
        ∙ ap (λ o. Plans.record_in Plan Entry shape Raises group_version recorded_version (Option GroupRecord) record_signed Good o) (sym (structure_by_plans (user_of y) y.lists.structures)))
      where
        go : (y : View) → In y run → (o : Option (Signed Structure)) → structure_of (user_of y) y.lists ≡ o
            → version_in (option_and_then (λ (z : Signed Structure). record_of g z.value.groups) o) ≡ Plans.record_in Plan Entry shape Raises group_version recorded_version (Option GroupRecord) record_signed Good (option_plan o)
        go y j None e = refl
        go y j (Some z) e = ap version_in (sym (shown_record y j z (structure_found reads key run first v nc all (user_of y) y.lists.structures z e).0))

    records_carried : (y : Plans.View Plan) → In y (map of_view run) → Good y → Raises y.own ≡ false → (p : Plan) → In p y.structures → y.own.user ≡ p.user → record_signed y.own ≡ record_signed p
    records_carried z i good =
        let (y, j, e) = in-map of_view run z i in
        subst (λ (w : Plans.View Plan). Raises w.own ≡ false → (p : Plan) → In p w.structures → w.own.user ≡ p.user → record_signed w.own ≡ record_signed p) (sym e)
        (λ f p k u.
        (let (s, l, m) = in-map plan_shown y.lists.structures p k in
        let a = (accepted_in run v y j).1 in
        let once = (parts y.table y.lists a.read a.lists a.rules).structures_ascend in
        let found : structure_of (user_of y) y.lists ≡ Some s
        = ap (λ u. structure_of u y.lists) (u ∙ ap (λ (p : Plan). p.user) m)
        ∙ shown_found y.lists.structures s l (λ q h n. Plans.once Plan Entry shape (shown y.lists) once q.value.plan s.value.plan (map-in plan_shown y.lists.structures q h) (map-in plan_shown y.lists.structures s l) n) once in
        own_kept y j (subst (λ w. Good w) e good) f ∙ ap (option_and_then (λ (z : Signed Structure). record_of g z.value.groups)) found ∙ sym (shown_record y j s l) ∙ ap record_signed (sym m)))

    -- ---- the part

    -- the version in the newest record
    abbrev pub newest_version : ℕ
    newest_version = version_in (newest g x.lists.structures)

    -- what comes after the group's part, by plans
    abbrev pub Comes : Plan → Bool
    Comes p = Raises p && nat_lt newest_version (version_of g p.vector)

    self : Good (of_view x)
    self = ([], sym (append-nil (plan_line run x)))

    line_chained : Chain 0 (plan_line run x)
    line_chained =
        Plans.raised_line Plan Entry shape Raises group_version recorded_version (Option GroupRecord) record_signed Good (map of_view run) (valid_by_plans run v) (none_collide run v nc) down above_raise (of_view x) (in_run run v nc x ix) self

    -- along the line the plans that raise the group ascend by its version
    chained_ascends : (n : ℕ) (l : List Plan) → Chain n l → Ascends group_version (filter Raises l)
    chained_ascends n [] h = tt
    chained_ascends n (p ∷ l) h = go (Raises p) (chained_ascends (group_version p) l h.1)
      where
        go : (b : Bool) → Ascends group_version (filter Raises l) → Ascends group_version (cond b (p ∷ filter Raises l) (filter Raises l))
        go false ih = ih
        go true ih = (
          (λ q i.
              (let (k, t) = in-filter Raises q l i in
              let b = (Plans.version_bounds Plan Entry shape Raises group_version recorded_version (Option GroupRecord) record_signed Good (group_version p) l h.1 q k).0 in
              let st = one_if (Raises q) t in
              omega arith)),
          ih,
        )

    pending_plan_in_line : (q : Plan) → In q (pending x.lists) → In q (plan_line run x)
    pending_plan_in_line q k =
        let (i, l, e) = in-map plan_in_item (items x.lists) q k in
        let there = pending_in_line x ix (bare i) (map-in bare (items x.lists) i l) in
        subst (λ p. In p (plan_line run x)) (sym e) (subst (λ l. In i.plan l) (whole_plans run x) (map-in plan_in_item (whole run x) (bare i) there))

    -- and so do the pending ones
    pending_ascends : Ascends group_version (filter Comes (pending x.lists))
    pending_ascends =
        ascends_by (λ (p : Plan). depth p) group_version (filter Comes (pending x.lists)) each
        (ascends_kept (λ (p : Plan). depth p) Comes (pending x.lists) (view_ascends x ix))
      where
        each : (p q : Plan) → In p (filter Comes (pending x.lists)) → In q (filter Comes (pending x.lists)) → depth p < depth q → group_version p < group_version q
        each p q i j less =
            let (kp, tp) = in-filter Comes p (pending x.lists) i in
            let (kq, tq) = in-filter Comes q (pending x.lists) j in
            let a = (accepted_in run v x ix).1 in
            let no_less = no_fall g (shown x.lists ++ pending x.lists) (parts x.table x.lists a.read a.lists a.rules).ordered p q (in-right p (shown x.lists) (pending x.lists) kp) (in-right q (shown x.lists) (pending x.lists) kq) less in
            elim (cases_eq (group_version p) (group_version q)) [
              | inl e ↦ absurd (
                  let same = Plans.one_raises Plan Entry shape Raises group_version recorded_version (Option GroupRecord) record_signed Good 0 (plan_line run x) line_chained p q (pending_plan_in_line p kp) (pending_plan_in_line q kq)
                  (and_parts (Raises p) (nat_lt newest_version (version_of g p.vector)) tp).0 (and_parts (Raises q) (nat_lt newest_version (version_of g q.vector)) tq).0 e in
                  let d = ap (λ (p : Plan). depth p) same in
                  omega arith)
              | inr n ↦ omega arith
            ]

    -- the operations of the rest of a line that raise the group are those of the pending ones that come after its part
    same_rest : (before a : List Plan) → plan_line run x ≡ before ++ a
        → ((q : Plan) → In q a → Raises q ≡ true → In q (pending x.lists) × (newest_version < version_of g q.vector))
        → ((q : Plan) → In q (pending x.lists) → Raises q ≡ true → newest_version < version_of g q.vector → In q a)
        → filter Raises a ≡ filter Comes (pending x.lists)
    same_rest before a e f h =
        ascends_same group_version (filter Raises a) (filter Comes (pending x.lists))
        (chained_ascends (Plans.last_raised Plan Entry shape Raises group_version recorded_version (Option GroupRecord) record_signed Good 0 before) a
        (Plans.raised-back Plan Entry shape Raises group_version recorded_version (Option GroupRecord) record_signed Good 0 before a
        (subst (λ (l : List Plan). Chain 0 l) e line_chained)))
        pending_ascends
        (λ q i.
        (let (k, t) = in-filter Raises q a i in
        let (p, l) = f q k t in
        in-kept Comes q (pending x.lists) p (and_from _ _ t (lt-ltb _ _ l))))
        (λ q i.
        (let (k, t) = in-filter Comes q (pending x.lists) i in
        let w = and_parts (Raises q) (nat_lt newest_version (version_of g q.vector)) t in
        in-kept Raises q a (h q k w.0 (ltb-true _ _ w.1)) w.0))

    -- what comes after the part
    group_comes_after : (i : PendingItem) → In i (operations x) → comes_after (view_in key x) g i ≡ Comes i.plan
    unfolding comes_after
    group_comes_after i k = rw (le-ltb g 64 low) (ap (λ b. b && nat_lt newest_version (version_of g i.plan.vector)) (alike_pending i k))

    kept_pending : filter (λ (i : PendingItem). Comes i.plan) (operations x) ≡ filter (comes_after (view_in key x) g) (operations x)
    kept_pending = kept_same (λ (i : PendingItem). Comes i.plan) (comes_after (view_in key x) g) (operations x) (λ i k. sym (group_comes_after i k))

    -- from a cut of the line
    base_from : (front c : List PendingItem) → whole run x ≡ front ++ c → length front < length (whole run x) → filter Raises (map plan_in_item c) ≡ filter Comes (pending x.lists)
        → world reads key (map cert_in_item front) g ≡ named reads (all x ix).users (view_in key x) g
        → Base reads key x (whole run x) g (λ i. Raises i.plan) (comes_after (view_in key x) g) (named reads (all x ix).users (view_in key x) g)
    base_from front c e l f w =
        let (b, eb) = whole_ends run v nc x ix in
        let lb = ap length eb in
        let (r, er, fr) = cut_end front c b (bare x.lists.own) (sym e ∙ eb) (omega arith) in
        let kept = same_kept run v nc Raises Comes c (operations x) (λ q h. in_whole run v nc x q (subst (λ l. In q l) (sym e) (in-right q front c h))) (in_operations run v nc x ix)
        (f ∙ ap (filter Comes) (sym (bare_pending x))) in
        let own_in : In (bare x.lists.own) c = subst (λ l. In (bare x.lists.own) l) (sym er) (in-middle (bare x.lists.own) r []) in
        record {
          front = front;
          rest = r;
          is_whole = e ∙ ap (λ t. front ++ t) er;
          own_alike =
              (elim (cases_Bool (Raises x.lists.own.plan)) [
                | inl t ↦ (
                    let i = subst (λ l. In (bare x.lists.own) l) kept (in-kept (λ (i : PendingItem). Raises i.plan) (bare x.lists.own) c own_in t) in
                    t ∙ sym (in-filter (λ (i : PendingItem). Comes i.plan) (bare x.lists.own) (operations x) i).1)
                | inr n ↦ n ∙ sym (and_left (Raises x.lists.own.plan) _ n)
              ]) ∙ sym (group_comes_after (bare x.lists.own) (own_is_operation x));
          alike = ap (filter (λ (i : PendingItem). Raises i.plan)) (sym er) ∙ kept ∙ kept_pending;
          starts = w;
        }
      where
        bare_pending : (x : View) → map plan_in_item (operations x) ≡ pending x.lists
        bare_pending x = operations_plans x ∙ sym (pending_plans x.lists)

    most_recorded : (r : GroupRecord) → newest g x.lists.structures ≡ Some r → (n : Newest g x.lists.structures r) → (p : Plan) → In p (shown x.lists) → recorded_version p ≤ r.version
    most_recorded r e n p k =
        let (z, l, m) = in-map plan_shown x.lists.structures p k in
        let q = n.most z l in
        let c = ap version_in (ap record_signed m ∙ shown_record x ix z l) in
        omega arith

    handle_of_group : (o : Option GroupRecord) → newest g x.lists.structures ≡ o → handle_of (view_in key x) g ≡ option_map_or (λ r. r.handle) o (first_handle g key)
    handle_of_group o e = rw (le-ltb g 64 low) (ap (λ o. option_map_or (λ r. r.handle) o (first_handle g key)) e)

    not_user_0 : {A : Type 0} → g ≡ 0 → A
    not_user_0 e = absurd (omega arith)

    -- where each shorter line's part of the group is known
    pub group_base : ((w : View) → (j : In w run) → length (whole run w) < length (whole run x) → tree reads (all w j).users (view_in key w) g ≡ world reads key (map cert_in_item (whole run w)) g)
        → Base reads key x (whole run x) g (λ i. Raises i.plan) (comes_after (view_in key x) g) (named reads (all x ix).users (view_in key x) g)
    group_base ih =
        elim (newest_cases g x.lists.structures) [
          | inl h ↦ (
              let zero_version = ap version_in h.0 in
              let f = same_rest [] (plan_line run x) refl
              (λ q k t.
              (let b : 0 < version_of g q.vector = Plans.raised_version Plan Entry shape Raises group_version recorded_version (Option GroupRecord) record_signed Good (map of_view run) (valid_by_plans run v) (none_collide run v nc) down above_raise records_new records_kept records_carried (of_view x) (in_run run v nc x ix) self q k t in
              let p = Plans.still_pending Plan Entry shape Raises group_version recorded_version (Option GroupRecord) record_signed Good (map of_view run) (valid_by_plans run v) (none_collide run v nc) down above_raise records_new records_kept records_carried (of_view x) (in_run run v nc x ix) self 0
              (λ p j.
              (let (z, l, m) = in-map plan_shown x.lists.structures p j in
              let c = ap version_in (ap record_signed m ∙ shown_record x ix z l ∙ h.1 z l) in
              omega arith)) q k t b in
              (subst (λ l. In q l) (sym (pending_plans x.lists)) p, omega arith)))
              (λ q k t l. pending_plan_in_line q k) in
              let (b, e) = whole_ends run v nc x ix in
              let le = ap length e ∙ length-append b (bare x.lists.own ∷ []) in
              base_from [] (whole run x) refl (omega arith) (ap (filter Raises) (whole_plans run x) ∙ f)
              (sym (named_is reads key x (all x ix) g (first_handle g key) (genesis key) (handle_of_group None h.0) (first.named g high) (λ e. not_user_0 e))))
          | inr h ↦ (
              let (r, e, n) = h in
              let ve = ap version_in e in
              let z = n.structure in
              let sr = shown_record x ix z n.shown ∙ n.has in
              let sv : recorded_version z.value.plan ≡ r.version = ap version_in sr in
              let positive = record_positive (reply_of x) (accepted_in run v x ix).1.read z n.shown r (record_listed g z.value.groups r n.has) in
              let (w', iw, gw, tw, hw, sh, (a, ea, fa, ha)) = Plans.group_part Plan Entry shape Raises group_version recorded_version (Option GroupRecord) record_signed Good (map of_view run) (valid_by_plans run v) (none_collide run v nc) down above_raise records_new records_kept records_carried (of_view x) (in_run run v nc x ix) self z.value.plan (map-in plan_shown x.lists.structures z n.shown) (omega arith)
              (λ p k. (let m = most_recorded r e n p k in omega arith)) in
              let (w, jw, ew) = in-map of_view run w' iw in
              let la : length (plan_line run w) < length (plan_line run x) = subst (λ u. length (Plans.line Plan Entry shape (map of_view run) u) < length (plan_line run x)) ew sh in
              let lx = whole_length run x in
              let lw = whole_length run w in
              let ea' = subst (λ u. plan_line run x ≡ Plans.line Plan Entry shape (map of_view run) u ++ a) ew ea in
              let (c, ec, mc) = cut_whole run v nc x w a ea' in
              let f = same_rest (plan_line run w) a ea'
              (λ q k t. (let m = fa q k t in let l = m.1 in (subst (λ l. In q l) (sym (pending_plans x.lists)) m.0, omega arith)))
              (λ q k t l. ha q (subst (λ l. In q l) (pending_plans x.lists) k) (omega arith)) in
              let tw' : Raises w.lists.own.plan ≡ true = subst (λ (u : Plans.View Plan). Raises u.own ≡ true) ew tw in
              let gw' = subst (λ u. Good u) ew gw in
              let hw' : record_signed w.lists.own.plan ≡ record_signed z.value.plan = subst (λ (u : Plans.View Plan). record_signed u.own ≡ record_signed z.value.plan) ew hw in
              let (q, is, version, names) = own_new w jw gw' tw' in
              let same : Some q ≡ Some r = sym is ∙ hw' ∙ sr in
              let handles = handle_in_some same in
              base_from (whole run w) c ec (omega arith) (ap (filter Raises) mc ∙ f)
              (sym (ih w jw (omega arith))
              ∙ sym (named_is reads key x (all x ix) g q.handle (tree reads (all w jw).users (view_in key w)) (handle_of_group (Some r) e ∙ sym handles) names (λ e. not_user_0 e))))
        ]
      where
        handle_in_some : {q r : GroupRecord} → Some q ≡ Some r → q.handle ≡ r.handle
        handle_in_some e = cc

    -- an operation that doesn't raise the group leaves its part
    untouched : (i : PendingItem) → In i (whole run x) → Raises i.plan ≡ false → (part : Part) → part_after (actor_of x.table i) g (read_changes reads i.cert.changes) part ≡ part
    untouched i k f part =
        let o = in_whole run v nc x i k in
        let a = (accepted_in run v o.1.0 o.1.1).1 in
        let user = cert_user_below o in
        let judged_out = sym (raises_is x.table g i low high) ∙ sym (raises_here i k) ∙ f in
        elim (cases_Bool (list_any (touches g) i.cert.changes)) [
          | inr n ↦ part_untouched reads (actor_of x.table i) g i.cert.changes part n
          | inl t ↦ (
              let no_member : is_member x.table g i.cert.user (table_version i.plan) ≡ false = second (list_any (touches g) i.cert.changes) (is_member x.table g i.cert.user (table_version i.plan)) t judged_out in
              part_forbidden (actor_of x.table i) g (read_changes reads i.cert.changes) part
              (record { other = λ e. omega arith; outside = and_right (nat_le 64 g) _ (and_right (nat_le 64 g) _ no_member) }))
        ]
      where
        second : (b c : Bool) → b ≡ true → (b && c) ≡ false → c ≡ false
        second true c e f = f
        second false c e f = absurd (false≢true e)

        cert_user_below : IsOperation run v nc i → i.cert.user < 64
        cert_user_below o =
            let a = (accepted_in run v o.1.0 o.1.1).1 in
            let fits = cert_fits (reply_of o.1.0) a.read o.0 o.1.2 in
            let below = cert_user o.0.cert fits in
            let same = ap (λ (i : PendingItem). i.cert.user) o.2 in
            omega arith

    -- the group's part, from a base
    module _ (b : Base reads key x (whole run x) g (λ i. Raises i.plan) (comes_after (view_in key x) g) (named reads (all x ix).users (view_in key x) g)) where
      own_leaves : comes_after (view_in key x) g (bare x.lists.own) ≡ false → (part : Part) → part_after (actor_of x.table x.lists.own) g (read_changes reads x.lists.own.cert.changes) part ≡ part
      own_leaves e part = untouched (bare x.lists.own) (pending_in_line x ix (bare x.lists.own) (own_is_operation x)) (b.own_alike ∙ e) part

      pub group_whole : tree reads (all x ix).users (view_in key x) g ≡ world reads key (map cert_in_item (whole run x)) g
      group_whole =
          let front = b.front in
          let rest = b.rest ++ bare x.lists.own ∷ [] in
          tree_part reads key x (all x ix).users g own_leaves
          ∙ sym (ap (λ z. world reads key (map cert_in_item z) g) b.is_whole
          ∙ ap (λ z. world reads key z g) (map-append cert_in_item front rest)
          ∙ ap (λ (z : Tree). z g) (world-append reads (genesis key) (map cert_in_item front) (map cert_in_item rest))
          ∙ world_part reads (actor_of x.table) (λ i. Raises i.plan) g (world reads key (map cert_in_item front)) rest (judged_from reads key run first v nc all x ix front rest b.is_whole)
          (λ i k f part. untouched i (subst (λ z. In i z) (sym b.is_whole) (in-right i front rest k)) f part)
          ∙ ap (λ z. parts_after reads (actor_of x.table) g z (world reads key (map cert_in_item front) g)) b.alike
          ∙ ap (parts_after reads (actor_of x.table) g (filter (comes_after (view_in key x) g) (operations x))) b.starts)

      pub group_before : tree_before reads (all x ix).users (view_in key x) g ≡ world reads key (map cert_in_item (b.front ++ b.rest)) g
      group_before =
          let front = b.front in
          let rest = b.rest in
          before_part reads key x (all x ix).users g
          ∙ sym (ap (λ z. world reads key z g) (map-append cert_in_item front rest)
          ∙ ap (λ (z : Tree). z g) (world-append reads (genesis key) (map cert_in_item front) (map cert_in_item rest))
          ∙ world_part reads (actor_of x.table) (λ i. Raises i.plan) g (world reads key (map cert_in_item front)) rest
          (judged_front reads (actor_of x.table) (world reads key (map cert_in_item front)) rest (bare x.lists.own ∷ []) (judged_from reads key run first v nc all x ix front (rest ++ bare x.lists.own ∷ []) b.is_whole))
          (λ i k f part. untouched i (subst (λ z. In i z) (sym b.is_whole) (in-right i front (rest ++ bare x.lists.own ∷ []) (in-left i rest (bare x.lists.own ∷ []) k))) f part)
          ∙ ap (λ z. parts_after reads (actor_of x.table) g z (world reads key (map cert_in_item front) g)) (alike_before reads key x (whole run x) g (λ i. Raises i.plan) (comes_after (view_in key x) g) (named reads (all x ix).users (view_in key x) g) b)
          ∙ ap (parts_after reads (actor_of x.table) g (filter (comes_after (view_in key x) g) (map bare x.lists.others))) b.starts)
