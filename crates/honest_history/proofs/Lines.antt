-- The lines of views over replies of one server are beginnings of what it placed.
use Rattle.std.proofs.Common.{◌≡◌, ℕ, ◌≤◌, List, [], ◌∷◌, ◌++◌, map, reverse, Option, Some, None, true, false, refl, sym, ap, ◌∙◌, subst, inl, inr, arith}
use Rattle.std.specs.Prelude.{◌==◌, ◌&&◌, filter_map, not}
use Rattle.std.specs.List.{Contains, filter}
use Rattle.std.specs.Option.{option_map_or}
use Rattle.std.proofs.lemmas.Bool.{eqb-true, lt-ltb, le-ltb, cases_Bool, and_parts, eq-eqb, and_from}
use Rattle.std.proofs.lemmas.List.{map-append, reverse-append}
use Rattle.version_order.specs.Plan.{Plan}
use Rattle.version_order.specs.Structure.{Structure}
use Rattle.version_order.specs.Vector.{depth}
use Rattle.update_cert.specs.Cert.{Cert}
use Rattle.pending_list.specs.declared.signed.Signed.{Signed}
use Rattle.pending_list.specs.Reply.{PendingItem, top}
use Rattle.pending_list.proofs.Highest.{top_is}
use Rattle.layout.specs.Types.{Key}
use Rattle.reply_rules.specs.Lists.{Lists}
use Rattle.reply_rules.specs.Rules.{items_above, top_plan, top_vector}
use Rattle.consistency_server.specs.Event.{Event, Placed, Committed, committed, structures}
use Rattle.consistency_server.specs.State.{next_item, state_after}
use Rattle.consistency_server.specs.History.{events}
use Rattle.consistency_server.specs.Answers.{Call}
use Rattle.agreement.specs.Runs.{View, number_of, user_of}
use Rattle.agreement.specs.Runs as runs
use Rattle.agreement.specs.Lines.{IsBeginning, line, line_at}
use Rattle.agreement.proofs.Members.{In, contains_in, in-map, map-in, of_all}
use Rattle.honest_history.specs.Placed.{as_placed, placed, placed_by}
use Rattle.honest_history.specs.Honest.{Naming}
use Rattle.honest_history.specs.Served.{IsHonestHistory}
use Rattle.honest_history.specs.OneLine.{AreOver, IsOver}
use Rattle.honest_history.proofs.Chains.{Descending, beyond, cut}
use Rattle.honest_history.proofs.Events.{latests_after}
use Rattle.honest_history.proofs.Good.{items}
use Rattle.honest_history.proofs.Members.{filter_all, find_some, map_reverse}
use Rattle.honest_history.proofs.OrderRules.{items_above_are}
use Rattle.honest_history.proofs.Placing.{deeper_new, snapshot}
use Rattle.honest_history.proofs.Reached.{Reached, reach, reached, reached_before}
use Rattle.honest_history.proofs.Timeline.{number, place, user}
use Rattle.honest_history.proofs.Tops.{At, Snapshot, Without, lists_at, placed_at, plan_depth, top_cases, vector_of}

abbrev cert_of_item : PendingItem → Cert
cert_of_item i = i.cert

-- of these operations, the newest first, those up to a depth, in order
abbrev up_to : ℕ → List PendingItem → List Cert
up_to d is = map cert_of_item (reverse (filter (λ i. not (beyond d i)) is))

-- ---- one view

module _ (s : Snapshot) where
  abbrev x : Lists
  x = lists_at s

  abbrev is : List PendingItem
  is = placed_at s

  abbrev d : ℕ
  d = depth (top_vector x)

  top_structure : (p : Plan) → top_plan x ≡ Some p → (z : Signed Structure) × In z s.structures × (z.value.plan ≡ p)
  top_structure p e = go (top s.structures) refl e
    where
      go : (o : Option (Signed Structure)) → top s.structures ≡ o → option_map_or (λ z. Some z.value.plan) o None ≡ Some p → (z : Signed Structure) × In z s.structures × (z.value.plan ≡ p)
      go None h k = cc
      go (Some z) h k = (z, contains_in z s.structures (top_is s.structures z h).there, cc)

  abbrev of_top : (ℕ → ℕ → List Cert) → Option Plan → List Cert
  of_top lines o = option_map_or (λ t. lines t.user t.number) o []

  -- all of them, as those up to a depth and those beyond it
  parted : up_to d is ++ map cert_of_item (items_above x) ≡ map cert_of_item (reverse is)
  parted =
      ap (λ l. up_to d is ++ map cert_of_item l) (items_above_are s)
      ∙ sym (map-append cert_of_item (reverse (filter (λ i. not (beyond d i)) is)) (reverse (filter (beyond d) is)))
      ∙ ap (map cert_of_item) (sym (reverse-append (filter (beyond d) is) (filter (λ i. not (beyond d i)) is)) ∙ ap reverse (cut d is s.descending))

  -- the line of top's view, and then the operations above, are the operations up to the own one
  pub plan_line : (lines : ℕ → ℕ → List Cert) → ((z : Signed Structure) → In z s.structures → lines z.value.plan.user z.value.plan.number ≡ up_to (plan_depth z.value.plan) is)
      → of_top lines (top_plan x) ++ map cert_of_item (items_above x) ≡ map cert_of_item (reverse is)
  plan_line lines h =
      elim (top_cases s) [
        | Without f g ↦ (
            let w : d ≡ 0 = ap (λ o. depth (vector_of o)) f in
            ap (λ o. of_top lines o ++ map cert_of_item (items_above x)) f
            ∙ ap (map cert_of_item) (items_above_are s ∙ ap reverse (filter_all (beyond d) is (λ i k. let p = s.placing.deep i k in lt-ltb d (place i) (omega arith)))))
        | At k ki kd f g ↦ (
            let (z, zi, e) = top_structure k.plan f in
            let w : d ≡ place k = ap (λ o. depth (vector_of o)) f in
            let v : plan_depth z.value.plan ≡ d = ap plan_depth e ∙ sym w in
            ap (λ o. of_top lines o ++ map cert_of_item (items_above x)) f
            ∙ ap (λ (p : Plan). lines p.user p.number ++ map cert_of_item (items_above x)) (sym e)
            ∙ ap (λ l. l ++ map cert_of_item (items_above x)) (h z zi)
            ∙ ap (λ n. up_to n is ++ map cert_of_item (items_above x)) v
            ∙ parted)
      ]

-- ---- all views

-- all are of at most the depth of the first
all_within : (i : PendingItem) (is : List PendingItem) → Descending (i ∷ is) → filter (λ j. not (beyond (place i) j)) (i ∷ is) ≡ i ∷ is
all_within i is p = filter_all (λ j. not (beyond (place i) j)) (i ∷ is) (λ j h. elim h [
  | inl e ↦ (let m = ap place e in ap not (le-ltb (place i) (place j) (omega arith)))
  | inr k ↦ (let m = p.0 j k in ap not (le-ltb (place i) (place j) (omega arith)))
])

module _ (naming : Naming) (pinned : Key) where
  in_since : (later first : List Event) (i : PendingItem) → In i (items pinned first) → In i (items pinned (later ++ first))
  in_since [] first i h = h
  in_since (Placed c ∷ later) first i h = inr (in_since later first i h)
  in_since (Committed z ∷ later) first i h = in_since later first i h

  -- what was placed since is beyond what was placed before
  since_beyond : (later first : List Event) (i : PendingItem) (d : ℕ) → Reached naming pinned (later ++ first) → In i (items pinned first) → d ≤ place i
      → filter (λ j. not (beyond d j)) (items pinned (later ++ first)) ≡ filter (λ j. not (beyond d j)) (items pinned first)
  since_beyond [] first i d r h le = refl
  since_beyond (Placed c ∷ later) first i d r h le =
      let es : List Event = later ++ first in
      let g = (reached naming pinned es r.2).0 in
      let far = deeper_new pinned es c g r.0 i (in_since later first i h) in
      rw (lt-ltb d (place (next_item (state_after pinned es) c)) (omega arith)) (since_beyond later first i d r.2 h le)
  since_beyond (Committed z ∷ later) first i d r h le = since_beyond later first i d r.3 h le

  module _ (es : List Event) (r : Reached naming pinned es) where
    abbrev all : List PendingItem
    all = items pinned es

    -- it is the operation of one of these views
    abbrev IsSeen : List View → PendingItem → Type 0
    IsSeen run i = (y : View) × In y run × (y.lists.own.plan ≡ i.plan)

    -- the operation of a view is among those that were placed
    own_there : (older : List View) (x : View) (o : IsOver pinned es older x) → In (next_item (state_after pinned o.earlier) o.cert) all
    own_there older x o = subst (λ es. In (next_item (state_after pinned o.earlier) o.cert) (items pinned es)) (sym o.since.1) (in_since o.since.0 (Placed o.cert ∷ o.earlier) (next_item (state_after pinned o.earlier) o.cert) (inl refl))

    -- a structure of its reply is of an earlier view's operation
    shown_seen : (older : List View) (x : View) (o : IsOver pinned es older x) → ((y : View) → In y older → y.signed.plan ≡ y.lists.own.plan) → (z : Signed Structure) → In z (structures o.earlier) → (y : View) × In y older × (y.lists.own.plan ≡ z.value.plan)
    shown_seen older x o signed z h =
        let here : In z x.lists.structures = subst (λ (l : Lists). In z l.structures) (sym o.lists) h in
        let was = of_all (Contains (map (λ (y : View). y.signed) older)) (runs.structures x) o.released z.value (map-in (λ (z : Signed Structure). z.value) x.lists.structures z here) in
        let (y, yi, same) = in-map (λ (y : View). y.signed) older z.value (contains_in z.value (map (λ (y : View). y.signed) older) was) in
        (y, yi, sym (signed y yi) ∙ ap (λ (z : Structure). z.plan) (sym same))

    all_signed : (run : List View) → AreOver pinned es run → (y : View) → In y run → y.signed.plan ≡ y.lists.own.plan
    all_signed [] over y h = absurd h
    all_signed (x ∷ older) over y (inl e) = subst (λ (y : View). y.signed.plan ≡ y.lists.own.plan) (sym e) over.0.signed
    all_signed (x ∷ older) over y (inr k) = all_signed older over.1 y k

    -- the line of a view over the reply to an operation
    line_here : (older : List View) (x : View) (o : IsOver pinned es older x) → ((y : View) → In y older → y.signed.plan ≡ y.lists.own.plan)
        → ((i : PendingItem) → In i all → IsSeen older i → line_at older (user i) (number i) ≡ up_to (place i) all)
        → option_map_or (λ t. line_at older t.user t.number) (top_plan x.lists) [] ++ map (λ i. i.cert) (items_above x.lists) ≡ up_to (place (next_item (state_after pinned o.earlier) o.cert)) all
    unfolding snapshot
    line_here older x o signed ih =
        let first : List Event = Placed o.cert ∷ o.earlier in
        let own = next_item (state_after pinned o.earlier) o.cert in
        let here : List PendingItem = items pinned first in
        let r' : Reached naming pinned (o.since.0 ++ first) = subst (Reached naming pinned) o.since.1 r in
        let at : Reached naming pinned first = reached_before naming pinned o.since.0 first r' in
        let g = (reached naming pinned o.earlier at.2).0 in
        let now = (reached naming pinned first at).0 in
        let whole = (reached naming pinned es r).0 in
        let s = snapshot pinned o.earlier o.cert g at.0 in
        let less : (d : ℕ) → d ≤ place own → up_to d all ≡ up_to d here = λ d le.
        ap (λ es. up_to d (items pinned es)) o.since.1 ∙ ap (λ l. map cert_of_item (reverse l)) (since_beyond o.since.0 first own d r' (inl refl) le)
        in
        let lines : (z : Signed Structure) → In z (structures o.earlier) → line_at older z.value.plan.user z.value.plan.number ≡ up_to (plan_depth z.value.plan) here = λ z h.
        let l = (latests_after o.earlier).is_last z h in
        let (k, ki, m) = g.made z (find_some (λ (z : Signed Structure). z.value.plan.user == l.0) (committed o.earlier) z l.2).0 in
        let (y, yi, same) = shown_seen older x o signed z h in
        let there : In k all = subst (λ es. In k (items pinned es)) (sym o.since.1) (in_since o.since.0 first k (inr ki)) in
        let deep = deeper_new pinned o.earlier o.cert g at.0 k ki in
        let of_k = ih k there (y, yi, same ∙ m) in
        ap (λ (p : Plan). line_at older p.user p.number) m ∙ of_k ∙ less (place k) (omega arith) ∙ ap (λ (p : Plan). up_to (plan_depth p) here) (sym m)
        in
        let over : x.lists ≡ lists_at s = o.lists ∙ ap (λ (os : List PendingItem). record { structures = structures o.earlier; others = os; own = own }) g.waiting in
        ap (λ (l : Lists). option_map_or (λ t. line_at older t.user t.number) (top_plan l) [] ++ map cert_of_item (items_above l)) over
        ∙ plan_line s (line_at older) lines
        ∙ ap (λ l. map cert_of_item (reverse l)) (sym (all_within own (items pinned o.earlier) now.descending))
        ∙ sym (less (place own) (omega arith))

    lines_are : (run : List View) → AreOver pinned es run → (i : PendingItem) → In i all → IsSeen run i → line_at run (user i) (number i) ≡ up_to (place i) all
    lines_are [] over i h seen = absurd seen.1
    lines_are (x ∷ older) over i h seen =
        let o = over.0 in
        let own = next_item (state_after pinned o.earlier) o.cert in
        let own_is : x.lists.own ≡ own = ap (λ (l : Lists). l.own) o.lists in
        let here = line_here older x o (all_signed older over.1) (lines_are older over.1) in
        let g = (reached naming pinned es r).0 in
        elim (cases_Bool ((user_of x == user i) && (number_of x == number i))) [
          | inl e ↦ (
              let parts = and_parts (user_of x == user i) (number_of x == number i) e in
              let u : user own ≡ user i = ap user (sym own_is) ∙ eqb-true (user_of x) (user i) parts.0 in
              let n : number own ≡ number i = ap number (sym own_is) ∙ eqb-true (number_of x) (number i) parts.1 in
              let same : own ≡ i = g.placing.one_number own i (own_there older x o) h u n in
              rw e (here ∙ ap (λ (i : PendingItem). up_to (place i) all) same))
          | inr e ↦ rw e (lines_are older over.1 i h (
              let (y, yi, same) = seen in
              elim yi [
                | inl m ↦ absurd (
                    let plan : x.lists.own.plan ≡ i.plan = ap (λ (y : View). y.lists.own.plan) (sym m) ∙ same in
                    let t : ((user_of x == user i) && (number_of x == number i)) ≡ true = and_from _ _ (eq-eqb (user_of x) (user i) (ap (λ (p : Plan). p.user) plan)) (eq-eqb (number_of x) (number i) (ap (λ (p : Plan). p.number) plan)) in
                    let clash : true ≡ false = sym t ∙ e in
                    cc)
                | inr k ↦ (y, k, same)
              ]))
        ]

    -- the certificates of all operations, the newest first
    certs_placed : (es : List Event) → filter_map as_placed es ≡ map cert_of_item (items pinned es)
    certs_placed [] = refl
    certs_placed (Placed c ∷ es) = ap (λ l. c.value ∷ l) (certs_placed es)
    certs_placed (Committed z ∷ es) = certs_placed es

    all_placed : placed_by es ≡ map cert_of_item (reverse all)
    all_placed = ap reverse (certs_placed es) ∙ sym (map_reverse cert_of_item all)

    -- those up to a depth are a beginning of all
    beginning : (d : ℕ) → IsBeginning (up_to d all) (placed_by es)
    beginning d =
        let g = (reached naming pinned es r).0 in (
          map cert_of_item (reverse (filter (beyond d) all)),
          all_placed ∙ ap (map cert_of_item) (ap reverse (sym (cut d all g.descending)) ∙ reverse-append (filter (beyond d) all) (filter (λ i. not (beyond d i)) all))
              ∙ map-append cert_of_item (reverse (filter (λ i. not (beyond d i)) all)) (reverse (filter (beyond d) all)),
        )

    over_one : (run : List View) → AreOver pinned es run → (x : View) → In x run → (i : PendingItem) × In i all × (x.lists.own ≡ i)
    over_one [] over x h = absurd h
    over_one (y ∷ older) over x (inl e) =
        let o = over.0 in
        (next_item (state_after pinned o.earlier) o.cert, own_there older y o, ap (λ (x : View). x.lists.own) e ∙ ap (λ (l : Lists). l.own) o.lists)
    over_one (y ∷ older) over x (inr k) = over_one older over.1 x k

    pub lines_placed : (run : List View) → AreOver pinned es run → (x : View) → In x run → IsBeginning (line run x) (placed_by es)
    lines_placed run over x h =
        let (i, ii, same) = over_one run over x h in
        let is : line run x ≡ up_to (place i) all
        = ap (λ (i : PendingItem). line_at run (user i) (number i)) same ∙ lines_are run over i ii (x, h, ap (λ (i : PendingItem). i.plan) same) in
        subst (λ l. IsBeginning l (placed_by es)) (sym is) (beginning (place i))

pub each_line : (naming : Naming) (pinned : Key) (history : List Call) → IsHonestHistory naming pinned history → (run : List View) → AreOver pinned (events pinned history) run → (x : View) → Contains run x → IsBeginning (line run x) (placed pinned history)
each_line naming pinned history h run over x there = lines_placed naming pinned (events pinned history) (reach naming pinned history h.bytes h.honest) run over x (contains_in x run there)
