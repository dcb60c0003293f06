-- Where the pending items ascend by depth, those that aren't above come before those that are.
use Rattle.std.proofs.Common.{◌≡◌, ℕ, ◌<◌, Bool, true, false, not, List, [], ◌∷◌, ◌++◌, Option, Some, None, refl, ap, sym, subst, ◌∙◌, inl, inr, arith, map, filter, take, drop}
use Rattle.std.specs.Prelude.{nat_lt, ◌==◌}
use Rattle.std.specs.List.{list_any}
use Rattle.std.proofs.lemmas.List.{take-append-drop}
use Rattle.std.proofs.lemmas.Bool.{cases_lt, ltb-true, lt-ltb, le-ltb}
use Rattle.version_order.specs.Structure.{Structure}
use Rattle.pending_list.specs.declared.signed.Signed.{Signed}
use Rattle.pending_list.specs.Reply.{PendingItem, Reply, depth_of_top, top}
use Rattle.reply_rules.specs.Lists.{Lists, items}
use Rattle.reply_rules.specs.Rules.{ascends, ascends_after, depth, lists, structures_ascend, pending_ascends, waiting, above, items_waiting, items_above, is_above, waits}
use Rattle.reply_rules.specs.Split.{place_above, IsSplit}
use Rattle.reply_rules.proofs.Tests.{both, filter-map, any-map}

abbrev depths : List PendingItem → List ℕ
depths is = map (λ i. depth i.plan) is

abbrev deep : ℕ → PendingItem → Bool
deep d i = nat_lt d (depth i.plan)

abbrev not_deep : ℕ → PendingItem → Bool
not_deep d i = not (nat_lt d (depth i.plan))

later_ascend : (before : Option ℕ) (n : ℕ) (ns : List ℕ) → ascends_after before (n ∷ ns) ≡ true → ascends_after (Some n) ns ≡ true
later_ascend None n ns h = h
later_ascend (Some m) n ns h = (both _ _ h).1

-- what comes after one that is deeper is deeper
all_deep : (d m : ℕ) (is : List PendingItem) → d < m → ascends_after (Some m) (depths is) ≡ true → (filter (deep d) is ≡ is) × (filter (not_deep d) is ≡ [])
all_deep d m [] less h = (refl, refl)
all_deep d m (i ∷ is) less h =
    let tests = both _ _ h in
    let more : m < depth i.plan = ltb-true m (depth i.plan) tests.0 in
    let later = all_deep d (depth i.plan) is (omega arith) tests.1 in
    let yes : nat_lt d (depth i.plan) ≡ true = lt-ltb d (depth i.plan) (omega arith) in
    (rw yes (ap (λ (js : List PendingItem). i ∷ js) later.0), rw yes later.1)

pub split_above : (d : ℕ) (before : Option ℕ) (is : List PendingItem) → ascends_after before (depths is) ≡ true
    → (take (place_above d is) is ≡ filter (not_deep d) is) × (drop (place_above d is) is ≡ filter (deep d) is)
split_above d before [] h = (refl, refl)
split_above d before (i ∷ is) h =
    let up = later_ascend before (depth i.plan) (depths is) h in
    elim (cases_lt d (depth i.plan)) [
      | inl less ↦ (
          let all = all_deep d (depth i.plan) is less up in
          let yes : nat_lt d (depth i.plan) ≡ true = lt-ltb d (depth i.plan) less in
          (rw yes (sym all.1), rw yes (ap (λ (js : List PendingItem). i ∷ js) (sym all.0))))
      | inr le ↦ (
          let later = split_above d (Some (depth i.plan)) is up in
          let no : nat_lt d (depth i.plan) ≡ false = le-ltb d (depth i.plan) le in
          (rw no (ap (λ (js : List PendingItem). i ∷ js) later.0), rw no later.1))
    ]

-- of a reply that meets the rule on lists the pending operations ascend by depth
pub ascending_of : (r : Reply) → lists r ≡ true → ascends (map (λ i. depth i.plan) r.pending) ≡ true
unfolding lists
ascending_of r h = (both (pending_ascends r) _ (both (structures_ascend r) _ h).1).0

-- what is found of a reply that meets the rule on lists splits its pending items
pub is_split : (r : Reply) (zs : List (Signed Structure)) (is others : List PendingItem) (own : PendingItem) (before after : List PendingItem) (t : Option (Signed Structure)) (d place : ℕ) → lists r ≡ true
    → zs ≡ r.structures → is ≡ r.pending → is ≡ others ++ own ∷ [] → d ≡ depth_of_top r.structures → place ≡ place_above d is → before ≡ take place is → after ≡ drop place is → t ≡ top r.structures
    → IsSplit (record { structures = zs; others = others; own = own }) is before after t
is_split r zs is others own before after t d place holds shown waits ends deep_as placed front back best =
    let up : ascends (depths is) ≡ true = subst (λ (js : List PendingItem). ascends (depths js) ≡ true) (sym waits) (ascending_of r holds) in
    let halves = split_above d None is up in
    let same : d ≡ depth_of_top zs = deep_as ∙ ap depth_of_top (sym shown) in
    record {
      all = ends;
      before =
          front ∙ ap (λ n. take n is) placed ∙ halves.0 ∙ ap (λ n. filter (not_deep n) is) same
          ∙ ap (λ (js : List PendingItem). filter (not_deep (depth_of_top zs)) js) ends;
      after =
          back ∙ ap (λ n. drop n is) placed ∙ halves.1 ∙ ap (λ n. filter (deep n) is) same
          ∙ ap (λ (js : List PendingItem). filter (deep (depth_of_top zs)) js) ends;
      joined = sym (ap (λ (js : List PendingItem). js ++ after) front ∙ ap (λ (js : List PendingItem). take place is ++ js) back ∙ take-append-drop place is);
      deepest = best ∙ ap top (sym shown);
    }

-- the end of the pending list is what is above
pub ends_above : (r : Reply) (is after : List PendingItem) (d place : ℕ) → lists r ≡ true → is ≡ r.pending → d ≡ depth_of_top r.structures → place ≡ place_above d is → after ≡ drop place is
    → after ≡ filter (deep (depth_of_top r.structures)) r.pending
ends_above r is after d place holds waits deep_as placed back =
    let up : ascends (depths is) ≡ true = subst (λ (js : List PendingItem). ascends (depths js) ≡ true) (sym waits) (ascending_of r holds) in
    back ∙ ap (λ n. drop n is) placed ∙ (split_above d None is up).1
    ∙ ap (λ n. filter (deep n) is) deep_as
    ∙ ap (λ (js : List PendingItem). filter (deep (depth_of_top r.structures)) js) waits

-- ---- the plans of the items that wait, and of those above

pub waiting_plans : (x : Lists) → waiting x ≡ map (λ i. i.plan) (items_waiting x)
waiting_plans x = filter-map (λ p. not (is_above x p)) (λ (i : PendingItem). i.plan) (items x)

pub above_plans : (x : Lists) → above x ≡ map (λ i. i.plan) (items_above x)
above_plans x = filter-map (is_above x) (λ (i : PendingItem). i.plan) (items x)

-- a user waits where an item that waits is of the user
pub waits_by_items : (x : Lists) (u : ℕ) → waits x u ≡ list_any (λ i. i.plan.user == u) (items_waiting x)
waits_by_items x u = ap (list_any (λ p. p.user == u)) (waiting_plans x) ∙ any-map (λ p. p.user == u) (λ (i : PendingItem). i.plan) (items_waiting x)
