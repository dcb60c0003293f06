-- Laws of the rule on entries.
use Rattle.std.proofs.Common.{◌≡◌, ℕ, zero, suc, ◌+◌, ◌<◌, ◌≤◌, Bool, true, false, ◌&&◌, List, [], ◌∷◌, ◌++◌, Option, Some, length, take, drop, map, refl, sym, ap, ◌∙◌, arith, length-append}
use Rattle.std.specs.Prelude.{slice_index_or}
use Rattle.std.specs.List.{take-map}
use Rattle.std.proofs.lemmas.List.{take_more}
use Rattle.version_order.specs.declared.plan.Entry.{Entry}
use Rattle.version_order.specs.Plan.{Plan, entry_of}
use Rattle.pending_list.specs.Reply.{PendingItem}
use Rattle.reply_rules.specs.Lists.{Lists, items, pending}
use Rattle.reply_rules.specs.Rules.{entries_of, left_of, shows, all_show, rest_of, waiting, above, items_waiting, items_above, other_entries}
use Rattle.reply_rules.specs.Shown.{shows_by}
use Rattle.reply_rules.proofs.Above.{waiting_plans, above_plans}
use Rattle.reply_rules.proofs.Tests.{dropped}

-- ---- the front and the back of joined lists

pub front : {A : Type 0} (xs ys : List A) → take (length xs) (xs ++ ys) ≡ xs
front [] ys = refl
front {A} (x ∷ xs) ys = ap (λ (zs : List A). x ∷ zs) (front xs ys)

pub back : {A : Type 0} (xs ys : List A) → drop (length xs) (xs ++ ys) ≡ ys
back [] ys = refl
back (x ∷ xs) ys = back xs ys

map_joined : {A B : Type 0} (f : A → B) (xs ys : List A) → map f (xs ++ ys) ≡ map f xs ++ map f ys
map_joined f [] ys = refl
map_joined {A} {B} f (x ∷ xs) ys = ap (λ (zs : List B). f x ∷ zs) (map_joined f xs ys)

map_length : {A B : Type 0} (f : A → B) (xs : List A) → length (map f xs) ≡ length xs
map_length f [] = refl
map_length f (x ∷ xs) = omega (arith, map_length f xs)

abbrev plan_in : PendingItem → Plan
plan_in i = i.plan

abbrev entries_in : List PendingItem → List Entry
entries_in is = entries_of (map plan_in is)

entries_joined : (is js : List PendingItem) → entries_in (is ++ js) ≡ entries_in is ++ entries_in js
entries_joined is js = ap entries_of (map_joined plan_in is js) ∙ map_joined entry_of (map plan_in is) (map plan_in js)

entries_length : (is : List PendingItem) → length (entries_in is) ≡ length is
entries_length is = map_length entry_of (map plan_in is) ∙ map_length plan_in is

entries_front : (is js : List PendingItem) (n : ℕ) → n ≡ length is → take n (entries_in (is ++ js)) ≡ entries_in is
entries_front is js n size =
    ap (λ (es : List Entry). take n es) (entries_joined is js)
    ∙ ap (λ k. take k (entries_in is ++ entries_in js)) (size ∙ sym (entries_length is))
    ∙ front (entries_in is) (entries_in js)

entries_back : (is js : List PendingItem) (n : ℕ) → n ≡ length is → drop n (entries_in (is ++ js)) ≡ entries_in js
entries_back is js n size =
    ap (λ (es : List Entry). drop n es) (entries_joined is js)
    ∙ ap (λ k. drop k (entries_in is ++ entries_in js)) (size ∙ sym (entries_length is))
    ∙ back (entries_in is) (entries_in js)

-- ---- the entries of those that wait, of those above, and of the others

pub waiting_entries : (x : Lists) (is : List PendingItem) (n : ℕ) (es fs : List Entry) → is ≡ items_waiting x → items x ≡ items_waiting x ++ items_above x → n ≡ length is → es ≡ entries_of (pending x) → fs ≡ take n es → fs ≡ entries_of (waiting x)
waiting_entries x is n es fs same joined size made cut =
    cut ∙ ap (λ (e : List Entry). take n e) (made ∙ ap entries_in joined)
    ∙ entries_front (items_waiting x) (items_above x) n (size ∙ ap (λ (js : List PendingItem). length js) same)
    ∙ ap entries_of (sym (waiting_plans x))

pub above_entries : (x : Lists) (is : List PendingItem) (n : ℕ) (es fs : List Entry) → is ≡ items_waiting x → items x ≡ items_waiting x ++ items_above x → n ≡ length is → es ≡ entries_of (pending x) → fs ≡ drop n es → fs ≡ entries_of (above x)
above_entries x is n es fs same joined size made cut =
    cut ∙ ap (λ (e : List Entry). drop n e) (made ∙ ap entries_in joined)
    ∙ entries_back (items_waiting x) (items_above x) n (size ∙ ap (λ (js : List PendingItem). length js) same)
    ∙ ap entries_of (sym (above_plans x))

pub entries_of_others : (x : Lists) (is : List PendingItem) (n : ℕ) (es : List Entry) → is ≡ x.others → n ≡ length is → es ≡ entries_of (pending x) → take n es ≡ other_entries x
entries_of_others x is n es same size made =
    ap (λ (e : List Entry). take n e) made ∙ entries_front x.others (x.own ∷ []) n (size ∙ ap (λ (js : List PendingItem). length js) same)

-- ---- one plan above after another

push_take : {A : Type 0} (xs : List A) (k : ℕ) (x : A) → k < length xs → x ≡ slice_index_or xs k x → take k xs ++ x ∷ [] ≡ take (k + 1) xs
push_take {A} xs k x inside at = sym (take_more xs k x inside ∙ ap (λ (y : A). take k xs ++ y ∷ []) (sym at))

plan_at : (is : List PendingItem) (k : ℕ) (i : PendingItem) → k < length is → i ≡ slice_index_or is k i → i.plan ≡ slice_index_or (map plan_in is) k i.plan
plan_at [] k i inside at = absurd (omega arith)
plan_at (j ∷ js) zero i inside at = ap plan_in at
plan_at (j ∷ js) (suc k) i inside at = plan_at js k i (omega arith) at

-- a plan above with those before it, and then those after it
next_shows : (x : Lists) (ps : List Plan) (k : ℕ) (p : Plan) (rest : Option (List Entry)) → k < length ps → p ≡ slice_index_or ps k p
    → all_show x (take k ps) rest (drop k ps) ≡ (shows x (take k ps) rest p && all_show x (take (k + 1) ps) (Some (rest_of (take k ps) p)) (drop (k + 1) ps))
next_shows x ps k p rest inside at =
    ap (all_show x (take k ps) rest) (dropped ps k p inside at)
    ∙ ap (λ (qs : List Plan). shows x (take k ps) rest p && all_show x qs (Some (rest_of (take k ps) p)) (drop (k + 1) ps)) (push_take ps k p inside at)

-- where the plan doesn't show what it has to the answer is false, and else it is that for those after it
pub stops : (x : Lists) (ps : List Plan) (k : ℕ) (p : Plan) (rest : Option (List Entry)) (r : Bool) → k < length ps → p ≡ slice_index_or ps k p
    → all_show x (take k ps) rest (drop k ps) ≡ r → shows x (take k ps) rest p ≡ false → false ≡ r
stops x ps k p rest r inside at so fails =
    let after : Bool = all_show x (take (k + 1) ps) (Some (rest_of (take k ps) p)) (drop (k + 1) ps) in
    ap (λ b. b && after) (sym fails) ∙ sym (next_shows x ps k p rest inside at) ∙ so

pub goes_on : (x : Lists) (ps : List Plan) (k : ℕ) (p : Plan) (rest : Option (List Entry)) (left : List Entry) (r : Bool) → k < length ps → p ≡ slice_index_or ps k p
    → left ≡ rest_of (take k ps) p → all_show x (take k ps) rest (drop k ps) ≡ r → shows x (take k ps) rest p ≡ true
    → all_show x (take (k + 1) ps) (Some left) (drop (k + 1) ps) ≡ r
goes_on x ps k p rest left r inside at same so holds =
    let after : Bool = all_show x (take (k + 1) ps) (Some (rest_of (take k ps) p)) (drop (k + 1) ps) in
    ap (λ (es : List Entry). all_show x (take (k + 1) ps) (Some es) (drop (k + 1) ps)) same
    ∙ ap (λ b. b && after) (sym holds) ∙ sym (next_shows x ps k p rest inside at) ∙ so

-- ---- what the code finds

pub above_size : (x : Lists) → length (entries_of (above x)) ≡ length (items_above x)
above_size x = ap (λ (ps : List Plan). length (entries_of ps)) (above_plans x) ∙ entries_length (items_above x)

pub others_size : (x : Lists) → length x.others ≤ length (entries_of (pending x))
others_size x = omega (arith, entries_length (x.others ++ x.own ∷ []), length-append x.others (x.own ∷ []))

pub above_length : (x : Lists) → length (above x) ≡ length (items_above x)
above_length x = ap (λ (ps : List Plan). length ps) (above_plans x) ∙ map_length plan_in (items_above x)

-- the plan of an item above stands at its place among the plans above
pub above_at : (x : Lists) (is : List PendingItem) (k : ℕ) (i : PendingItem) → is ≡ items_above x → k < length is → i ≡ slice_index_or is k i → (k < length (above x)) × (i.plan ≡ slice_index_or (above x) k i.plan)
above_at x is k i same inside at =
    let plans : map plan_in is ≡ above x = ap (λ (js : List PendingItem). map plan_in js) same ∙ sym (above_plans x) in
    (omega (arith, map_length plan_in is, ap (λ (ps : List Plan). length ps) plans), plan_at is k i inside at ∙ ap (λ (ps : List Plan). slice_index_or ps k i.plan) plans)

pub before_at : (x : Lists) (later : List Entry) (k : ℕ) → later ≡ entries_of (above x) → take k later ≡ entries_of (take k (above x))
before_at x later k made = ap (λ (es : List Entry). take k es) made ∙ take-map entry_of k (above x)

pub shown_so : (x : Lists) (waits before : List Entry) (earlier : List Plan) (rest : Option (List Entry)) (p q : Plan) (b : Bool) → waits ≡ entries_of (waiting x) → before ≡ entries_of earlier → q ≡ p → b ≡ shows_by x waits before rest q
    → b ≡ shows x earlier rest p
shown_so x waits before earlier rest p q b of_waiting of_earlier same told =
    told
    ∙ ap (λ (w : List Entry). shows_by x w before rest q) of_waiting
    ∙ ap (λ (es : List Entry). shows_by x (entries_of (waiting x)) es rest q) of_earlier
    ∙ ap (λ (r : Plan). shows_by x (entries_of (waiting x)) (entries_of earlier) rest r) same

-- what is left of the entries of a plan above
pub left_so : (before es left : List Entry) (earlier : List Plan) (p q : Plan) → before ≡ entries_of earlier → es ≡ q.entries → q ≡ p → left ≡ left_of before es
    → left ≡ rest_of earlier p
left_so before es left earlier p q of_earlier found same told =
    told
    ∙ ap (λ (b : List Entry). left_of b es) of_earlier
    ∙ ap (left_of (entries_of earlier)) (found ∙ ap (λ (r : Plan). r.entries) same)
