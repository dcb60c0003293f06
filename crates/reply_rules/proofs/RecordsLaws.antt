-- Laws of the rule on group records.
use Rattle.std.proofs.Common.{◌≡◌, ℕ, zero, suc, ◌+◌, ◌-◌, ◌<◌, ◌≤◌, add-one, Bool, true, false, ◌&&◌, cond, List, [], ◌∷◌, ◌++◌, length, take, drop, map, filter, refl, sym, ap, ◌∙◌, inl, inr, arith, append-nil}
use Rattle.std.specs.Prelude.{◌==◌, nat_lt, nat_le, slice_index_or, if◌then◌else◌}
use Rattle.std.specs.List.{list_all, list_any}
use Rattle.std.proofs.lemmas.List.{take_more}
use Rattle.std.proofs.lemmas.List.Elements.{filter-append}
use Rattle.std.proofs.lemmas.List.Folds.{list_all-append}
use Rattle.std.proofs.Math.Bool.{and-true}
use Rattle.std.proofs.lemmas.Bool.{cases_lt, lt-ltb, le-ltb}
use Rattle.version_order.specs.Vector.{version_of}
use Rattle.version_order.specs.declared.structure.GroupRecord.{GroupRecord}
use Rattle.version_order.specs.Structure.{Structure}
use Rattle.pending_list.specs.declared.signed.Signed.{Signed}
use Rattle.pending_list.specs.Reply.{PendingItem}
use Rattle.principals.specs.Table.{Table}
use Rattle.pending_list.specs.Groups.{groups_below, raises}
use Rattle.pending_list.specs.GroupsLaws.{none_below, one_more}
use Rattle.reply_rules.specs.Lists.{Lists}
use Rattle.reply_rules.specs.Rules.{greater, newest_in, newest, versions_beyond, new_versions, own_version, each_once, has_all, group_complete}
use Rattle.reply_rules.proofs.Tests.{dropped, and_false}

-- ---- the greatest version

zero-greater : (n : ℕ) → greater 0 n ≡ n
zero-greater zero = refl
zero-greater (suc n) = rw (lt-ltb 0 (suc n) (omega arith)) refl

greater-less : (m n : ℕ) → m < n → greater m n ≡ n
greater-less m n l = rw (lt-ltb m n l) refl

greater-no_less : (m n : ℕ) → n ≤ m → greater m n ≡ m
greater-no_less m n l = rw (le-ltb m n l) refl

regroup : (a b c : ℕ) → greater (greater a b) c ≡ greater a (greater b c)
regroup a b c =
    elim (cases_lt a b) [
      | inl ab ↦ (elim (cases_lt b c) [
        | inl bc ↦ rw (greater-less a b ab, greater-less b c bc) (sym (greater-less a c (omega arith)))
        | inr cb ↦ rw (greater-less a b ab, greater-no_less b c cb) (sym (greater-less a b ab))
      ])
      | inr ba ↦ (elim (cases_lt b c) [
        | inl bc ↦ rw (greater-no_less a b ba, greater-less b c bc) refl
        | inr cb ↦ rw (greater-no_less a b ba, greater-no_less b c cb, greater-no_less a b ba) (greater-no_less a c (omega arith))
      ])
    ]

-- one record more was seen
pub next_newest_in : (g best : ℕ) (rs : List GroupRecord) (k : ℕ) (r : GroupRecord) → k < length rs → r ≡ slice_index_or rs k r
    → greater best (newest_in g (drop k rs)) ≡ greater (if r.group == g then greater best r.version else best) (newest_in g (drop (k + 1) rs))
next_newest_in g best rs k r inside at =
    ap (λ (qs : List GroupRecord). greater best (newest_in g qs)) (dropped rs k r inside at) ∙ step (r.group == g)
  where
    step : (b : Bool) → greater best (cond b (greater r.version (newest_in g (drop (k + 1) rs))) (newest_in g (drop (k + 1) rs))) ≡ greater (cond b (greater best r.version) best) (newest_in g (drop (k + 1) rs))
    step true = sym (regroup best r.version (newest_in g (drop (k + 1) rs)))
    step false = refl

pub next_newest : (g best : ℕ) (zs : List (Signed Structure)) (k : ℕ) (z : Signed Structure) → k < length zs → z ≡ slice_index_or zs k z
    → greater best (newest g (drop k zs)) ≡ greater (greater best (newest_in g z.value.groups)) (newest g (drop (k + 1) zs))
next_newest g best zs k z inside at =
    ap (λ (ys : List (Signed Structure)). greater best (newest g ys)) (dropped zs k z inside at) ∙ sym (regroup best (newest_in g z.value.groups) (newest g (drop (k + 1) zs)))

pub best_with : (best v n b : ℕ) → v ≡ n → best < v → b ≡ v → b ≡ greater best n
best_with best v n b same l e = e ∙ sym (greater-less best v l) ∙ ap (greater best) same

pub best_without : (best v n b : ℕ) → v ≡ n → v ≤ best → b ≡ best → b ≡ greater best n
best_without best v n b same l e = e ∙ sym (greater-no_less best v l) ∙ ap (greater best) same

-- ---- the versions that are complete

pub next_lower : (least n : ℕ) (ns : List ℕ) → least < n → list_any (λ k. k == n) ns ≡ true → has_all (least + 1) (n - 1) ns ≡ has_all (least + 1) n ns
next_lower least zero ns l there = absurd (omega arith)
next_lower least (suc m) ns l there = let e : suc m - 1 ≡ m = omega arith in rw (e, le-ltb (suc m) (least + 1) (omega arith), there) refl

pub missing : (least n : ℕ) (ns : List ℕ) → least < n → list_any (λ k. k == n) ns ≡ false → has_all (least + 1) n ns ≡ false
missing least zero ns l none = absurd (omega arith)
missing least (suc m) ns l none = rw (le-ltb (suc m) (least + 1) (omega arith), none) refl

pub none_left : (least n : ℕ) (ns : List ℕ) → n ≤ least → has_all (least + 1) n ns ≡ true
none_left least zero ns l = refl
none_left least (suc m) ns l = rw (lt-ltb (suc m) (least + 1) (omega arith)) refl

-- ---- the versions beyond another, one item after another

abbrev beyond : Table → ℕ → ℕ → PendingItem → Bool
beyond t g r i = raises t g i && nat_lt r (version_of g i.plan.vector)

push_take : (is : List PendingItem) (k : ℕ) (i : PendingItem) → k < length is → i ≡ slice_index_or is k i → take (k + 1) is ≡ take k is ++ i ∷ []
push_take is k i inside at = take_more is k i inside ∙ ap (λ (j : PendingItem). take k is ++ j ∷ []) (sym at)

map_push : (g : ℕ) (is : List PendingItem) (i : PendingItem) → map (λ j. version_of g j.plan.vector) (is ++ i ∷ []) ≡ map (λ j. version_of g j.plan.vector) is ++ version_of g i.plan.vector ∷ []
map_push g [] i = refl
map_push g (j ∷ js) i = ap (λ (ns : List ℕ). version_of g j.plan.vector ∷ ns) (map_push g js i)

one_item : (t : Table) (g r : ℕ) (is : List PendingItem) (k : ℕ) (i : PendingItem) (b : Bool) → k < length is → i ≡ slice_index_or is k i → beyond t g r i ≡ b
    → versions_beyond t g r (take (k + 1) is) ≡ map (λ j. version_of g j.plan.vector) (filter (beyond t g r) (take k is) ++ cond b (i ∷ []) [])
one_item t g r is k i b inside at e =
    ap (versions_beyond t g r) (push_take is k i inside at)
    ∙ ap (λ (js : List PendingItem). map (λ j. version_of g j.plan.vector) js) (filter-append (beyond t g r) (take k is) (i ∷ []))
    ∙ ap (λ c. map (λ j. version_of g j.plan.vector) (filter (beyond t g r) (take k is) ++ cond c (i ∷ []) [])) e

pub version_more : (t : Table) (g r : ℕ) (is : List PendingItem) (k : ℕ) (i : PendingItem) → k < length is → i ≡ slice_index_or is k i → beyond t g r i ≡ true
    → versions_beyond t g r (take (k + 1) is) ≡ versions_beyond t g r (take k is) ++ version_of g i.plan.vector ∷ []
version_more t g r is k i inside at e = one_item t g r is k i true inside at e ∙ map_push g (filter (beyond t g r) (take k is)) i

pub version_none : (t : Table) (g r : ℕ) (is : List PendingItem) (k : ℕ) (i : PendingItem) → k < length is → i ≡ slice_index_or is k i → beyond t g r i ≡ false
    → versions_beyond t g r (take (k + 1) is) ≡ versions_beyond t g r (take k is)
version_none t g r is k i inside at e =
    one_item t g r is k i false inside at e
    ∙ ap (λ (js : List PendingItem). map (λ j. version_of g j.plan.vector) js) (append-nil (filter (beyond t g r) (take k is)))

-- ---- each group

pub no_groups : (t : ℕ → Bool) → list_all t (groups_below 0) ≡ true
no_groups t = ap (list_all t) none_below

group_and_more : (t : ℕ → Bool) (n : ℕ) → list_all t (groups_below (n + 1)) ≡ (list_all t (groups_below n) && t (n + 64))
group_and_more t n = ap (list_all t) (one_more n) ∙ list_all-append t (groups_below n) ((n + 64) ∷ []) ∙ ap (λ b. list_all t (groups_below n) && b) (and-true (t (n + 64)))

pub groups_more : (t : ℕ → Bool) (n g : ℕ) → g ≡ 64 + n → list_all t (groups_below n) ≡ true → t g ≡ true → list_all t (groups_below (n + 1)) ≡ true
groups_more t n g is all here =
    let e : n + 64 ≡ g = omega arith in
    group_and_more t n ∙ ap (λ b. b && t (n + 64)) all ∙ ap t e ∙ here

pub groups_fail : (t : ℕ → Bool) (n k g : ℕ) → k < n → g ≡ 64 + k → t g ≡ false → list_all t (groups_below n) ≡ false
groups_fail t zero k g l is fails = absurd (omega arith)
groups_fail t (suc n) k g l is fails =
    let more : list_all t (groups_below (suc n)) ≡ (list_all t (groups_below n) && t (n + 64)) = rw add-one at (group_and_more t n) in
    elim (cases_lt k n) [
      | inl less ↦ more ∙ ap (λ b. b && t (n + 64)) (groups_fail t n k g less is fails)
      | inr le ↦ (let e : n + 64 ≡ g = omega arith in more ∙ ap (λ b. list_all t (groups_below n) && b) (ap t e ∙ fails) ∙ and_false (list_all t (groups_below n)))
    ]

abbrev complete_by : List ℕ → ℕ → ℕ → Bool
complete_by ns least most = each_once ns && (list_all (λ v. nat_le v most) ns && has_all (least + 1) most ns)

-- what is found of a group tells whether it is complete
pub complete_so : (t : Table) (x : Lists) (g : ℕ) (ns : List ℕ) (least most : ℕ) (b : Bool) → least ≡ newest g x.structures → most ≡ own_version x g → ns ≡ new_versions t x g → b ≡ complete_by ns least most → b ≡ group_complete t x g
complete_so t x g ns least most b of_least of_most of_versions told =
    told
    ∙ ap (λ (ms : List ℕ). complete_by ms least most) of_versions
    ∙ ap (λ n. complete_by (new_versions t x g) n most) of_least
    ∙ ap (complete_by (new_versions t x g) (newest g x.structures)) of_most
