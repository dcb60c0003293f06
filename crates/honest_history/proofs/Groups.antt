-- The versions of groups along the operations that a server placed: each that raises a group raises its version by one.
use Rattle.std.proofs.Common.{◌≡◌, ℕ, zero, suc, ◌+◌, ◌<◌, ◌≤◌, List, [], ◌∷◌, true, refl, sym, ap, ◌∙◌, subst, inl, inr, arith}
use Rattle.std.specs.Prelude.{◌==◌, if◌then◌else◌}
use Rattle.std.proofs.lemmas.Bool.{eqb-true, cases_Bool, cases_eq}
use Rattle.principals.specs.Table.{Table}
use Rattle.version_order.specs.Vector.{version_of}
use Rattle.pending_list.specs.Groups.{groups, groups_below, raised_groups, raises, raises_at, table_version}
use Rattle.pending_list.specs.Reply.{PendingItem}
use Rattle.agreement.proofs.Members.{In, in-append, in-filter}
use Rattle.agreement.proofs.GroupVersions.{grows, next_group_version}
use Rattle.agreement.proofs.Tests.{any_in}
use Rattle.honest_history.proofs.Chains.{Descending}
use Rattle.honest_history.proofs.Tabled.{Follows, latest_vector}
use Rattle.honest_history.proofs.Timeline.{place, user, version}

pub groups_from : (n g : ℕ) → In g (groups_below n) → (64 ≤ g) × (g < n + 64)
unfolding groups_below
groups_from zero g i = absurd i
groups_from (suc n) g i =
    elim (in-append g (groups_below n) ((n + 64) ∷ []) i) [
      | inl k ↦ (let r = groups_from n g k in (r.0, omega arith))
      | inr k ↦ elim k [ inl e ↦ (omega arith, omega arith) | inr z ↦ absurd z ]
    ]

pub group_range : (g : ℕ) → In g groups → (64 ≤ g) × (g < 96)
group_range g i = let r = groups_from 32 g i in (r.0, omega arith)

pub raises_in : (t : Table) (g : ℕ) (i : PendingItem) → raises t g i ≡ true → In g (raised_groups t i)
raises_in t g i e = let q = any_in (λ h. h == g) (raised_groups t i) e in subst (λ h. In h (raised_groups t i)) (eqb-true q.0 g q.2) q.1

-- what is raised is a group, and the tests for it hold
pub raised_is : (t : Table) (g : ℕ) (i : PendingItem) → raises t g i ≡ true → (64 ≤ g) × (g < 96) × (raises_at t (table_version i.plan) i.cert g ≡ true)
raised_is t g i e =
    let k = in-filter (raises_at t (table_version i.plan) i.cert) g groups (raises_in t g i e) in
    let r = group_range g k.0 in
    (r.0, r.1, k.1)

-- each version of a group was raised by an operation
pub group_placed : (t : Table) (g n : ℕ) (is : List PendingItem) → Follows t is → ((j : PendingItem) → In j is → user j < 64) → 64 ≤ g → g < 96 → 0 < n → n ≤ version_of g (latest_vector is)
    → (j : PendingItem) × In j is × (raises t g j ≡ true) × (version g j ≡ n)
group_placed t g n [] f u low high p le = absurd (omega arith)
group_placed t g n (i ∷ is) f u low high p le =
    let ih = group_placed t g n is f.1 (λ j h. u j (inr h)) low high p in
    let next = next_group_version t i (latest_vector is) g low high (u i (inl refl)) f.0 in
    elim (cases_Bool (raises t g i)) [
      | inl r ↦ (
          let once : ◌≡◌ {A = ℕ} (if raises t g i then 1 else 0) 1 = ap (λ b. if b then 1 else 0) r in
          elim (cases_eq n (version g i)) [
            | inl m ↦ (i, inl refl, r, sym m)
            | inr m ↦ (let q = ih (omega arith) in (q.0, inr q.1, q.2, q.3))
          ])
      | inr r ↦ (
          let none : ◌≡◌ {A = ℕ} (if raises t g i then 1 else 0) 0 = ap (λ b. if b then 1 else 0) r in
          let q = ih (omega arith) in
          (q.0, inr q.1, q.2, q.3))
    ]

group_latest : (t : Table) (g : ℕ) (is : List PendingItem) → Follows t is → (j : PendingItem) → In j is → version g j ≤ version_of g (latest_vector is)
group_latest t g [] f j h = absurd h
group_latest t g (i ∷ is) f j (inl e) = let w = ap (version g) e in omega arith
group_latest t g (i ∷ is) f j (inr h) =
    let ih = group_latest t g is f.1 j h in
    let more = grows t i (latest_vector is) g f.0 in
    omega arith

-- an operation that raises a group has a greater version of it than all before
pub group_grows : (t : Table) (g : ℕ) (is : List PendingItem) → Follows t is → Descending is → (i j : PendingItem) → In i is → In j is → place j < place i → raises t g i ≡ true → version g j < version g i
group_grows t g [] f p i j h k l m = absurd h
group_grows t g (n ∷ is) f p i j (inl e) (inl q) l m = absurd (let w = ap place e in let y = ap place q in omega arith)
group_grows t g (n ∷ is) f p i j (inl e) (inr k) l m =
    let up = group_latest t g is f.1 j k in
    let more = grows t n (latest_vector is) g f.0 in
    let once : ◌≡◌ {A = ℕ} (if raises t g n then 1 else 0) 1 = ap (λ b. if b then 1 else 0) (ap (raises t g) (sym e) ∙ m) in
    let w = ap (version g) e in
    omega arith
group_grows t g (n ∷ is) f p i j (inr h) (inl q) l m = absurd (let w = p.0 i h in let y = ap place q in omega arith)
group_grows t g (n ∷ is) f p i j (inr h) (inr k) l m = group_grows t g is f.1 p.1 i j h k l m
