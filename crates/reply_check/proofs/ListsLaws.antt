-- The structures of a reply ascend by user.
use Rattle.std.proofs.Common.{◌≡◌, ℕ, Bool, true, false, ◌&&◌, ◌-◌, List, [], ◌∷◌, ◌++◌, length, Option, Some, None, map, refl, sym, ap, subst, ◌∙◌, arith}
use Rattle.std.specs.Prelude.{nat_lt, IfSome, IsSome, IsSomeAnd, slice_get}
use Rattle.std.specs.Ordering.{nat_cmp, is_lt}
use Rattle.std.proofs.lemmas.List.{length-append}
use Rattle.std.proofs.lemmas.Bool.Decides.{nat_tests}
use Rattle.layout.specs.Ascending.{Ascends}
use Rattle.version_order.specs.Structure.{Structure}
use Rattle.pending_list.specs.declared.signed.Signed.{Signed}
use Rattle.pending_list.specs.Reply.{user_of, PendingItem, Reply}
use Rattle.std.specs.Option.{option_map}
use Rattle.reply_rules.specs.Lists.{Lists, lists_of, split_last}
use Rattle.reply_rules.specs.ListsLaws.{lists_are}
use Rattle.reply_rules.specs.Rules.{ascends, ascends_after}

both : (a b : Bool) → (a && b) ≡ true → (a ≡ true) × (b ≡ true)
both true true h = (refl, refl)
both true false h = absurd cc
both false b h = absurd cc

less : (m n : ℕ) → nat_lt m n ≡ true → is_lt (nat_cmp m n) ≡ true
less m n h = grind (arith, nat_tests)

rises : (z : Signed Structure) (zs : List (Signed Structure)) → ascends_after (Some (user_of z)) (map user_of zs) ≡ true → Ascends nat_cmp user_of (Some z) zs
unfolding Ascends
rises z [] h = tt
rises z (y ∷ ys) h = let tests = both (nat_lt (user_of z) (user_of y)) (ascends_after (Some (user_of y)) (map user_of ys)) h in (less (user_of z) (user_of y) tests.0, rises y ys tests.1)

pub ascend : (zs : List (Signed Structure)) → ascends (map user_of zs) ≡ true → Ascends nat_cmp user_of None zs
unfolding Ascends
ascend [] h = tt
ascend (z ∷ zs) h = (refl, rises z zs h)

-- ---- the lists of a reply

pub last_of : {X : Type 0} (xs : List X) → IsSome (split_last xs) → (front : List X) × (own : X) × (xs ≡ front ++ own ∷ [])
last_of [] some = absurd cc
last_of (x ∷ []) some = ([], x, refl)
last_of (x ∷ y ∷ ys) some =
    let rest = last_of (y ∷ ys) refl in
    (x ∷ rest.0, rest.1, ap (λ (zs : List _). x ∷ zs) rest.2)

mapped : {A B : Type 0} (f : A → B) (o : Option A) → IsSome (option_map f o) → IsSome o
mapped f None some = absurd cc
mapped f (Some a) some = refl

-- a reply that has lists ends with the own operation
pub ends : (r : Reply) → IsSome (lists_of r) → (front : List PendingItem) × (own : PendingItem) × (r.pending ≡ front ++ own ∷ [])
ends r some = last_of r.pending (mapped _ (split_last r.pending) some)

-- what holds of these parts of it holds of its lists
pub with_lists : (r : Reply) (P : Lists → Type 0) → IsSome (lists_of r) → ((front : List PendingItem) (own : PendingItem) → r.pending ≡ front ++ own ∷ [] → P (record { structures = r.structures; others = front; own = own })) → IsSomeAnd (lists_of r) P
with_lists r P some each = let e = ends r some in subst (λ (o : Option Lists). IsSomeAnd o P) (sym (lists_are r e.0 e.1 e.2)) (each e.0 e.1 e.2)

after_front : (front : List PendingItem) (own : PendingItem) → slice_get (front ++ own ∷ []) (length front) ≡ Some own
after_front [] own = refl
after_front (x ∷ xs) own = after_front xs own

pub last_one : (front : List PendingItem) (own : PendingItem) → slice_get (front ++ own ∷ []) (length (front ++ own ∷ []) - 1) ≡ Some own
last_one front own =
    let last : length (front ++ own ∷ []) - 1 ≡ length front = omega (arith, length-append front (own ∷ [])) in
    rw last (after_front front own)

-- the last pending operation is the own one
pub own_is_last : (r : Reply) (own : PendingItem) (others : List PendingItem) → IsSome (lists_of r) → (user : ℕ) → IsSomeAnd (lists_of r) (λ y. (y.own ≡ own) × (y.others ≡ others)) → user ≡ own.plan.user
    → IfSome (slice_get r.pending (length r.pending - 1)) (λ i. i.plan.user ≡ user)
own_is_last r own others some user split is =
    let e = ends r some in
    let at = subst (λ (o : Option Lists). IsSomeAnd o (λ y. (y.own ≡ own) × (y.others ≡ others))) (lists_are r e.0 e.1 e.2) split in
    subst (λ (items : List PendingItem). IfSome (slice_get items (length items - 1)) (λ i. i.plan.user ≡ user)) (sym e.2)
    (rw (last_one e.0 e.1) (ap (λ (i : PendingItem). i.plan.user) at.0 ∙ sym is))
