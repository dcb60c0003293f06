-- From the rules' tests to the first broken rule.
use Rattle.std.proofs.Common.{◌≡◌, ℕ, ◌-◌, Bool, ◌&&◌, true, false, List, [], ◌∷◌, Option, Some, None, refl, length}
use Rattle.std.specs.Prelude.{IsSome, IfOk, Result, Ok, Err}
use Rattle.std.specs.List.{slice_get}
use Rattle.std.specs.Option.{option_map, option_map_or}
use Rattle.pending_list.specs.Reply.{PendingItem, Reply}
use Rattle.reply_rules.specs.Lists.{lists_of, split_last}
use Rattle.reply_rules.specs.Rules.{lists, structures_ascend}
use Rattle.std.specs.Str.{bytes_eq}
use Rattle.reply_check.specs.FirstBroken.{own_pending, cert_sent}

mapped_some : {A B : Type 0} (f : A → B) (o : Option A) → IsSome o → IsSome (option_map f o)
mapped_some f None h = absurd cc
mapped_some f (Some a) h = refl

split_some : (i : PendingItem) (is : List PendingItem) → IsSome (split_last (i ∷ is))
split_some i is = refl

something_last : (declared : List ℕ) (is : List PendingItem) → option_map_or (λ i. bytes_eq (cert_sent i) declared) (slice_get is (length is - 1)) false ≡ true → IsSome (split_last is)
something_last declared [] h = absurd cc
something_last declared (i ∷ is) h = split_some i is

-- where a certificate is pending, there are lists
pub something_pending : (r : Reply) (declared : List ℕ) → own_pending declared r ≡ true → IsSome (lists_of r)
unfolding own_pending
something_pending r declared h = mapped_some (λ s. record { structures = r.structures; others = s.0; own = s.1 }) (split_last r.pending) (something_last declared r.pending h)

pub each_ok : {X E : Type 0} (r : Result X E) (P Q : X → Type 0) → ((x : X) → P x → Q x) → IfOk r P → IfOk r Q
each_ok (Ok x) P Q h told = h x told
each_ok (Err e) P Q h told = tt

first_of : (a b : Bool) → (a && b) ≡ true → a ≡ true
first_of true b h = refl
first_of false b h = absurd cc

-- where the rule on lists holds, the structures ascend
pub lists_ascend : (r : Reply) → lists r ≡ true → structures_ascend r ≡ true
unfolding lists
lists_ascend r h = first_of (structures_ascend r) _ h
