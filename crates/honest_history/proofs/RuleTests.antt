-- The tests of the rules, from what holds of members and of pairs.
use Rattle.std.proofs.Common.{◌≡◌, ◌≢◌, ℕ, zero, suc, ◌<◌, List, [], ◌∷◌, Option, Some, None, Bool, true, refl, subst, inl, arith}
use Rattle.std.specs.Prelude.{◌==◌, not}
use Rattle.std.proofs.lemmas.Bool.{eq-eqb, ne_eqb, lt-ltb, and_from}
use Rattle.version_order.specs.declared.plan.Entry.{Entry}
use Rattle.version_order.specs.Plan.{Plan}
use Rattle.reply_rules.specs.Rules.{any_two, ascends, ascends_after, each_once, every_below, lists_entry, same_entry}
use Rattle.agreement.proofs.Members.{In}
use Rattle.honest_history.proofs.Members.{all_from, any_from, bytes_same}
use Rattle.honest_history.proofs.Pairs.{Pairwise}

ascends_from : (b : Option ℕ) (ns : List ℕ) → Pairwise (λ m n. m < n) ns → ((m n : ℕ) → b ≡ Some m → In n ns → m < n) → ascends_after b ns ≡ true
ascends_from b [] p h = refl
ascends_from None (n ∷ ns) p h = ascends_from (Some n) ns p.1 (λ m k e i. let f : n ≡ m = cc in subst (λ j. j < k) f (p.0 k i))
ascends_from (Some m) (n ∷ ns) p h =
    and_from _ _ (lt-ltb m n (h m n refl (inl refl))) (ascends_from (Some n) ns p.1 (λ m k e i. let f : n ≡ m = cc in subst (λ j. j < k) f (p.0 k i)))

pub ascends_pairwise : (ns : List ℕ) → Pairwise (λ m n. m < n) ns → ascends ns ≡ true
ascends_pairwise ns p = ascends_from None ns p (λ m n e i. cc)

pub once_pairwise : (ns : List ℕ) → Pairwise (λ m n. m ≢ n) ns → each_once ns ≡ true
once_pairwise [] p = refl
once_pairwise (n ∷ ns) p = and_from _ _ (all_from (λ m. not (n == m)) ns (λ m i. rw (ne_eqb n m (p.0 m i)) refl)) (once_pairwise ns p.1)

pub any_two_pairwise : (t : Plan → Plan → Bool) (ps : List Plan) → Pairwise (λ p q. t p q ≡ true) ps → any_two t ps ≡ true
any_two_pairwise t [] h = refl
any_two_pairwise t (p ∷ ps) h = and_from _ _ (all_from (t p) ps h.0) (any_two_pairwise t ps h.1)

pub every_below_from : (n : ℕ) (t : ℕ → Bool) → ((u : ℕ) → u < n → t u ≡ true) → every_below n t ≡ true
unfolding every_below
every_below_from zero t h = refl
every_below_from (suc n) t h = and_from (every_below n t) (t n) (every_below_from n t (λ u l. h u (omega arith))) (h n (omega arith))

-- ---- entries

pub in_listed : (es : List Entry) (e : Entry) → In e es → lists_entry es e ≡ true
in_listed es e i =
    any_from (same_entry e) es e i
    (and_from _ _ (eq-eqb e.user e.user refl) (and_from _ _ (eq-eqb e.number e.number refl) (bytes_same e.plan)))
