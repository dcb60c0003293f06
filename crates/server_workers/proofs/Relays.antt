-- Each move keeps the rule of the relay.
use Rattle.std.proofs.Common.{◌≡◌, ◌≢◌, ℕ, zero, suc, true, false, true≢false, List, [], ◌∷◌, ◌++◌, length, set, sym, refl, ap, ◌∙◌, subst, ⊎_elim, append_assoc}
use mathlib.Core.Option.{some, some-ne-none}
use lib.ListN.{get_elem?}
use Rattle.crossbeam_queue.specs.Fifo.{Pushes, Pops, Forks, Merges, Learns}
use Rattle.crossbeam_queue.proofs.Lists.{at_set, at_snoc}
use Rattle.consistency_server.specs.Answers.{Call}
use Rattle.server_workers.specs.declared.call_queue.Hand.{Hand}
use Rattle.server_workers.specs.Hands.{hand}
use Rattle.server_workers.specs.Relay.{IsHandAt, Relayed, HoldsEnd}

at_end : (l : List Hand) (a b : Hand) (j : ℕ) → get_elem? l j ≢ some b → get_elem? (l ++ a ∷ []) j ≡ some b → j ≡ length l
at_end [] a b zero n e = refl
at_end [] a b (suc j) n e = absurd (some-ne-none b (sym e))
at_end (x ∷ xs) a b zero n e = absurd (n e)
at_end (x ∷ xs) a b (suc j) n e = ap suc (at_end xs a b j n e)

abbrev All : (ℕ → Hand → Type 0) → List Hand → Type 0
All F views = (port : ℕ) (v : Hand) → get_elem? views port ≡ some v → F port v

all_set : (F : ℕ → Hand → Type 0) (views : List Hand) (port : ℕ) (w : Hand) → F port w → ((j : ℕ) (u : Hand) → j ≢ port → get_elem? views j ≡ some u → F j u) → All F (set views port w)
all_set F views port w mine others j u e = ⊎_elim (λ (x : (j ≡ port) × (w ≡ u)). subst (λ (y : ℕ × Hand). F y.0 y.1) (λ i. (sym x.0 i, x.1 i)) mine)
    (λ (x : (j ≢ port) × (get_elem? views j ≡ some u)). others j u x.0 x.1) (at_set views port j w u e)

pub begins : Relayed [] (hand true true [] [] ∷ [])
begins = (0, 0, [], [], refl, all_set (IsHandAt 0 0 [] []) (hand true true [] [] ∷ []) 0 (hand true true [] []) ((λ _. (refl, refl)), λ _. (refl, refl)) (λ j u other e. absurd (other (at_end [] _ u j (λ x. some-ne-none u (sym x)) e))))

pub sends : (n port : ℕ) (v : Hand) (x : Call) → v.pushes ≡ true → Pushes Relayed n port v x (λ w. w ≡ hand v.pushes v.pops (v.sent ++ x ∷ []) v.got)
sends n port v x may items views _ h at = let w : Hand = hand v.pushes v.pops (v.sent ++ x ∷ []) v.got in let mine = h.5 port v at in let sent = h.2 ++ x ∷ [] in (
  w,
  (
    h.0,
    h.1,
    sent,
    h.3,
    ap (λ l. l ++ x ∷ []) h.4 ∙ append_assoc h.3 items (x ∷ []),
    all_set (IsHandAt h.0 h.1 sent h.3) views port w ((λ _. ((mine.0 may).0, ap (λ l. l ++ x ∷ []) (mine.0 may).1)), mine.1)
        (λ j u other e. ((λ p. absurd (other (((h.5 j u e).0 p).0 ∙ sym (mine.0 may).0))), (h.5 j u e).1)),
  ),
  refl,
)

pub gets : (port : ℕ) (v : Hand) → v.pops ≡ true → Pops Relayed port v (λ x w. w ≡ hand v.pushes v.pops v.sent (v.got ++ x ∷ []))
gets port v may x items views h at = let w : Hand = hand v.pushes v.pops v.sent (v.got ++ x ∷ []) in let mine = h.5 port v at in let got = h.3 ++ x ∷ [] in (
  w,
  (
    h.0,
    h.1,
    h.2,
    got,
    h.4 ∙ sym (append_assoc h.3 (x ∷ []) items),
    all_set (IsHandAt h.0 h.1 h.2 got) views port w (mine.0, λ _. ((mine.1 may).0, ap (λ l. l ++ x ∷ []) (mine.1 may).1))
        (λ j u other e. ((h.5 j u e).0, λ p. absurd (other (((h.5 j u e).1 p).0 ∙ sym (mine.1 may).0)))),
  ),
  refl,
)

pub forks : (port : ℕ) (v : Hand) → v.pushes ≡ true → v.pops ≡ true → Forks Relayed port v (hand true false v.sent []) (hand false true [] v.got)
forks port v a b items views h at = let l : Hand = hand true false v.sent [] in let r : Hand = hand false true [] v.got in let mine = h.5 port v at in let vs : List Hand = set views port l in
    let Old : ℕ → Hand → Type 0 = λ j u. (u.pushes ≡ true → (j ≡ h.0) × (u.sent ≡ h.2)) × (u.pops ≢ true) in
    let old : All Old vs = all_set Old views port l ((λ _. mine.0 a), λ p. true≢false (sym p)) (λ j u other e. ((h.5 j u e).0, λ p. other (((h.5 j u e).1 p).0 ∙ sym (mine.1 b).0))) in (
      h.0,
      length vs,
      h.2,
      h.3,
      h.4,
      λ j u e. ⊎_elim (λ x. ((old j u x).0, λ p. absurd ((old j u x).1 p)))
          (λ (is : r ≡ u). ((λ p. absurd (true≢false (sym (ap (λ (y : Hand). y.pushes) is ∙ p)))), λ p. (at_end vs r u j (λ x. (old j u x).1 p) e, ap (λ (y : Hand). y.got) (sym is) ∙ (mine.1 b).1))) (at_snoc vs r u j e),
    )

-- the popper takes in the pusher
pub merges : (port : ℕ) (v : Hand) (other : ℕ) (u : Hand) → v.pops ≡ true → u.pushes ≡ true → Merges Relayed port v other u (hand true true u.sent v.got) (hand false false [] [])
merges port v other u a b items views h at two at' = let both : Hand = hand true true u.sent v.got in let mine = h.5 port v at in let vs : List Hand = set views port both in
    let was : get_elem? views other ≡ some u = ⊎_elim (λ x. absurd (two x.0)) (λ x. x.1) (at_set views port other both u at') in let theirs = (h.5 other u was).0 b in
    let Now : ℕ → Hand → Type 0 = λ j y. j ≢ other → IsHandAt port h.1 h.2 h.3 j y in
    let now : All Now vs = all_set Now views port both (λ _. ((λ _. (refl, theirs.1)), λ _. mine.1 a)) (λ j y _ e apart. ((λ p. absurd (apart (((h.5 j y e).0 p).0 ∙ sym theirs.0))), (h.5 j y e).1)) in
    (port, h.1, h.2, h.3, h.4, all_set (IsHandAt port h.1 h.2 h.3) vs other (hand false false [] []) ((λ p. absurd (true≢false (sym p))), λ p. absurd (true≢false (sym p))) (λ j y apart e. now j y e apart))

pub totals : (port : ℕ) (v : Hand) → Learns Relayed port v (λ items. v.pushes ≡ true → v.pops ≡ true → v.sent ≡ v.got ++ items)
totals port v items views h at a b = let mine = h.5 port v at in (mine.0 a).1 ∙ h.4 ∙ ap (λ l. l ++ items) (sym (mine.1 b).1)

pub ends : (port : ℕ) (v : Hand) → v.pushes ≡ true → Learns Relayed port v (HoldsEnd v)
ends port v a items views h at = let mine = h.5 port v at in (h.3, (mine.0 a).1 ∙ h.4)
