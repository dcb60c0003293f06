-- Vectors that are compared component by component.
use Rattle.std.proofs.Common.{◌≡◌, Bool, true, false, List, [], ◌∷◌, refl, sym, ap, subst, ◌∙◌}
use Rattle.std.specs.Prelude.{◌↔◌, IsTrue}
use Rattle.std.proofs.lemmas.Bool.{eqb-true, eq-eqb}
use Rattle.version_order.specs.declared.vector.Component.{Component}
use Rattle.reply_rules.specs.Rules.{same_version, same_vector}
use Rattle.reply_rules.proofs.Tests.{both, is_false}

same_version_is : (a b : Component) → same_version a b ≡ true → a ≡ b
same_version_is a b h =
    let tests = both _ _ h in
    let p : a.principal ≡ b.principal = eqb-true _ _ tests.0 in
    let v : a.version ≡ b.version = eqb-true _ _ tests.1 in
    ap (λ n. record { principal = n; version = a.version }) p ∙ ap (λ n. record { principal = b.principal; version = n }) v

pub same_vector_is : (v w : List Component) → same_vector v w ≡ true → v ≡ w
same_vector_is [] [] h = refl
same_vector_is [] (b ∷ bs) h = absurd cc
same_vector_is (a ∷ as') [] h = absurd cc
same_vector_is (a ∷ as') (b ∷ bs) h =
    let tests = both _ _ h in
    let head : a ≡ b = same_version_is a b tests.0 in
    let tail : as' ≡ bs = same_vector_is as' bs tests.1 in
    ap (λ (c : Component). c ∷ as') head ∙ ap (λ (cs : List Component). b ∷ cs) tail

pub same_vector_self : (v : List Component) → same_vector v v ≡ true
same_vector_self [] = refl
same_vector_self (a ∷ as') = rw (eq-eqb a.principal a.principal refl, eq-eqb a.version a.version refl, same_vector_self as') refl

-- a test that tells whether two vectors are one tells whether they are the same
pub same_by : (b : Bool) (v w : List Component) → (IsTrue b ↔ (v ≡ w)) → b ≡ same_vector v w
same_by true v w h = let e : v ≡ w = h.0 refl in sym (subst (λ (z : List Component). same_vector v z ≡ true) e (same_vector_self v))
same_by false v w h = sym (is_false _ (λ t. let e : false ≡ true = h.1 (same_vector_is v w t) in cc))
