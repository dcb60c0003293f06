use Rattle.std.proofs.Common.{◌≡◌, ◌<◌, ◌+◌, ◌&&◌, ◌∷◌, List, drop, true, refl, sym, ap, subst, ◌∙◌, arith}
use Rattle.std.specs.Prelude.{nat_le}
use Rattle.std.proofs.lemmas.Bool.{le-leb}
use Rattle.std.proofs.lemmas.List.{drop_more, drop_all}
use Rattle.version_order.specs.declared.vector.Component.{Component}
use Rattle.version_order.specs.Vector.{is_below}
use Rattle.version_order.proofs.Raising.{Listed, listed_of}
use Rattle.version_order.proofs.SideBySide.{rest_listed, skipped, paired, missed, ended}
use Rattle.version_order.proofs.vector.none_greater.Goals as goal
use Rattle.version_order.proofs.vector.none_greater.Goals.{then-own_number-other_number-2+else-get, else-own_number-other_number-2}

pub loop-other-init : goal.loop-other-init
loop-other-init c = record {
  tells = refl;
  own = listed_of c.args.first.now c.requires.first;
  others = listed_of c.args.second.now c.requires.second;
}

pub returns-then-own_number-other_number : goal.returns-then-own_number-other_number
returns-then-own_number-other_number c =
    let second = c.args.second.now in
    let i = c.loop-other.other-index in
    let d = c.other-item.result in
    let rest = drop (i + 1) second in
    let own = c.in-Some.own.now in
    let after = c.in-Some.after.now in
    let at : drop i second ≡ d ∷ rest = drop_more second i d c.loop-other-test.true ∙ ap (λ (x : Component). x ∷ rest) (sym c.other-item.is) in
    let left : c.loop-other.left.now ≡ own ∷ after = c.in-Some.ensures.cases.0 in
    let tells : is_below (own ∷ after) (d ∷ rest) ≡ is_below c.args.first.now second =
    sym (ap (λ (w : List Component). is_below w (drop i second)) left ∙ ap (is_below (own ∷ after)) at) ∙ c.loop-other.invariant.tells in
    let lt : own.principal < d.principal = omega (arith, c.get-own_number.ensures.same, c.get-other_number.ensures.same, c.if-own_number-other_number.true) in
    sym (missed own after d rest (subst Listed left c.loop-other.invariant.own) (subst Listed at c.loop-other.invariant.others) lt) ∙ tells

pub loop-other-preserved : goal.loop-other-preserved
loop-other-preserved c =
    let second = c.args.second.now in
    let i = c.loop-other.other-index in
    let d = c.other-item.result in
    let rest = drop (i + 1) second in
    let own = c.in-Some.own.now in
    let after = c.in-Some.after.now in
    let at : drop i second ≡ d ∷ rest = drop_more second i d c.loop-other-test.true ∙ ap (λ (x : Component). x ∷ rest) (sym c.other-item.is) in
    let left : c.loop-other.left.now ≡ own ∷ after = c.in-Some.ensures.cases.0 in
    let tells : is_below (own ∷ after) (d ∷ rest) ≡ is_below c.args.first.now second =
    sym (ap (λ (w : List Component). is_below w (drop i second)) left ∙ ap (is_below (own ∷ after)) at) ∙ c.loop-other.invariant.tells in
    let listed : Listed (own ∷ after) = subst Listed left c.loop-other.invariant.own in
    let others : Listed (d ∷ rest) = subst Listed at c.loop-other.invariant.others in
    elim c.if-own_number-other_number-2.branch [
      | then-own_number-other_number-2+else-get w ↦ (
          let one : own.principal ≡ d.principal = omega (arith, c.get-own_number.ensures.same, c.get-other_number.ensures.same, w.if-own_number-other_number-2.true) in
          let within : nat_le own.version d.version ≡ true = le-leb own.version d.version (omega (arith, w.get.ensures.same, w.get-then-own_number-other_number-2.ensures.same, w.if-get.false)) in
          rw w.left-is (record {
            tells = sym (ap (λ b. b && is_below after rest) within) ∙ sym (paired own after d rest listed one) ∙ tells;
            own = rest_listed own after listed;
            others = rest_listed d rest others;
          }))
      | else-own_number-other_number-2 w ↦
          let more : d.principal < own.principal = omega (arith, c.get-own_number.ensures.same, c.get-other_number.ensures.same, c.if-own_number-other_number.false, w.if-own_number-other_number-2.false) in
          rw w.left-is (record {
            tells = ap (λ (w : List Component). is_below w rest) left ∙ sym (skipped own after d rest listed more) ∙ tells;
            own = c.loop-other.invariant.own;
            others = rest_listed d rest others;
          })
    ]

pub returns : goal.returns
returns c =
    let left = c.loop-other.left.now in
    c.is_empty.ensures
    ∙ sym (ended left c.loop-other.invariant.own)
    ∙ sym (ap (is_below left) (drop_all c.loop-other.other-index c.args.second.now c.loop-other-test.false))
    ∙ c.loop-other.invariant.tells
