use Rattle.std.proofs.Common.{◌≡◌, ◌+◌, ℕ, List, drop, subst, sym, ap, ◌∙◌}
use Rattle.std.specs.Prelude.{IsTrue, ◌↔◌}
use Rattle.std.proofs.lemmas.List.{drop_all}
use Rattle.version_order.specs.declared.vector.Component.{Component}
use Rattle.version_order.specs.Vector.{version_of, raised, raised_all, vector}
use Rattle.reply_rules.specs.Rules.{same_vector}
use Rattle.reply_rules.proofs.RaisedLaws.{too_great}
use Rattle.reply_rules.proofs.SameVector.{same_by}
use Rattle.reply_rules.proofs.VectorLaws.{next_raised}
use Rattle.reply_rules.proofs.vector.follows.Goals as goal

pub returns-then-not-branch-clause-follows : goal.returns-then-not-branch-clause-follows
returns-then-not-branch-clause-follows g c =
    let own = c.args.plan.now.vector in
    let w = c.args.next.now in
    let u = c.args.plan.now.user in
    let fits : vector.Fits own = subst (λ (v : List Component). vector.Fits v) c.vector.ensures c.components-fits.ensures.fits in
    let user : c.from.result ≡ u = cc in
    let last : version_of u w ≡ 4294967295 = subst (λ (p : ℕ). version_of p w ≡ 4294967295) user (c.in_ok-raise.ensures.last c.if-not-branch.true) in
    sym (too_great own w u c.args.groups.now fits last)

pub returns-then-not-branch-2-clause-follows : goal.returns-then-not-branch-2-clause-follows
returns-then-not-branch-2-clause-follows g c =
    let own = c.args.plan.now.vector in
    let gs = c.args.groups.now in
    let v = c.loop-group.next in
    let k = c.loop-group.group-index in
    let h = c.group-item.result in
    let fits : vector.Fits own = subst (λ (v : List Component). vector.Fits v) c.vector.ensures c.components-fits.ensures.fits in
    let group : c.from-in-loop-group.result ≡ h = cc in
    let last : version_of h v ≡ 4294967295 = subst (λ (p : ℕ). version_of p v ≡ 4294967295) group (c.in_ok-raise-2.ensures.last c.if-not-branch-2.true) in
    sym (ap (same_vector own) (sym c.loop-group.invariant ∙ next_raised v gs k h c.loop-group-test.true c.group-item.is) ∙ too_great own v h (drop (k + 1) gs) fits last)

pub returns-clause-follows : goal.returns-clause-follows
returns-clause-follows g c =
    let own = c.args.plan.now.vector in
    let gs = c.args.groups.now in
    let v = c.loop-group.next in
    let after : List Component = raised_all gs (raised c.args.plan.now.user c.args.next.now) in
    let all : v ≡ after = sym (ap (λ (hs : List ℕ). raised_all hs v) (drop_all c.loop-group.group-index gs c.loop-group-test.false)) ∙ c.loop-group.invariant in
    same_by c.same.result own after
    (subst (λ (z : List Component). IsTrue c.same.result ↔ (own ≡ z)) all (subst (λ (z : List Component). IsTrue c.same.result ↔ (z ≡ v)) c.vector-2.ensures c.same.ensures))
