-- The groups that are left raise what the user and the groups so far have raised.
use Rattle.std.proofs.Common.{◌≡◌, ◌<◌, ◌+◌, ℕ, List, ◌∷◌, length, get_or, drop, refl, sym, ap, ◌∙◌}
use Rattle.std.proofs.lemmas.Bool.{lt-ltb}
use Rattle.std.proofs.lemmas.List.{at_drop_more}
use Rattle.version_order.specs.declared.vector.Component.{Component}
use Rattle.version_order.specs.Vector.{version_of, raised, raised_all, can_raise_all}
use Rattle.version_order.proofs.order.next_plan.Goals as goal

can_first : (p : ℕ) (ps : List ℕ) (v : List Component) → version_of p v < 4294967295 → can_raise_all ps (raised p v) ≡ can_raise_all (p ∷ ps) v
can_first p ps v below = rw (lt-ltb _ _ below) refl

raises_next : (ps : List ℕ) (k p : ℕ) (v : List Component) → k < length ps → p ≡ get_or ps k p → raised_all (drop (k + 1) ps) (raised p v) ≡ raised_all (drop k ps) v
raises_next ps k p v inside is =
    sym (at_drop_more (λ (qs : List ℕ). raised_all qs v) ps k p inside ∙ ap (λ (q : ℕ). raised_all (drop (k + 1) ps) (raised q v)) (sym is))

can_next : (ps : List ℕ) (k p : ℕ) (v : List Component) → k < length ps → p ≡ get_or ps k p → version_of p v < 4294967295 → can_raise_all (drop (k + 1) ps) (raised p v) ≡ can_raise_all (drop k ps) v
can_next ps k p v inside is below =
    can_first p (drop (k + 1) ps) v below
    ∙ sym (at_drop_more (λ (qs : List ℕ). can_raise_all qs v) ps k p inside ∙ ap (λ (q : ℕ). can_raise_all (q ∷ drop (k + 1) ps) v) (sym is))

pub loop-group-init : goal.loop-group-init
loop-group-init g c =
    let last = c.in_ok-vector.ensures in
    let at = c.from.ensures in
    let first : c.raise.new.self ≡ raised c.args.user c.args.last.now = rw (← at, ← last) c.in_ok-raise.ensures.ok in
    let below : version_of c.args.user c.args.last.now < 4294967295 = rw (← at, ← last) c.in_ok-raise.ensures.within in
    record {
      raises = ap (raised_all c.args.groups.now) first;
      can = ap (can_raise_all c.args.groups.now) first ∙ can_first c.args.user c.args.groups.now c.args.last.now below;
    }

pub loop-group-preserved : goal.loop-group-preserved
loop-group-preserved g c =
    let inv = c.loop-group.invariant in
    let ps = c.args.groups.now in
    let k = c.loop-group.group-index in
    let v = c.loop-group.vector in
    let p = c.group-item.result in
    let inside = c.loop-group-test.true in
    let at = c.from-in-loop-group.ensures in
    let more : c.raise-in-loop-group.new.self ≡ raised p v = rw (← at) c.in_ok-raise-2.ensures.ok in
    let below : version_of p v < 4294967295 = rw (← at) c.in_ok-raise-2.ensures.within in
    record {
      raises = ap (raised_all (drop (k + 1) ps)) more ∙ raises_next ps k p v inside c.group-item.is ∙ inv.raises;
      can = ap (can_raise_all (drop (k + 1) ps)) more ∙ can_next ps k p v inside c.group-item.is below ∙ inv.can;
    }
