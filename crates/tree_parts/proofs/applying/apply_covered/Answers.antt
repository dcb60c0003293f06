use Rattle.std.proofs.Common.{◌≡◌, true, false, sym, ap, ◌∙◌}
use Rattle.tree_parts.specs.Part.{slot_at}
use Rattle.tree_parts.specs.Asked.{covers}
use Rattle.tree_parts.proofs.AskedLaws.{elsewhere, elsewhere_too, on_ok}
use Rattle.tree_parts.proofs.TreeLaws.{within_left, within_made}
use Rattle.tree_parts.proofs.applying.apply_covered.Goals as goal

-- ---- a change that isn't in the scope

pub returns-then-not-covers-clause-slots : goal.returns-then-not-covers-clause-slots
returns-then-not-covers-clause-slots g c = λ reads agrees actor of one i.
    let change = c.args.change.now in
    let scope = c.args.scope.now in
    let none : covers scope change.i_number ≡ false = ap (covers scope) (sym c.i_number.ensures) ∙ sym c.covers.ensures ∙ c.if-not-covers.true in
    within_left reads actor c.args.part.now.table.principal i change (slot_at reads c.args.part.now i) (covers scope i) (λ covered. elsewhere scope change.i_number i none covered)

-- ---- one that is

pub returns-clause-slots : goal.returns-clause-slots
returns-clause-slots g c = λ reads agrees actor of one.
    let change = c.args.change.now in
    let scope = c.args.scope.now in
    let part = c.args.part.now in
    let covered : covers scope change.i_number ≡ true = ap (covers scope) (sym c.i_number.ensures) ∙ sym c.covers.ensures ∙ c.if-not-covers.false in
    on_ok c.apply_change.result _ _
    (λ slots i. within_made reads actor part.table.principal i change (slot_at reads part i) (slot_at reads c.apply_change.new.self i) (covers scope i) (λ none. elsewhere_too scope change.i_number i covered none) (slots i))
    (c.apply_change.ensures.slots reads agrees actor of one)

pub returns-clause-void : goal.returns-clause-void
returns-clause-void g c = λ reads agrees tree actor all is of one. c.apply_change.ensures.void reads agrees tree actor is of one
