use Rattle.std.proofs.Common.{◌≡◌, suc, ◌+◌, ◌∷◌, List, drop, sym, ap, ◌∙◌, add-one, drop-cons, arith}
use Rattle.std.proofs.lemmas.List.{drop_all}
use Rattle.version_order.specs.Structure.{Structure}
use Rattle.pending_list.specs.declared.signed.Signed.{Signed}
use Rattle.reply_rules.proofs.TopEntry.{one_left, found, entries_left, top_left, some_left}
use Rattle.reply_rules.proofs.entries.entry_of_top.Goals as goal

pub split_at-requires : goal.split_at-requires
split_at-requires g c =
    let ss = c.args.structures.now in
    let i = c.loop-structure.structure-index in
    let z = c.structure-item.result in
    let here : drop i ss ≡ z ∷ drop (i + 1) ss = rw (add-one, drop-cons ss i z c.loop-structure-test.true) (ap (λ (y : Signed Structure). y ∷ drop (suc i) ss) (sym c.structure-item.is)) in
    one_left (drop i ss) (drop (i + 1) ss) z c.loop-structure.rest.now here c.loop-structure.invariant.made

pub returns-then-not-outranks : goal.returns-then-not-outranks
returns-then-not-outranks g c =
    let ss = c.args.structures.now in
    let i = c.loop-structure.structure-index in
    let z = c.structure-item.result in
    let here : drop i ss ≡ z ∷ drop (i + 1) ss = rw (add-one, drop-cons ss i z c.loop-structure-test.true) (ap (λ (y : Signed Structure). y ∷ drop (suc i) ss) (sym c.structure-item.is)) in
    found (drop i ss) (drop (i + 1) ss) z c.args.best.now c.loop-structure.rest.now c.split_at.result.0.now here c.loop-structure.invariant.made c.loop-structure.invariant.best (sym c.outranks.ensures ∙ c.if-not-outranks.true) c.split_at.ensures.front

pub loop-structure-preserved : goal.loop-structure-preserved
loop-structure-preserved g c =
    let ss = c.args.structures.now in
    let i = c.loop-structure.structure-index in
    let z = c.structure-item.result in
    let here : drop i ss ≡ z ∷ drop (i + 1) ss = rw (add-one, drop-cons ss i z c.loop-structure-test.true) (ap (λ (y : Signed Structure). y ∷ drop (suc i) ss) (sym c.structure-item.is)) in
    record {
      made = entries_left (drop i ss) (drop (i + 1) ss) z c.loop-structure.rest.now c.split_at.result.1.now here c.loop-structure.invariant.made c.split_at.ensures.back;
      best = top_left (drop i ss) (drop (i + 1) ss) z c.args.best.now here c.loop-structure.invariant.best (sym c.outranks.ensures ∙ c.if-not-outranks.false);
    }

pub returns : goal.returns
returns g c =
    let ss = c.args.structures.now in
    let i = c.loop-structure.structure-index in
    absurd (some_left (drop i ss) c.args.best.now (drop_all i ss (omega (arith, c.loop-structure-test.false))) c.loop-structure.invariant.best)
