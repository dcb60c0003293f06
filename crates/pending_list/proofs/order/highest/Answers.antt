use Rattle.std.proofs.Common.{◌≡◌, suc, ◌+◌, ◌∷◌, List, drop, sym, ap, ◌∙◌, add-one, drop-cons}
use Rattle.std.specs.Option.{option_copied}
use Rattle.version_order.specs.Structure.{Structure}
use Rattle.pending_list.specs.declared.signed.Signed.{Signed}
use Rattle.pending_list.specs.Reply.{higher, top}
use Rattle.pending_list.proofs.Highest.{best_of, best_of_higher}
use Rattle.pending_list.proofs.order.highest.Goals.{in-Some, in-None}
use Rattle.pending_list.proofs.order.highest.Goals as goal

pub loop-structure-preserved : goal.loop-structure-preserved
loop-structure-preserved g c =
    let ss = c.args.structures.now in
    let i = c.loop-structure.structure-index in
    let x = c.structure-item.result in
    let rest = top (drop (i + 1) ss) in
    let here : drop i ss ≡ x ∷ drop (i + 1) ss = rw (add-one, drop-cons ss i x c.loop-structure-test.true) (ap (λ (y : Signed Structure). y ∷ drop (suc i) ss) (sym c.structure-item.is)) in
    let so_far : best_of (option_copied c.loop-structure.best) (higher x rest) ≡ top ss = ap (λ (l : List (Signed Structure)). best_of (option_copied c.loop-structure.best) (top l)) (sym here) ∙ c.loop-structure.invariant in
    elim c.match-best.branch [
      | in-Some w ↦
          ap (λ b. best_of (option_copied b) rest) w.best-is ∙ ap (λ o. best_of o rest) w.higher.ensures ∙ best_of_higher w.in-Some.best.now x rest
          ∙ ap (λ b. best_of (option_copied b) (higher x rest)) (sym w.in-Some.is) ∙ so_far
      | in-None w ↦ ap (λ b. best_of (option_copied b) rest) w.best-is ∙ ap (λ b. best_of (option_copied b) (higher x rest)) (sym w.in-None.is) ∙ so_far
    ]
