use Rattle.std.proofs.Common.{List, arith, ℕ, ◌+◌, ◌∙◌, ◌≡◌, ap, length, slice_index_or, subst, sym}
use Rattle.std.proofs.lemmas.List.{get_or_past, length_push}
use Rattle.client_runs.specs.declared.slot.Slot.{Slot}
use Rattle.client_runs.specs.declared.slot.Slot.TheVariants as slot
use Rattle.client_runs.proofs.Ended.{one_more}
use Rattle.client_runs.proofs.carrying.unmade.Goals as goal

pub loop-init : goal.loop-init
loop-init g c =
    let none : length c.new-slots.result.items ≡ 0 = ap (λ (xs : List (Slot g.row.A.Denot)). length xs) c.new-slots.ensures.items in
    record { size = none; none = λ u. get_or_past c.new-slots.result.items u slot.Unmade (omega arith) }

pub loop-preserved : goal.loop-preserved
loop-preserved g c =
    let is = c.loop.invariant in
    let pushed = c.in_ok-push.ensures.items in
    record {
      size = ap (λ (xs : List (Slot g.row.A.Denot)). length xs) pushed ∙ length_push c.loop.slots.items slot.Unmade ∙ ap (λ (n : ℕ). n + 1) is.size;
      none = subst (λ (xs : List (Slot g.row.A.Denot)). (u : ℕ) → slice_index_or xs u slot.Unmade ≡ slot.Unmade) (sym pushed) (one_more c.loop.slots.items slot.Unmade is.none);
    }

pub returns-clause-size : goal.returns-clause-size
returns-clause-size g c = omega (arith, c.loop.invariant.size)

pub returns-clause-none : goal.returns-clause-none
returns-clause-none g c = c.loop.invariant.none
