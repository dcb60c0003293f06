use Rattle.std.proofs.Common.{List, arith, ℕ, ◌+◌, ◌∙◌, ◌≡◌, ap, length}
use Rattle.std.proofs.lemmas.List.{get_or_past, length_push}
use Rattle.honest_runs.specs.declared.wanted.Wanted.{Wanted}
use Rattle.honest_runs.specs.Town.{nothing}
use Rattle.honest_runs.proofs.Keeping.{with_one_more}
use Rattle.honest_runs.proofs.wanted.nothing_wanted.Goals as goal

pub loop-init : goal.loop-init
loop-init g c =
    let none : length c.new-wanted.result.items ≡ 0 = ap (λ (xs : List Wanted). length xs) c.new-wanted.ensures.items in
    record { size = none; none = λ u. get_or_past c.new-wanted.result.items u nothing (omega arith) }

pub loop-preserved : goal.loop-preserved
loop-preserved g c =
    let is = c.loop.invariant in
    let pushed = c.in_ok-push.ensures.items in
    record {
      size = ap (λ (xs : List Wanted). length xs) pushed ∙ length_push c.loop.wanted.items nothing ∙ ap (λ (n : ℕ). n + 1) is.size;
      none = with_one_more c.loop.wanted.items c.push.new.self.items nothing pushed is.none;
    }

pub returns-clause-size : goal.returns-clause-size
returns-clause-size g c = omega (arith, c.loop.invariant.size)

pub returns-clause-none : goal.returns-clause-none
returns-clause-none g c = c.loop.invariant.none
