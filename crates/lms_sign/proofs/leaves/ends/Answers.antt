use Rattle.std.proofs.Common.{◌≡◌, ℕ, List, slice_index, ap, ◌∙◌, arith}
use Rattle.lms_sign.specs.Chains.{step, value_of}
use Rattle.lms_sign.proofs.Grouped.{drawn_is, value_more}
use Rattle.lms_sign.proofs.leaves.ends.Goals as goal

pub loop-number-init : goal.loop-number-init
loop-number-init c i lt =
    let id : List ℕ = c.args.id.now in
    let leaf : ℕ = slice_index c.args.leaves i in
    c.step_each-value.ensures i lt ∙ ap (step id leaf c.args.chain 255) (c.same.ensures i lt) ∙ drawn_is c.args.seed.now id leaf c.args.chain

pub loop-number-preserved : goal.loop-number-preserved
loop-number-preserved c i lt =
    let id : List ℕ = c.args.id.now in
    let leaf : ℕ = slice_index c.args.leaves i in
    let number : ℕ = c.loop-number.number in
    c.step_each-value-in-loop-number.ensures i lt ∙ ap (step id leaf c.args.chain number) (c.loop-number.invariant i lt) ∙ value_more c.args.seed.now id leaf c.args.chain number

pub returns : goal.returns
returns c i lt =
    let all : c.loop-number.number ≡ 15 = omega arith in
    c.loop-number.invariant i lt ∙ ap (λ n. value_of c.args.seed.now c.args.id.now (slice_index c.args.leaves i) n c.args.chain) all
