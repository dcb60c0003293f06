use Rattle.std.proofs.Common.{◌≡◌, ◌≤◌, ℕ, false, arith, sym, subst, ◌∙◌}
use Rattle.std.specs.Prelude.{IsSome}
use Rattle.update_cert.specs.World.{is_table}
use Rattle.tree_parts.specs.Asked.{Lacks}
use Rattle.client_tree.specs.View.{shown}
use Rattle.client_tree.specs.Opened.{HasOpeningAt}
use Rattle.client_tree.specs.Questions.{AreMapped, IsAskedForFree}
use Rattle.client_tree.proofs.OpenedLaws.{handed_on}
use Rattle.client_tree.proofs.QuestionLaws.{each_next, is_free, lacks_there, mapped_next}
use Rattle.client_tree.proofs.view.View.search.Goals as goal

-- ---- a block by which the part is opened at an i-number is missing

pub returns-in_err-is_mapped-clause-missing : goal.returns-in_err-is_mapped-clause-missing
returns-in_err-is_mapped-clause-missing g c =
    let held = g.B.Blocks.held c.args.blocks.now in
    let x = c.args.self.now in
    let p = c.args.principal in
    let first = c.args.first in
    let i = c.in-Some.i_number in
    let e = c.in_err-is_mapped.field-0.0 in
    let inv = c.loop-number.invariant in
    let same : i ≡ c.loop-number.number = c.in-Some.ensures in
    let least : first ≤ i = omega (arith, same, inv.from) in
    let most : i ≤ c.args.last = omega (arith, same, c.loop-number-test.true, c.get-past.ensures.same) in
    let missing = c.in_err-is_mapped.ensures.missing in
    handed_on c.from_residual.result e (Lacks held (IsAskedForFree held x p first c.args.last)) c.from_residual.ensures.1
    (lacks_there held x p first c.args.last i e c.requires.place least most missing.0 (subst (AreMapped held x p first) (sym same) inv.mapped) missing.1)

pub is_mapped-requires : goal.is_mapped-requires
is_mapped-requires g c = record { before = c.loop-number.invariant.part; read = c.loop-number.invariant.read }

-- ---- nothing stands at this i-number

pub returns-then-not-is_mapped-clause-free : goal.returns-then-not-is_mapped-clause-free
returns-then-not-is_mapped-clause-free g c = λ reads agrees users.
    let held = g.B.Blocks.held c.args.blocks.now in
    let x = c.args.self.now in
    let p = c.args.principal in
    let first = c.args.first in
    let i = c.in-Some.i_number in
    let inv = c.loop-number.invariant in
    let same : i ≡ c.loop-number.number = c.in-Some.ensures in
    let least : first ≤ i = omega (arith, same, inv.from) in
    let most : i ≤ c.args.last = omega (arith, same, c.loop-number-test.true, c.get-past.ensures.same) in
    let below : AreMapped held x p first i = subst (AreMapped held x p first) (sym same) inv.mapped in
    (least, most, is_free (shown reads users x p i) (sym c.if-not-is_mapped.true ∙ c.in_ok-is_mapped.ensures.mapped reads agrees users), below reads agrees users)

pub returns-then-not-is_mapped-clause-taken : goal.returns-then-not-is_mapped-clause-taken
returns-then-not-is_mapped-clause-taken g c =
    let held = g.B.Blocks.held c.args.blocks.now in
    let x = c.args.self.now in
    let p = c.args.principal in
    let i = c.in-Some.i_number in
    let inv = c.loop-number.invariant in
    let same : i ≡ c.loop-number.number = c.in-Some.ensures in
    λ j searched. each_next (λ (k : ℕ). is_table p k ≡ false → HasOpeningAt held x p k) c.args.first i (λ k from below. inv.searched k from (omega (arith, below, same))) c.in_ok-is_mapped.ensures.taken j searched.0 (omega (arith, searched.1))

-- ---- something stands there

pub loop-number-preserved : goal.loop-number-preserved
loop-number-preserved g c =
    let held = g.B.Blocks.held c.args.blocks.now in
    let x = c.args.self.now in
    let p = c.args.principal in
    let first = c.args.first in
    let n = c.loop-number.number in
    let i = c.in-Some.i_number in
    let inv = c.loop-number.invariant in
    let same : i ≡ n = c.in-Some.ensures in
    let done = c.in_ok-is_mapped.ensures in
    let here : is_table p n ≡ false → HasOpeningAt held x p n = subst (λ (k : ℕ). is_table p k ≡ false → HasOpeningAt held x p k) same done.taken in
    record {
      part = done.before;
      read = done.read;
      from = omega (arith, inv.from);
      searched = each_next (λ (k : ℕ). is_table p k ≡ false → HasOpeningAt held x p k) first n inv.searched here;
      mapped = mapped_next held x p first n inv.mapped (λ reads agrees users. subst (λ (k : ℕ). IsSome (shown reads users x p k)) same (sym (done.mapped reads agrees users) ∙ c.if-not-is_mapped.false));
    }

-- ---- at each of them

pub returns-clause-free : goal.returns-clause-free
returns-clause-free g c = λ reads agrees users j least most. c.loop-number.invariant.mapped reads agrees users j least (omega (arith, most, c.loop-number-test.false, c.get-past.ensures.same))

pub returns-clause-taken : goal.returns-clause-taken
returns-clause-taken g c = λ j searched. c.loop-number.invariant.searched j searched.0 (omega (arith, searched.1, c.loop-number-test.false, c.get-past.ensures.same))
