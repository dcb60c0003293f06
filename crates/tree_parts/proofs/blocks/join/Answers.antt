use Rattle.std.proofs.Common.{sym, ap, ◌∙◌}
use Rattle.std.specs.Option.{option_copied}
use Rattle.tree_parts.proofs.Joins.{joined_next, joined_lacks, joined_all}
use Rattle.tree_parts.proofs.blocks.join.Goals as goal

pub returns-in_default : goal.returns-in_default
returns-in_default g c =
    let none = sym c.get.ensures.text ∙ ap option_copied c.in_default.is in
    joined_lacks _ _ c.digest-item.result _ _ _ c.loop-digest-test.true c.digest-item.is none c.loop-digest.invariant

pub loop-digest-preserved : goal.loop-digest-preserved
loop-digest-preserved g c =
    let held = sym c.get.ensures.text ∙ ap option_copied c.in-Some.is in
    joined_next _ c.loop-digest.all.items _ c.in-Some.text.now c.digest-item.result _ _ _ c.loop-digest-test.true c.digest-item.is held c.in_ok-extend_from_slice.ensures.items c.loop-digest.invariant

pub returns : goal.returns
returns g c = joined_all _ _ _ _ _ c.loop-digest-test.false c.loop-digest.invariant
