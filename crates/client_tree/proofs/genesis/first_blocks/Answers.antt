use Rattle.std.proofs.Common.{◌≡◌, ap, ◌∙◌, arith}
use Rattle.client_tree.specs.Genesis.{common_texts, first_table_texts, first_blocks}
use Rattle.client_tree.proofs.Firsts.{none_first, one_first}
use Rattle.client_tree.proofs.genesis.first_blocks.Goals as goal

pub loop-number-init : goal.loop-number-init
loop-number-init g c = none_first c.args.key.now _ (common_texts c.args.key.now) (first_table_texts c.args.key.now) c.in_ok-blocks.ensures

pub loop-number-preserved : goal.loop-number-preserved
loop-number-preserved g c =
    let key = c.args.key.now in
    one_first (first_table_texts key) c.loop-number.blocks c.keep_all.new.self (common_texts key) _ c.loop-number.number c.in_ok-keep_all.ensures.kept
    (c.in_ok-first_table_texts.ensures ∙ ap (first_table_texts key) c.in-Some.ensures) c.loop-number.invariant

pub returns : goal.returns
unfolding first_blocks
returns g c =
    let all : c.loop-number.number ≡ 96 = let least = c.loop-number-test.false in let most = c.loop-number.auto.number-end in omega (arith, least, most) in
    rw all at c.loop-number.invariant
