use Rattle.std.proofs.Common.{◌≡◌, [], ◌++◌}
use Rattle.std.specs.List.{flat_map, range_with_len}
use Rattle.client_tree.specs.Held.{keeping_all}
use Rattle.client_tree.specs.Genesis.{common_texts, first_table_texts}
use Rattle.client_tree.proofs.genesis.first_blocks.Given as goal

abbrev pub invariant-loop-number : goal.invariant-loop-number
invariant-loop-number g l = l.blocks ≡ keeping_all [] (common_texts l.fn.key ++ flat_map (first_table_texts l.fn.key) (range_with_len 0 l.number))
