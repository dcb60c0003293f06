use Rattle.std.proofs.Common.{◌≡◌, ◌+◌, ◌≤◌, length, map, vec_len, vec_capacity}
use Rattle.std.specs.Vec.{vec_items}
use Rattle.std.specs.Vec.Iter.{into_iter_items, into_iter_len}
use Rattle.client_tree.specs.Held.{AreHeld, keeping_all}
use Rattle.client_tree.proofs.held.Held.keep_all.Given as goal

abbrev pub invariant-loop-text : goal.invariant-loop-text
invariant-loop-text g l = record {
  can : (goal.iterator-loop-text g).can_next l.text-iterator;
  ends : (goal.iterator-loop-text g).is_finite l.text-iterator;
  held : AreHeld l.self-inside.blocks.items;
  count : into_iter_len l.text-iterator ≡ length (into_iter_items l.text-iterator);
  room : vec_len l.self-inside.blocks + into_iter_len l.text-iterator ≤ vec_capacity l.self-inside.blocks;
  kept : keeping_all l.self-inside.blocks.items (map vec_items (into_iter_items l.text-iterator)) ≡ keeping_all l.fn.self (map vec_items l.fn.texts.items);
}
