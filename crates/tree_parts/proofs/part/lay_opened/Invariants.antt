use Rattle.std.proofs.Common.{◌≡◌, ℕ, map, take}
use Rattle.std.specs.List.{All}
use Rattle.std.specs.Option.{option_map}
use Rattle.std.specs.Vec.{vec_items}
use Rattle.itable.specs.ITable.{digest_at}
use Rattle.tree_parts.specs.Part.{slot_here}
use Rattle.tree_parts.specs.Slots.{IsReadBack, changed_texts, slot_digest}
use Rattle.tree_parts.proofs.part.lay_opened.Given as goal

abbrev pub invariant-loop-open : goal.invariant-loop-open
invariant-loop-open g l = record {
  principal : l.table.principal ≡ l.fn.table.principal;
  unloaded : l.table.unloaded ≡ l.fn.table.unloaded;
  digests : (i : ℕ) → digest_at l.table i ≡ option_map slot_digest (slot_here (record { before = l.fn.before; table = l.fn.table; opened = take l.open-index l.fn.opened }) i);
  texts : map vec_items l.texts.items ≡ changed_texts (g.B.Blocks.held l.fn.blocks) l.fn.before l.fn.table (take l.open-index l.fn.opened);
  read_back : All (λ o. IsReadBack o.entries) (take l.open-index l.fn.opened);
}
