use Rattle.std.proofs.Common.{◌≡◌, ℕ, Some, drop, take}
use Rattle.std.specs.Ordering.{nat_cmp}
use Rattle.layout.specs.Ascending.{row_at}
use Rattle.itable.specs.Chunk.{chunk_number}
use Rattle.itable.specs.Root.{number_of}
use Rattle.tree_parts.specs.Blocks.{told_by}
use Rattle.std.specs.List.{All}
use Rattle.itable.specs.ITable.{digest_at, listings}
use Rattle.client_tree.proofs.TableLaws.{IsTaken}
use Rattle.client_tree.proofs.tables.read_table.Given as goal

abbrev pub invariant-loop-listed : goal.invariant-loop-listed
invariant-loop-listed g l = record {
  principal : l.table.principal ≡ l.fn.principal;
  listed : listings l.table ≡ l.listed-items;
  unloaded : l.table.unloaded ≡ drop l.listed-index l.listed-items;
  told : (i : ℕ) → told_by (g.B.Blocks.held l.blocks) i (row_at nat_cmp number_of (take l.listed-index l.listed-items) (chunk_number i)) ≡ Some (digest_at l.table i);
  taken : All (IsTaken (g.B.Blocks.held l.blocks) l.fn.principal) (take l.listed-index l.listed-items);
}
