use Rattle.std.proofs.Common.{◌≡◌, Some, take}
use Rattle.std.specs.Prelude.{filter}
use Rattle.principals.specs.Table.{Table}
use Rattle.update_cert.specs.World.{Principals, Tree}
use Rattle.update_cert.specs.Reading.{Reading}
use Rattle.client_tree.specs.View.{after_items, is_superusers}
use Rattle.client_tree.proofs.named.after_others.Given as goal

abbrev pub invariant-loop-item : goal.invariant-loop-item
invariant-loop-item g l =
    (reads : Reading) (t : Table) (tree : Tree) → tree 0 1 ≡ Some (Principals l.fn.named) → after_items reads t (filter is_superusers (take l.item-index l.fn.others)) tree 0 1 ≡ Some (Principals l.table)
