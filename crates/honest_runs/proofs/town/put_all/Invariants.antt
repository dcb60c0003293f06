use Rattle.std.proofs.Common.{◌≡◌, map, take}
use Rattle.std.specs.Vec.{vec_items}
use Rattle.client_tree.specs.Held.{keeping_all}
use Rattle.honest_runs.proofs.town.put_all.Given as goal

abbrev pub invariant-loop-text : goal.invariant-loop-text
invariant-loop-text g l = l.store ≡ keeping_all l.fn.store (map vec_items (take l.text-index l.texts))
