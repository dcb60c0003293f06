use Rattle.std.proofs.Common.{◌≡◌, ◌++◌, drop, map}
use Rattle.std.specs.Vec.{vec_items}
use Rattle.layout.specs.Hash.{hash}
use Rattle.checked_blocks.proofs.digests.push_each.Given as goal

abbrev pub invariant-loop-text : goal.invariant-loop-text
invariant-loop-text g l =
    l.digests.items ++ map hash (map vec_items (drop l.text-index l.texts)) ≡ l.initial.digests.items ++ map hash (map vec_items l.texts)
