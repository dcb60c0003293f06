use Rattle.std.proofs.Common.{◌≡◌, ◌++◌, drop}
use Rattle.std.specs.List.{flat_map}
use Rattle.std.specs.Vec.{vec_items}
use Rattle.checked_blocks.proofs.digests.joined.Given as goal

abbrev pub invariant-loop-text : goal.invariant-loop-text
invariant-loop-text g l = l.all.items ++ flat_map vec_items (drop l.text-index l.texts) ≡ flat_map vec_items l.texts
