use Rattle.std.proofs.Common.{◌≡◌, ◌*◌, ◌++◌, drop, map}
use Rattle.layout.specs.Hash.{hash}
use Rattle.itable.specs.File.{blocks_of}
use Rattle.itable.proofs.file.push_eight.Given as goal

abbrev pub invariant-loop-number : goal.invariant-loop-number
invariant-loop-number g l =
    l.digests.items ++ map hash (blocks_of (drop (4096 * l.number) l.bytes)) ≡ l.initial.digests.items ++ map hash (blocks_of l.bytes)
