use Rattle.std.proofs.Common.{◌≡◌, take}
use Rattle.record_log.specs.Records.{chain, AllShort}
use Rattle.record_log.proofs.laying.laid_out.Given as goal

abbrev pub invariant-loop-one : goal.invariant-loop-one
invariant-loop-one g l = (l.bytes.items ≡ chain (take l.one-index l.added)) × AllShort (take l.one-index l.added)
