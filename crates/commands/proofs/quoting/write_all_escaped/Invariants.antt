use Rattle.std.specs.Prelude.{drop}
use Rattle.commands.specs.Quoting.{escaped}
use Rattle.commands.proofs.Pieces.{PrintedSo}
use Rattle.commands.proofs.quoting.write_all_escaped.Given as goal

abbrev pub invariant-loop-byte : goal.invariant-loop-byte
invariant-loop-byte g l = PrintedSo escaped l.name (drop l.byte-index l.name) (g.W.Write.contents l.initial.writer) (g.W.Write.contents l.writer)
