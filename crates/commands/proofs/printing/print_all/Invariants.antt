use Rattle.std.specs.Prelude.{drop}
use Rattle.commands.proofs.Pieces.{PrintedSo}
use Rattle.commands.proofs.printing.print_all.Given as goal

abbrev pub invariant-loop-piece : goal.invariant-loop-piece
invariant-loop-piece g l = PrintedSo g.P.Piece.text l.pieces (drop l.piece-index l.pieces) (g.W.Write.contents l.initial.writer) (g.W.Write.contents l.writer)
