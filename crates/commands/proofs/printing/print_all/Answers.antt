use Rattle.std.proofs.Common.{◌≡◌, ◌∷◌, ◌+◌, suc, ap, sym, drop, add-one, drop-cons}
use Rattle.connection.proofs.Written.{on_err}
use Rattle.commands.proofs.Pieces.{printed_on, stopped_on}
use Rattle.commands.proofs.printing.print_all.Goals as goal

pub returns-in_err-print-clause-err : goal.returns-in_err-print-clause-err
returns-in_err-print-clause-err g c =
    let pieces = c.args.pieces.now in
    let i = c.loop-piece.piece-index in
    let p = c.piece-item.result in
    let here : drop i pieces ≡ p ∷ drop (i + 1) pieces =
    rw (add-one, drop-cons pieces i p c.loop-piece-test.true) (ap (λ q. q ∷ drop (suc i) pieces) (sym c.piece-item.is)) in
    on_err _ _ (stopped_on g.P.Piece.text pieces _ _ p _ _ _ c.loop-piece.invariant here c.in_err-print.ensures.err)

pub loop-piece-preserved : goal.loop-piece-preserved
loop-piece-preserved g c =
    let pieces = c.args.pieces.now in
    let i = c.loop-piece.piece-index in
    let p = c.piece-item.result in
    let here : drop i pieces ≡ p ∷ drop (i + 1) pieces =
    rw (add-one, drop-cons pieces i p c.loop-piece-test.true) (ap (λ q. q ∷ drop (suc i) pieces) (sym c.piece-item.is)) in
    printed_on g.P.Piece.text pieces _ _ p _ _ _ c.loop-piece.invariant here c.in_ok-print.ensures.ok
