use Rattle.std.proofs.Common.{rules, ◌≡◌}
use Rattle.commands.specs.Answers.{row_text}
use Rattle.commands.proofs.Pieces.{err_as}
use Rattle.commands.proofs.printing.RowPiece.print.Goals as goal

pub returns-clause-err : goal.returns-clause-err
returns-clause-err g c =
    let r = c.args.self.now in
    let kind : c.kind.result ≡ r.kind = search rules in
    let target : c.target.result ≡ r.entry.target = search rules in
    let name : c.as_bytes.result.now ≡ r.entry.name = search rules in
    err_as _ _ _ _ _ c.write_row.ensures.err (λ i. row_text (kind i) (target i) (name i))
