use Rattle.std.proofs.Common.{rules, ◌≡◌, ◌++◌, ◌∙◌, codes, decimal}
use Rattle.commands.proofs.Pieces.{err_as, six}
use Rattle.commands.proofs.printing.EntryPiece.print.Goals as goal

pub returns-clause-err : goal.returns-clause-err
returns-clause-err g c =
    let e = c.args.self.now in
    let name : c.as_bytes.result.now ≡ e.name = search rules in
    let principal : c.as_bytes-2.result.now ≡ decimal e.target.principal = search rules in
    let i_number : c.as_bytes-3.result.now ≡ decimal e.target.i_number = search rules in
    err_as _ _ _ _ _ c.print_all.ensures.err
    ((λ i. name i ++ (codes " " ++ (principal i ++ (codes ":" ++ (i_number i ++ codes "\n")))))
    ∙ six e.name (codes " ") (decimal e.target.principal) (codes ":") (decimal e.target.i_number) (codes "\n"))
