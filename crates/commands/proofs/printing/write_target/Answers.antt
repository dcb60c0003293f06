use Rattle.std.proofs.Common.{rules, ◌≡◌, ◌++◌, ◌∙◌, codes, decimal}
use Rattle.commands.proofs.Pieces.{err_as, four}
use Rattle.commands.proofs.printing.write_target.Goals as goal

pub returns-clause-err : goal.returns-clause-err
returns-clause-err g c =
    let t = c.args.target in
    let principal : c.as_bytes.result.now ≡ decimal t.principal = search rules in
    let i_number : c.as_bytes-2.result.now ≡ decimal t.i_number = search rules in
    err_as _ _ _ _ _ c.print_all.ensures.err
    ((λ i. principal i ++ (codes ":" ++ (i_number i ++ codes " ")))
    ∙ four (decimal t.principal) (codes ":") (decimal t.i_number) (codes " "))
