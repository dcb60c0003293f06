use Rattle.std.proofs.Common.{rules, ◌≡◌, ◌++◌, ◌∙◌, codes, decimal}
use Rattle.reply_rules.specs.Number.{number_of}
use Rattle.commands.specs.Answers.{name_of_rule}
use Rattle.commands.proofs.Pieces.{err_as, five}
use Rattle.commands.proofs.printing.write_broken.Goals as goal

pub returns-clause-err : goal.returns-clause-err
returns-clause-err g c =
    let rule = c.args.rule in
    let word : c.as_slice.result.now ≡ codes "broken " = search rules in
    let number : c.as_bytes.result.now ≡ decimal (number_of rule) = search rules in
    let name : c.as_bytes-2.result.now ≡ name_of_rule rule = search rules in
    err_as _ _ _ _ _ c.print_all.ensures.err
    ((λ i. word i ++ (number i ++ (codes " " ++ (name i ++ codes "\n"))))
    ∙ five (codes "broken ") (decimal (number_of rule)) (codes " ") (name_of_rule rule) (codes "\n"))
