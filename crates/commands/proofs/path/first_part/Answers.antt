use Rattle.std.proofs.Common.{◌==◌, ◌∙◌, ◌∷◌, Some, None, ap₂, sym, arith}
use Rattle.std.proofs.lemmas.List.Splits.{slice_split_first}
use Rattle.std.proofs.lemmas.Str.Pattern.{split_once_first}
use Rattle.commands.specs.Paths.{parts}
use Rattle.commands.proofs.PathText.{one_part}
use Rattle.commands.proofs.path.first_part.Goals as goal

pub returns-in-Some : goal.returns-in-Some
returns-in-Some c =
    let text = c.args.text.now in
    let found = split_once_first 47 text (Some (c.in-Some.part, c.in-Some.rest)) c.in-Some.ensures.cases (omega arith) in
    slice_split_first (λ b. b == 47) text 0 found.0 ∙ ap₂ (λ part rest. part ∷ parts rest) (sym found.1) (sym found.2)

pub returns-in-None : goal.returns-in-None
returns-in-None c =
    let text = c.args.text.now in
    one_part text (split_once_first 47 text None c.in-None.ensures.cases (omega arith))
