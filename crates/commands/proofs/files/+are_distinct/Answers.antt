use Rattle.std.proofs.Common.{◌∙◌, ◌&&◌, ap, map, not, sym}
use Rattle.commands.specs.Files.{are_distinct, name_of}
use Rattle.commands.proofs.FileNames.{one_more}
use Rattle.commands.proofs.files.+are_distinct.Goals as goal

pub returns-then-not-is_among : goal.returns-then-not-is_among
returns-then-not-is_among t c =
    let later = are_distinct (map name_of c.in-Some.later.now) in
    c.are_distinct.ensures
    ∙ sym (one_more c.args.files.now c.in-Some.later.now c.in-Some.file.now c.in-Some.ensures.cases.0
    ∙ ap (λ b. not b && later) (sym c.is_among.ensures ∙ c.if-not-is_among.true))

pub returns-else-not-is_among : goal.returns-else-not-is_among
returns-else-not-is_among t c =
    let later = are_distinct (map name_of c.in-Some.later.now) in
    ap not c.if-not-is_among.false
    ∙ sym (one_more c.args.files.now c.in-Some.later.now c.in-Some.file.now c.in-Some.ensures.cases.0
    ∙ ap (λ b. not b && later) (sym c.is_among.ensures ∙ c.if-not-is_among.false))
