use Rattle.std.proofs.Common.{◌∙◌, ap, sym}
use Rattle.clap.specs.Words.{found_of, rows_of}
use Rattle.file_commands.specs.Lines.{order_met}
use Rattle.file_commands.proofs.LineLemmas.{subcommand_met}
use Rattle.file_commands.proofs.reading.met.Goals as goal

pub returns-in-Some : goal.returns-in-Some
returns-in-Some c =
    let rows = rows_of (found_of c.in-Some.inner.now) in
    let is = subcommand_met c.args.matches.now c.in-Some.name.now rows c.in-Some.ensures.name c.in-Some.ensures.rows in
    c.wanted.ensures ∙ ap order_met (sym is)
