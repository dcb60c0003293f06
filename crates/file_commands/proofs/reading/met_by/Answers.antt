use Rattle.std.proofs.Common.{◌∙◌, map, ap, Ok, Err, sym}
use Rattle.clap.specs.Words.{app_of, is_simple_and_free, subcommand_of}
use Rattle.file_commands.specs.Lines.{command_of, order_met, order_of}
use Rattle.file_commands.specs.Words.{line_app}
use Rattle.file_commands.proofs.LineLemmas.{is_why, line_simple, read_err, read_ok}
use Rattle.file_commands.proofs.reading.met_by.Goals as goal

pub matched-requires : goal.matched-requires
matched-requires g c = ap is_simple_and_free c.requires ∙ line_simple

pub returns-in-Ok-met : goal.returns-in-Ok-met
returns-in-Ok-met g c =
    sym (read_ok line_app (app_of c.args.command.now) (map g.S.AsStr.text c.args.words.now) c.in-Ok.matches (λ _. order_met) (Ok (order_of c.in-Ok-met.wanted))
    c.requires line_simple c.in-Ok.ensures.ok c.in-Ok.ensures.none c.in-Ok-met.ensures)

pub returns-in-Ok : goal.returns-in-Ok
returns-in-Ok g c =
    let words = map g.S.AsStr.text c.args.words.now in
    is_why c.refuse.result c.in-Err-met.unread (command_of words) c.refuse.ensures
    (read_ok line_app (app_of c.args.command.now) words c.in-Ok.matches (λ _. order_met) (Err c.in-Err-met.unread)
    c.requires line_simple c.in-Ok.ensures.ok c.in-Ok.ensures.none c.in-Err-met.ensures)

pub returns : goal.returns
returns g c =
    let words = map g.S.AsStr.text c.args.words.now in
    read_err line_app (app_of c.args.command.now) words (order_met (subcommand_of line_app words)) c.in-Err.error
    c.requires c.in-Err.ensures.fault
