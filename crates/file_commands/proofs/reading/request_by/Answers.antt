use Rattle.std.proofs.Common.{◌∙◌, map, ap, Ok, Err, sym}
use Rattle.clap.specs.Words.{app_of, is_simple_and_free, matches_of, subcommand_of}
use Rattle.file_commands.specs.Lines.{asked, request_in, request_of}
use Rattle.file_commands.specs.Words.{sundr_app}
use Rattle.file_commands.proofs.LineLemmas.{is_why, read_err, read_ok, sundr_simple}
use Rattle.file_commands.proofs.reading.request_by.Goals as goal

pub matched-requires : goal.matched-requires
matched-requires g c = ap is_simple_and_free c.requires ∙ sundr_simple

pub returns-in-Ok-request : goal.returns-in-Ok-request
returns-in-Ok-request g c =
    sym (read_ok sundr_app (app_of c.args.command.now) (map g.S.AsStr.text c.args.words.now) c.in-Ok.matches request_in (Ok (asked c.in-Ok-request.request))
    c.requires sundr_simple c.in-Ok.ensures.ok c.in-Ok.ensures.none c.in-Ok-request.ensures)

pub returns-in-Ok : goal.returns-in-Ok
returns-in-Ok g c =
    let words = map g.S.AsStr.text c.args.words.now in
    is_why c.refuse.result c.in-Err-request.unread (request_of words) c.refuse.ensures
    (read_ok sundr_app (app_of c.args.command.now) words c.in-Ok.matches request_in (Err c.in-Err-request.unread)
    c.requires sundr_simple c.in-Ok.ensures.ok c.in-Ok.ensures.none c.in-Err-request.ensures)

pub returns : goal.returns
returns g c =
    let words = map g.S.AsStr.text c.args.words.now in
    read_err sundr_app (app_of c.args.command.now) words (request_in (matches_of sundr_app words) (subcommand_of sundr_app words)) c.in-Err.error
    c.requires c.in-Err.ensures.fault
