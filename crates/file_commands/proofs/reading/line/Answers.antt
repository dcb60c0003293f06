use Rattle.std.proofs.Common.{sym}
use Rattle.clap.specs.Words.{found_of, rows_of, subcommand_rows_of}
use Rattle.file_commands.specs.Lines.{order_of}
use Rattle.file_commands.proofs.LineLemmas.{line_read}
use Rattle.file_commands.proofs.reading.line.Goals as goal

pub returns-in-Ok : goal.returns-in-Ok
returns-in-Ok c =
    let m = c.args.matches.now in
    line_read (rows_of (found_of m)) (subcommand_rows_of m) c.in_ok-dir.dir.now c.in_ok-server.server.now c.in_ok-user.user c.is_set-moved.result (order_of c.in-Ok.wanted)
    (sym c.in_ok-dir.ensures) (sym c.in_ok-server.ensures) (sym c.in_ok-user.ensures) (sym c.is_set-moved.ensures) (sym c.in-Ok.ensures)
