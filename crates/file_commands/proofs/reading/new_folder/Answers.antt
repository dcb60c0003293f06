use Rattle.std.proofs.Common.{◌∙◌, ap, codes, sym}
use Rattle.clap.proofs.WalkLemmas.{first_value-rows}
use Rattle.clap.specs.Words.{found_of, rows_of}
use Rattle.file_commands.specs.Lines.{super_key_for}
use Rattle.file_commands.proofs.LineLemmas.{folder_read}
use Rattle.file_commands.proofs.reading.new_folder.Goals as goal

pub returns-in-Ok : goal.returns-in-Ok
returns-in-Ok c =
    let m = c.args.matches.now in
    folder_read (rows_of (found_of m)) c.in_ok-dir.dir.now c.in_ok-user.user _ (sym c.in_ok-dir.ensures) (sym c.in_ok-user.ensures)
    (c.in-Ok.ensures ∙ ap (super_key_for c.in_ok-user.user) (c.get_str.ensures ∙ first_value-rows (found_of m) (codes "SUPER_PUB")))

pub returns-in-Err : goal.returns-in-Err
returns-in-Err c =
    let m = c.args.matches.now in
    folder_read (rows_of (found_of m)) c.in_ok-dir.dir.now c.in_ok-user.user _ (sym c.in_ok-dir.ensures) (sym c.in_ok-user.ensures)
    (c.in-Err.ensures ∙ ap (super_key_for c.in_ok-user.user) (c.get_str.ensures ∙ first_value-rows (found_of m) (codes "SUPER_PUB")))
