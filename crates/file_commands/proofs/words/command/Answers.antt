use Rattle.std.proofs.Common.{◌∙◌, ap, refl}
use Rattle.std.proofs.lemmas.Result.{IfOk-weaker}
use Rattle.file_commands.specs.Words.{batch_app, init_app, options_app, renew_app, requires_command, versioned, with_commands}
use Rattle.file_commands.proofs.CommandLemmas.{subcommand_added}
use Rattle.file_commands.proofs.words.command.Goals as goal

pub returns : goal.returns
returns c =
    let begun = subcommand_added _ _ _ (versioned (requires_command options_app)) init_app c.in_ok-begun.ensures
    c.in_ok-program.ensures c.in_ok-init_command.ensures refl in
    let commands = c.in_ok-with_commands.ensures ∙ ap with_commands begun in
    let renewed = subcommand_added _ _ _ _ renew_app c.in_ok-subcommand.ensures commands c.in_ok-renew_command.ensures refl in
    IfOk-weaker c.subcommand-3.result _ _ (λ m h. subcommand_added _ _ _ _ batch_app h renewed c.in_ok-batch_command.ensures refl)
    c.subcommand-3.ensures
