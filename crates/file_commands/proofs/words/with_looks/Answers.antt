use Rattle.std.proofs.Common.{refl, codes, ap, ◌∙◌}
use Rattle.std.proofs.lemmas.Result.{IfOk-weaker}
use Rattle.clap.specs.Words.{App, app_of, with_subcommand}
use Rattle.file_commands.specs.Words.{key_app, ls_app, path_app, status_app, users_app}
use Rattle.file_commands.proofs.CommandLemmas.{subcommand_added}
use Rattle.file_commands.proofs.words.with_looks.Goals as goal

pub returns : goal.returns
returns c =
    let key = subcommand_added _ _ _ (app_of c.args.command) key_app c.in_ok-key.ensures refl c.key_command.ensures refl in
    let status = subcommand_added _ _ _ _ status_app c.in_ok-status.ensures key c.status_command.ensures refl in
    let users = subcommand_added _ _ _ _ users_app c.in_ok-users.ensures status c.users_command.ensures refl in
    let ls = c.in_ok-ls.ensures ls_app c.ls_command.ensures refl ∙ ap (λ (a : App). with_subcommand a ls_app.top) users in
    IfOk-weaker c.with_sub-2.result _ _ (λ m h. h ∙ ap (λ (a : App). with_subcommand a (path_app (codes "cat")).top) ls) (c.with_sub-2.ensures (path_app (codes "cat")) c.path_command.ensures refl)
