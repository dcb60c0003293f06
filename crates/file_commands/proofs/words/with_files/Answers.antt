use Rattle.std.proofs.Common.{refl, codes, ap, ◌∙◌}
use Rattle.std.proofs.lemmas.Result.{IfOk-weaker}
use Rattle.clap.specs.Words.{App, with_subcommand}
use Rattle.file_commands.specs.Words.{file_app, link_app, mv_app, path_app}
use Rattle.file_commands.proofs.words.with_files.Goals as goal

pub returns : goal.returns
returns c =
    let put = c.in_ok-put.ensures (file_app (codes "put")) c.put_command.ensures refl in
    let get = c.in_ok-get.ensures (file_app (codes "get")) c.get_command.ensures refl ∙ ap (λ (a : App). with_subcommand a (file_app (codes "get")).top) put in
    let mkdir = c.in_ok-mkdir.ensures (path_app (codes "mkdir")) c.path_command.ensures refl ∙ ap (λ (a : App). with_subcommand a (path_app (codes "mkdir")).top) get in
    let rm = c.in_ok-rm.ensures (path_app (codes "rm")) c.path_command-2.ensures refl ∙ ap (λ (a : App). with_subcommand a (path_app (codes "rm")).top) mkdir in
    let mv = c.in_ok-mv.ensures mv_app c.mv_command.ensures refl ∙ ap (λ (a : App). with_subcommand a mv_app.top) rm in
    IfOk-weaker c.with_sub-6.result _ _ (λ m h. h ∙ ap (λ (a : App). with_subcommand a link_app.top) mv) (c.with_sub-6.ensures link_app c.link_command.ensures refl)
