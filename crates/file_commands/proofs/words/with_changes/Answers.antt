use Rattle.std.proofs.Common.{refl, codes, ap, ◌∙◌}
use Rattle.std.proofs.lemmas.Result.{IfOk-weaker}
use Rattle.clap.specs.Words.{App, with_subcommand}
use Rattle.file_commands.specs.Words.{admin_app, member_app, user_key_app}
use Rattle.file_commands.proofs.words.with_changes.Goals as goal

pub returns : goal.returns
returns c =
    let add = c.in_ok-add.ensures (user_key_app (codes "adduser")) c.user_key_command.ensures refl in
    let set = c.in_ok-set.ensures (user_key_app (codes "setkey")) c.user_key_command-2.ensures refl ∙ ap (λ (a : App). with_subcommand a (user_key_app (codes "setkey")).top) add in
    let join = c.in_ok-join.ensures (member_app (codes "addmember")) c.member_command.ensures refl ∙ ap (λ (a : App). with_subcommand a (member_app (codes "addmember")).top) set in
    let leave = c.in_ok-leave.ensures (member_app (codes "dropmember")) c.member_command-2.ensures refl ∙ ap (λ (a : App). with_subcommand a (member_app (codes "dropmember")).top) join in
    IfOk-weaker c.with_sub-5.result _ _ (λ m h. h ∙ ap (λ (a : App). with_subcommand a admin_app.top) leave) (c.with_sub-5.ensures admin_app c.admin_command.ensures refl)
