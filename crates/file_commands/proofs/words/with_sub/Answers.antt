use Rattle.std.proofs.Common.{ap}
use Rattle.std.proofs.lemmas.Result.{IfOk-weaker}
use Rattle.clap.specs.Words.{app_of}
use Rattle.file_commands.proofs.CommandLemmas.{made, subcommand_added}
use Rattle.file_commands.proofs.words.with_sub.Goals as goal

pub returns : goal.returns
returns c = λ app of_sub plain.
    let both = c.in_ok-command.ensures in
    let sub = made c.args.sub c.in_ok-command.sub app both.ok of_sub in
    IfOk-weaker c.subcommand.result _ _ (λ m h. subcommand_added _ _ _ (app_of c.args.command) app h (ap app_of both.same) sub plain) c.subcommand.ensures
