use Rattle.std.proofs.Common.{ap, ◌∙◌}
use Rattle.std.proofs.lemmas.Result.{IfOk-weaker}
use Rattle.file_commands.specs.Words.{with_changes, with_files}
use Rattle.file_commands.proofs.words.with_commands.Goals as goal

pub returns : goal.returns
returns c =
    let files = c.in_ok-files.ensures ∙ ap with_files c.in_ok-looks.ensures in
    IfOk-weaker c.with_changes.result _ _ (λ m h. h ∙ ap with_changes files) c.with_changes.ensures
