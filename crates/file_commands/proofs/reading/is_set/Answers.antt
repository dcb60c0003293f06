use Rattle.std.proofs.Common.{◌∙◌, ap}
use Rattle.file_commands.specs.Lines.{is_true}
use Rattle.file_commands.proofs.reading.is_set.Goals as goal

pub returns-in-Ok : goal.returns-in-Ok
returns-in-Ok c = c.eq.ensures ∙ ap is_true c.in-Ok.ensures
