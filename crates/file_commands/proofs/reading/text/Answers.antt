use Rattle.std.proofs.Common.{◌∙◌, ap}
use Rattle.clap.proofs.WalkLemmas.{first_value-rows}
use Rattle.clap.specs.Words.{found_of}
use Rattle.file_commands.specs.Lines.{reads}
use Rattle.file_commands.proofs.ReadLemmas.{text_said}
use Rattle.file_commands.proofs.reading.text.Goals as goal

pub returns : goal.returns
returns c =
    ap (reads (λ s. s.now)) c.ok_or.ensures.value
    ∙ text_said _ _ (c.get_str.ensures ∙ first_value-rows (found_of c.args.matches.now) c.args.id.now)
