use Rattle.std.proofs.Common.{◌∙◌, ap, None, Option, ℕ}
use Rattle.std.specs.Option.{ok_or, option_map_or}
use Rattle.std.specs.Str.Parse.{ParsesUnsigned, ExplainsUnsignedError, HasUnsignedDigitsIfOk}
use Rattle.clap.proofs.WalkLemmas.{one_text-rows}
use Rattle.clap.specs.Words.{found_of, one_text}
use Rattle.file_commands.proofs.ReadLemmas.{number_said}
use Rattle.file_commands.specs.Lines.{number_of}
use Rattle.file_commands.specs.declared.reading.Unread.TheVariants.{Words}
use Rattle.file_commands.proofs.reading.number.Goals as goal

pub returns : goal.returns
returns c =
    let found = found_of c.args.matches.now in
    let read = number_said (λ bs r. ParsesUnsigned 8 10 bs r × ExplainsUnsignedError 10 bs r × HasUnsignedDigitsIfOk bs r)
    (one_text found c.args.id.now) c.get_one.result (λ t x h. h.0) c.get_one.ensures.none c.get_one.ensures.value in
    c.ok_or.ensures.value ∙ ap (λ (r : Option ℕ). ok_or r Words)
    (read ∙ ap (λ o. option_map_or number_of o None) (one_text-rows found c.args.id.now))
