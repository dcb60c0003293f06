use Rattle.std.proofs.Common.{None, sym, arith}
use Rattle.std.proofs.lemmas.Str.Pattern.{strip_prefix_char}
use Rattle.commands.proofs.PathText.{no_place}
use Rattle.commands.proofs.path.place_of.Goals as goal

pub returns-in-None : goal.returns-in-None
returns-in-None c =
    let word = c.args.word.now in
    sym (no_place word (strip_prefix_char 64 word None c.in-None.ensures.cases (omega arith)))
