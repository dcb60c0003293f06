use Rattle.std.proofs.Common.{Err, sym, arith}
use Rattle.commands.proofs.PathText.{parsed_in}
use Rattle.commands.proofs.path.number_in.Goals as goal

pub returns-in-Err : goal.returns-in-Err
returns-in-Err c =
    sym (parsed_in c.args.low c.args.high c.args.word.now (Err c.in-Err.field-0) (omega (arith, c.ranges.high.fits)) (sym c.if-not-is_number.ensures) c.in-Err.ensures.value.0)
