use Rattle.std.proofs.Common.{add-one, drop-cons}
use Rattle.connection.proofs.Written.{on_err}
use Rattle.commands.specs.Quoting.{escaped}
use Rattle.commands.proofs.Pieces.{printed_on, stopped_on}
use Rattle.commands.proofs.quoting.write_all_escaped.Goals as goal

pub returns-in_err-write_escaped-clause-err : goal.returns-in_err-write_escaped-clause-err
returns-in_err-write_escaped-clause-err g c =
    let i = c.loop-byte.byte-index in
    on_err _ _ (stopped_on escaped c.args.name.now _ _ _ _ _ _ c.loop-byte.invariant (drop-cons c.args.name.now i _ c.loop-byte-test.true) c.in_err-write_escaped.ensures.err)

pub loop-byte-preserved : goal.loop-byte-preserved
loop-byte-preserved g c =
    let i = c.loop-byte.byte-index in
    rw add-one (printed_on escaped c.args.name.now _ _ _ _ _ _ c.loop-byte.invariant (drop-cons c.args.name.now i _ c.loop-byte-test.true) c.in_ok-write_escaped.ensures.ok)
