-- Each turn hands out a frame, or reads on.
use Rattle.std.proofs.Common.{◌++◌, length, sym, ap, subst, arith, ◌∙◌}
use Rattle.std.proofs.lemmas.List.{length-append}
use Rattle.layout.specs.Format.{IsBytes}
use Rattle.wire.specs.Frame.{frame}
use Rattle.transport.specs.Asked.{came}
use Rattle.transport.proofs.Reading.{some_holds, none_holds, bytes_both, bytes_after, few_wait, reads_more, meets_fault, breaks_off_as, came_as}
use Rattle.transport.proofs.framed.receive.Goals as goal

pub returns-in-Ok-Some-clause-bytes : goal.returns-in-Ok-Some-clause-bytes
returns-in-Ok-Some-clause-bytes g c =
    let next = some_holds _ _ _ c.in-Ok-Some.field-0-is c.in-Ok-Some.ensures.frame in
    bytes_after (frame.spell c.in-Ok-Some.body.items) c.next_frame.new.self (subst IsBytes next.1 c.loop-turn.invariant.1)

pub returns-in_err-read_on-in-Ok-None-clause-received : goal.returns-in_err-read_on-in-Ok-None-clause-received
returns-in_err-read_on-in-Ok-None-clause-received g c =
    let none = none_holds _ _ c.in-Ok-None.field-0-is c.in-Ok-None.ensures.none in
    let why = c.in_err-read_on-in-Ok-None.field-0.0 in
    breaks_off_as (came c.from_residual.result) why _ _ _ _ _ _ _ (came_as c.from_residual.result why c.from_residual.ensures.1) c.loop-turn.invariant.0 none.0 c.in_err-read_on-in-Ok-None.ensures.err

pub returns-in-Err-Length-clause-received : goal.returns-in-Err-Length-clause-received
returns-in-Err-Length-clause-received g c =
    meets_fault _ _ _ _ _ _ c.loop-turn.invariant.0 (c.in-Err-Length.ensures.length c.in-Err-Length.field-0-is)

pub loop-turn-preserved : goal.loop-turn-preserved
loop-turn-preserved g c =
    let none = none_holds _ _ c.in-Ok-None.field-0-is c.in-Ok-None.ensures.none in
    let same = none_holds _ _ c.in-Ok-None.field-0-is c.in-Ok-None.ensures.none_same in
    let more = c.in_ok-read_on-in-Ok-None.ensures.ok in
    let few = few_wait c.loop-turn.frames c.loop-turn.invariant.1 none in
    let grown = ap length more.waits ∙ length-append c.next_frame.new.self more.piece in
    let was = ap length same in (
      reads_more _ _ _ _ c.loop-turn.frames _ c.loop-turn.invariant.0 (record { piece = more.piece; some = more.some; bytes = more.bytes; told = more.told; waits = more.waits ∙ ap (λ l. l ++ more.piece) same }),
      subst IsBytes (sym more.waits) (bytes_both c.next_frame.new.self more.piece (subst IsBytes (sym same) c.loop-turn.invariant.1) more.bytes),
      omega (arith, grown, was, more.some, c.loop-turn.invariant.2),
      omega (arith, few, c.loop-turn.invariant.2),
      omega (arith, c.loop-turn.invariant.4, c.in_ok-read_on-in-Ok-None.ensures.cause.later),
    )
