-- An exchange: the request is sent, and its reply read.
use Rattle.std.proofs.Common.{◌<◌, Err, sym, ap, length, arith}
use Rattle.transport.specs.Asked.{came}
use Rattle.transport.proofs.Reading.{came_as}
use Rattle.transport.proofs.Exchanges.{unanswered, replied, spelled_as}
use Rattle.transport.proofs.framed.FramedTransport.exchange_ahead.Goals as goal

pub returns-in_err-body : goal.returns-in_err-body
returns-in_err-body g c =
    let small : length c.args.request.now.payload < 2097152 = omega (arith, c.if-payload.false, ap length c.payload-payload.ensures) in
    let spelled = spelled_as c.args.request.now _ _ _ c.deref.result.now c.kind.ensures c.payload-payload.ensures c.in_ok-frame.ensures.frame c.deref.ensures.value in
    let e = c.in_err-body.field-0.0 in
    unanswered c.args.request.now (came c.from_residual-in_err-body.result) e c.args.self.now c.answer.new.self _ _ _ _ _ c.deref.result.now
    (came_as c.from_residual-in_err-body.result e c.from_residual-in_err-body.ensures.1) (sym c.self.view_is)
    small c.if-self.false spelled c.in_err-body.ensures.answered c.in_err-body.ensures.broken c.in_err-body.ensures.cause.later (λ is. c.in_err-body.ensures.cause.rose (ap (λ x. Err x) is))

pub returns : goal.returns
returns g c =
    let small : length c.args.request.now.payload < 2097152 = omega (arith, c.if-payload.false, ap length c.payload-payload.ensures) in
    let spelled = spelled_as c.args.request.now _ _ _ c.deref.result.now c.kind.ensures c.payload-payload.ensures c.in_ok-frame.ensures.frame c.deref.ensures.value in
    replied c.args.request.now _ c.args.self.now c.answer.new.self _ _ _ _ _ _ _ _ _ _ c.deref.result.now (sym c.self.view_is) c.self-2.view_is
    small c.if-self.false spelled c.in_ok-body.ensures.answered c.in_ok-body.ensures.cause.later
