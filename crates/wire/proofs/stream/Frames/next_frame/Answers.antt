use Rattle.std.proofs.Common.{◌≡◌, ◌++◌, ◌-◌, length, drop, refl, sym, ap, ◌∙◌, subst, arith}
use Rattle.wire.specs.Frame.{frame}
use Rattle.wire.specs.Stream.{IsFrameThen}
use Rattle.wire.proofs.Streams.{some_holds, either_begins, end_after, drop_after}
use Rattle.wire.proofs.stream.Frames.next_frame.Goals as goal

pub returns-in_err-body-in-Some-clause-at_fault : goal.returns-in_err-body-in-Some-clause-at_fault
returns-in_err-body-in-Some-clause-at_fault g c fault =
    let f = some_holds _ c.in_ok-body.field-0 _ c.in-Some.is c.in_ok-body.ensures.frame in
    absurd (either_begins c.args.self.now (c.in-Some.body.now, c.in-Some.after.now, f) fault)

pub overflow_sub-self : goal.overflow_sub-self
overflow_sub-self g c =
    let f = some_holds _ c.in_ok-body.field-0 _ c.in-Some.is c.in_ok-body.ensures.frame in
    let is = c.self.view_is ∙ f.1 in
    omega (arith, c.len.ensures, end_after c.self.inside.handed_out c.self.inside.bytes.items (frame.spell c.in-Some.body.now) c.in-Some.after.now is)

pub returns-in_ok-body-in-Some-clause-frame : goal.returns-in_ok-body-in-Some-clause-frame
returns-in_ok-body-in-Some-clause-frame g c =
    let f = some_holds _ c.in_ok-body.field-0 _ c.in-Some.is c.in_ok-body.ensures.frame in
    let rest = drop_after c.self.inside.handed_out c.self.inside.bytes.items (frame.spell c.in-Some.body.now) c.in-Some.after.now c.self.invariant (c.self.view_is ∙ f.1) in
    let size : c.len.result ≡ length c.self.inside.bytes.items = omega (arith, c.len.ensures, c.self.inside.bytes.ok.0) in
    let moved = ap (λ size. drop (size - length c.in-Some.after.now) c.self.inside.bytes.items) size ∙ rest in
    subst (λ body. IsFrameThen body (drop (c.len.result - length c.in-Some.after.now) c.self.inside.bytes.items) c.args.self.now) (sym c.in_ok-body-in-Some.ensures.items)
    (f.0, f.1 ∙ ap (λ l. frame.spell c.in-Some.body.now ++ l) (sym moved))

pub returns-in_ok-body-in-Some-clause-at_fault : goal.returns-in_ok-body-in-Some-clause-at_fault
returns-in_ok-body-in-Some-clause-at_fault g c fault =
    let f = some_holds _ c.in_ok-body.field-0 _ c.in-Some.is c.in_ok-body.ensures.frame in
    absurd (either_begins c.args.self.now (c.in-Some.body.now, c.in-Some.after.now, f) fault)

pub returns-in_ok-body-in-Some-clause-step : goal.returns-in_ok-body-in-Some-clause-step
returns-in_ok-body-in-Some-clause-step g c = (_, returns-in_ok-body-in-Some-clause-frame g c, refl)
