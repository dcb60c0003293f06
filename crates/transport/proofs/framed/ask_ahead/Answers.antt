-- A frame may have gone ahead, and others go ahead of its reply.
use Rattle.std.proofs.Common.{Err, [], ap, ◌∙◌}
use Rattle.connection.specs.Told.{goes_on}
use Rattle.transport.specs.Asked.{came}
use Rattle.transport.proofs.Reading.{came_as}
use Rattle.transport.proofs.Exchanges.{untold_err, untold_shown}
use Rattle.transport.proofs.framed.ask_ahead.Goals as goal

pub returns-in_err-pass-clause-answered : goal.returns-in_err-pass-clause-answered
returns-in_err-pass-clause-answered g c =
    let e = c.in_err-pass.field-0.0 in
    untold_err (came c.from_residual.result) e _ _ _ _ _ _ (came_as c.from_residual.result e c.from_residual.ensures.1)
    c.requires.untold c.in_err-pass.ensures.untold (λ is. c.in_err-pass.ensures.none (ap (λ x. Err x) is))

pub returns-clause-answered : goal.returns-clause-answered
returns-clause-answered g c =
    let got = c.receive.ensures.received in
    untold_shown (came c.receive.result) _ _ _ _ _ _ _ _ c.requires.untold
    (got.told ∙ ap (goes_on got.read []) c.in_ok-go_ahead.ensures.untold) got.brings
