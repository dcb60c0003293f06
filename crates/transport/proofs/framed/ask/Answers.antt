-- A frame is written, and its reply read.
use Rattle.transport.specs.Asked.{came}
use Rattle.transport.proofs.Exchanges.{answered_shown}
use Rattle.transport.proofs.framed.ask.Goals as goal

pub returns-clause-answered : goal.returns-clause-answered
returns-clause-answered g c =
    answered_shown (came c.receive.result) _ _ _ _ _ _ _ c.in_ok-write.ensures.ok c.receive.ensures.received
