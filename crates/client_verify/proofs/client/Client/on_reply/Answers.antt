use Rattle.client_verify.proofs.Standing.{reply_stands, reply_only}
use Rattle.client_verify.proofs.client.Client.on_reply.Goals as goal

pub returns-clause-stands : goal.returns-clause-stands
returns-clause-stands g c = reply_stands c.args.self.now c.args.text.now c.take_reply.result c.take_reply.new.self c.take_reply.ensures.judged c.take_reply.ensures.held

pub returns-clause-only : goal.returns-clause-only
returns-clause-only g c = reply_only c.args.self.now c.args.text.now c.take_reply.result c.take_reply.new.self c.take_reply.ensures.judged c.take_reply.ensures.held
