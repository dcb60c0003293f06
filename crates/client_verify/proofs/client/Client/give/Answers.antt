use Rattle.std.specs.Option.{option_copied}
use Rattle.client_verify.proofs.Standing.{look_more, look_only, look_stands}
use Rattle.client_verify.proofs.client.Client.give.Goals as goal

pub returns-clause-only : goal.returns-clause-only
returns-clause-only g c = look_only c.args.self.now c.args.self.now.view (option_copied c.args.block) c.take_given.result c.take_given.new.self c.requires c.take_given.ensures.given c.take_given.ensures.held

pub returns-clause-more : goal.returns-clause-more
returns-clause-more g c = look_more c.args.self.now c.args.self.now.view (option_copied c.args.block) c.take_given.result c.take_given.new.self c.take_given.ensures.given c.take_given.ensures.held

pub returns-clause-stands : goal.returns-clause-stands
returns-clause-stands g c = look_stands c.args.self.now c.args.self.now.view (option_copied c.args.block) c.take_given.result c.take_given.new.self c.requires c.take_given.ensures.given c.take_given.ensures.held
