use Rattle.client_tree.specs.declared.questions.Question.TheVariants as question
use Rattle.client_verify.proofs.Standing.{begun_only, begun_stands}
use Rattle.client_verify.proofs.client.Client.look.Goals as goal

pub returns-clause-stands : goal.returns-clause-stands
returns-clause-stands g c = begun_stands c.args.self.now c.args.self.now.view (question.At c.args.principal c.args.i_number) c.begin_look.result c.begin_look.new.self c.requires c.begin_look.ensures.looked c.begin_look.ensures.held

pub returns-clause-only : goal.returns-clause-only
returns-clause-only g c = begun_only c.args.self.now c.args.self.now.view (question.At c.args.principal c.args.i_number) c.begin_look.result c.begin_look.new.self c.requires c.begin_look.ensures.looked c.begin_look.ensures.held
