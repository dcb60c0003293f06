use Rattle.std.proofs.Common.{refl}
use Rattle.client_runs.specs.declared.world.Answer.TheVariants as answer
use Rattle.honest_runs.proofs.Happening.{heard_as, not_heard, nothing_told}
use Rattle.honest_runs.proofs.town.Town.reply.Goals as goal

pub returns-in_ok-from_slice-in-Ok-clause-comes : goal.returns-in_ok-from_slice-in-Ok-clause-comes
returns-in_ok-from_slice-in-Ok-clause-comes g c =
    heard_as c.args.step.now.user c.args.status c.args.payload.now c.in_ok-from_slice-in-Ok.field-0 c.args.self.now c.tell.new.self c.tell.result
    c.in-Ok.is c.in_ok-from_slice-in-Ok.ensures.items c.tell.ensures.comes

pub returns-in_default : goal.returns-in_default
returns-in_default g c =
    let u = c.args.step.now.user in
    record {
      comes = not_heard u c.args.status c.args.payload.now c.args.self.now (answer.Served c.args.status) c.in_default.not-Ok refl;
      told = nothing_told u c.args.status c.args.self.now (answer.Served c.args.status) refl c.requires;
    }
