use Rattle.honest_runs.specs.declared.town.Town.{Town}
use Rattle.honest_runs.proofs.Happening.{arrives_late, not_exchanged, not_own}
use Rattle.std.proofs.Common.{refl}
use Rattle.honest_runs.proofs.town.Town.late.Goals as goal

pub returns-in_default : goal.returns-in_default
returns-in_default g c =
    let old : Town g.row.A.Denot = c.args.self.now in
    not_exchanged c.args.step.now old old c.args.n c.requires.act c.deref.result.now c.deref.ensures.value c.in_ok-exchange.field-0 c.in_ok-exchange.ensures
    c.in_default.is refl c.requires.noted

pub returns-then-not-is_own : goal.returns-then-not-is_own
returns-then-not-is_own g c =
    let old : Town g.row.A.Denot = c.args.self.now in
    not_own c.args.step.now old old c.args.n c.requires.act c.deref.result.now c.deref.ensures.value c.in_ok-exchange.field-0 c.in_ok-exchange.ensures
    c.in-Some.exchange c.in-Some.is c.is_own.result c.is_own.ensures c.if-not-is_own.true refl c.requires.noted

pub returns : goal.returns
returns g c =
    let old : Town g.row.A.Denot = c.args.self.now in
    arrives_late c.args.step.now old c.arrive-answer.new.self c.args.n c.requires.act c.deref.result.now c.deref.ensures.value c.in_ok-exchange.field-0 c.in_ok-exchange.ensures
    c.in-Some.exchange c.in-Some.is c.is_own.result c.is_own.ensures c.if-not-is_own.false c.arrive-answer.result c.arrive-answer.ensures
