use Rattle.std.proofs.Common.{List, Some, ap, refl, subst, sym}
use Rattle.consistency_server.specs.Answers.{Call}
use Rattle.honest_runs.specs.declared.town.Town.{Town}
use Rattle.honest_runs.specs.HonestRuns.{Exchange}
use Rattle.honest_runs.specs.Town.{Happens}
use Rattle.honest_runs.proofs.Happening.{delivered, unsent}
use Rattle.honest_runs.proofs.town.Town.call.Goals as goal

pub returns-in_default : goal.returns-in_default
returns-in_default g c =
    let old : Town g.row.A.Denot = c.args.self.now in
    let new : Town g.row.A.Denot = record old { server = c.ask.new.server } in
    let none = rw c.in_default.is at c.in_ok-asked.ensures in
    unsent c.args.step.now old new c.args.kind c.args.delivery c.requires.act none.0 (ap (λ (calls : List Call). record old { server = calls }) none.1) c.requires.noted

pub returns : goal.returns
returns g c =
    let old : Town g.row.A.Denot = c.args.self.now in
    let new : Town g.row.A.Denot = c.deliver-answer.new.self in
    let sent = rw c.in-Some.is at c.in_ok-asked.ensures in
    let told = rw c.in_ok-exchange.ensures.ok at c.deliver-answer.ensures in
    subst (λ (x : Exchange). Happens c.args.step.now c.in_ok-exchange.answer (Some x) old new) (sym c.in_ok-exchange.ensures.same)
    (delivered c.args.step.now old new c.args.kind c.args.delivery c.requires.act c.requires.noted c.in-Some.exchange c.ask.new.server sent c.in_ok-exchange.answer c.args.delivery refl told)
