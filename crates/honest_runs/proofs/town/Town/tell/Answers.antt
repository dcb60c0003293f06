use Rattle.std.proofs.Common.{refl, subst, sym}
use Rattle.client_runs.specs.declared.world.Answer.{Answer}
use Rattle.honest_runs.specs.declared.town.Town.{Town}
use Rattle.honest_runs.specs.Town.{IsTold}
use Rattle.honest_runs.proofs.Keeping.{is_told}
use Rattle.honest_runs.proofs.town.Town.tell.Goals as goal

pub returns-clause-told : goal.returns-clause-told
returns-clause-told g c =
    let u = c.args.step.now.user in
    let old : Town g.row.A.Denot = c.args.self.now in
    let new : Town g.row.A.Denot = record old { clients = c.carry_out.new.self; wanted = c.note.new.wanted; store = c.put_handed_out-put.new.store } in
    let put = rw c.in_ok-answer-2.ensures.ok at c.put_handed_out-put.ensures in
    subst (λ (a : Answer g.row.A.Denot). IsTold u a old new) (sym c.in_ok-answer-2.ensures.same) (is_told u c.args.act.now c.in_ok-answer.answer old new
    c.note.ensures.user c.requires c.in_ok-answer.ensures.step c.in_ok-answer.ensures.others c.note.ensures.noted put refl refl)
