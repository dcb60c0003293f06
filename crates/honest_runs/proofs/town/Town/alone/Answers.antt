use Rattle.std.proofs.Common.{◌∙◌, refl, sym}
use Rattle.honest_runs.specs.declared.town.Town.{Town}
use Rattle.honest_runs.proofs.Happening.{alone_told, refused}
use Rattle.honest_runs.proofs.town.Town.alone.Goals as goal

pub returns-then-not-may_alone : goal.returns-then-not-may_alone
returns-then-not-may_alone g c =
    let old : Town g.row.A.Denot = c.args.self.now in
    refused c.args.step.now old old c.args.act.now c.requires.act (sym c.may_alone.ensures ∙ c.if-not-may_alone.true) refl c.requires.noted

pub returns : goal.returns
returns g c =
    let old : Town g.row.A.Denot = c.args.self.now in
    let mid : Town g.row.A.Denot = record old { store = c.put_laid.new.store } in
    alone_told c.args.step.now old c.tell.new.self c.args.act.now c.requires.act mid c.tell.result (sym c.may_alone.ensures ∙ c.if-not-may_alone.false)
    refl refl c.in_ok-put_laid.ensures refl c.tell.ensures.comes c.tell.ensures.told
