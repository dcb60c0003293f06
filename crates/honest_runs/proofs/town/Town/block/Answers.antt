use Rattle.std.proofs.Common.{◌∙◌, ap}
use Rattle.std.specs.Option.{option_and_then}
use Rattle.client_tree.specs.Held.{held}
use Rattle.honest_runs.specs.declared.town.Town.{Town}
use Rattle.honest_runs.specs.declared.wanted.Wanted.{Wanted}
use Rattle.honest_runs.proofs.Happening.{block_told}
use Rattle.honest_runs.proofs.Keeping.{read_noted}
use Rattle.honest_runs.proofs.town.Town.block.Goals as goal

pub returns : goal.returns
returns g c =
    let old : Town g.row.A.Denot = c.args.self.now in
    let read = read_noted old.wanted.items c.get.result c.args.step.now.user c.index.result.now c.requires.noted.size c.get.ensures.range c.get.ensures.same c.index.ensures in
    block_told c.args.step.now old c.tell.new.self c.requires.noted c.in_ok-stored.field-0 c.tell.result c.requires.act
    (c.in_ok-stored.ensures ∙ ap (λ (w : Wanted). option_and_then (held old.store) w.reply) read) c.tell.ensures.comes c.tell.ensures.told
