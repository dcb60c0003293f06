-- The text is that of the plan.
use Rattle.std.proofs.Common.{ap, ◌∙◌}
use Rattle.std.specs.List.{list_any}
use Rattle.std.specs.Str.{bytes_eq}
use Rattle.layout.specs.Types.{Bytes}
use Rattle.version_order.specs.Plan.{plan}
use Rattle.consistency_server.specs.State.{Placement}
use Rattle.consistency_server.proofs.placement.have_plan.Goals as goal

pub returns : goal.returns
returns g c =
    c.have_spelled_plan.ensures
    ∙ ap (λ (t : Bytes). list_any (λ (w : Placement). bytes_eq t (plan.spell w.item.plan)) c.args.pending.now) (c.deref.ensures.value ∙ c.in_ok-text.ensures)
