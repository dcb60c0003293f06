use Rattle.std.proofs.Common.{◌≡◌, ap, sym, ◌∙◌}
use Rattle.pending_list.specs.Groups.{raises_at, table_version}
use Rattle.pending_list.proofs.GroupsLaws.{has_group}
use Rattle.pending_list.proofs.groups.raises.Goals as goal

pub returns : goal.returns
returns g c =
    let t = c.args.table.now in
    let i = c.args.item.now in
    let version : c.table_version.result ≡ table_version i.plan = c.table_version.ensures ∙ ap table_version c.plan.ensures in
    c.raises_at.ensures
    ∙ ap (λ v. raises_at t v c.cert.result.now c.args.group) version
    ∙ ap (λ k. raises_at t (table_version i.plan) k c.args.group) c.cert.ensures.same
    ∙ sym (has_group (raises_at t (table_version i.plan) i.cert) 32 c.args.group c.get-range.ensures.low c.get-range.ensures.high)
