use Rattle.std.proofs.Common.{◌≡◌, ap, ◌∙◌, List}
use Rattle.version_order.specs.Plan.{Plan}
use Rattle.version_order.specs.Vector.{version_of}
use Rattle.pending_list.specs.Reply.{PendingItem}
use Rattle.reply_rules.specs.Rules.{newest, own_version, versions_beyond, new_versions}
use Rattle.reply_rules.proofs.RecordsLaws.{complete_so}
use Rattle.reply_rules.proofs.records.group_complete.Goals as goal

pub returns : goal.returns
returns g c =
    let t = c.args.table.now in
    let x = c.args.lists.now in
    let h = c.args.group in
    let least : c.newest-newest.result ≡ newest h x.structures = c.newest-newest.ensures ∙ ap (newest h) c.structures.ensures in
    let most : c.version_of-own.result ≡ own_version x h =
    c.version_of-own.ensures
    ∙ ap (λ p. version_of p c.vector.result.now) c.from.ensures
    ∙ ap (version_of h) (c.vector.ensures ∙ ap (λ (p : Plan). p.vector) (c.plan.ensures ∙ ap (λ (i : PendingItem). i.plan) c.own.ensures)) in
    let versions : c.deref.result.now ≡ new_versions t x h =
    c.deref.ensures.value
    ∙ c.in_ok-versions.ensures
    ∙ ap (λ n. versions_beyond t h n c.pending.result.now) least
    ∙ ap (λ (is : List PendingItem). versions_beyond t h (newest h x.structures) is) c.pending.ensures in
    complete_so t x h c.deref.result.now c.newest-newest.result c.version_of-own.result c.are_complete.result least most versions c.are_complete.ensures
