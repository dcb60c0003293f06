-- The plan is that of the next operation.
use Rattle.std.proofs.Common.{◌≡◌, sym, ap, ◌∙◌}
use Rattle.std.specs.Prelude.{not}
use Rattle.version_order.specs.Vector.{version_of}
use Rattle.pending_list.specs.Groups.{groups_at}
use Rattle.consistency_server.specs.State.{State, next_groups, entries_of}
use Rattle.consistency_server.proofs.Texts.{with_ok}
use Rattle.consistency_server.proofs.Serving.{on_ok}
use Rattle.consistency_server.proofs.Placing.{planned, limit_is}
use Rattle.consistency_server.proofs.state.State.plan.Given as given
use Rattle.consistency_server.proofs.state.State.plan.Goals as goal

groups : (g : given.Over) (c : goal.After-drop-groups-2 g) → c.deref-2.result.now ≡ next_groups c.args.self.now.table c.args.self.now.vector c.args.cert.now
groups g c =
    c.deref-2.ensures.value ∙ c.in_ok-groups.ensures
    ∙ ap (λ n. groups_at c.self.inside.table n c.args.cert.now) (c.version_of-number.ensures ∙ ap (λ p. version_of p c.self.inside.vector) (c.from.ensures ∙ c.superuser.ensures))
    ∙ ap (λ (s : State). next_groups s.table s.vector c.args.cert.now) c.self.view_is

entries : (g : given.Over) (c : goal.After-drop-groups-2 g) → c.in_ok-entries.entries ≡ entries_of c.args.self.now.pending
entries g c = c.in_ok-entries.ensures ∙ ap entries_of c.deref.ensures.value ∙ ap (λ (s : State). entries_of s.pending) c.self.view_is

pub returns-clause-plan : goal.returns-clause-plan
returns-clause-plan g c =
    with_ok c.next_plan.result _ _ (λ p e. e ∙ planned c.args.self.now c.args.cert.now c.user.result c.number.result c.args.certificate c.deref-2.result.now c.self.inside.vector c.in_ok-entries.entries c.user.ensures.same c.number.ensures c.requires (groups g c) (ap (λ (s : State). s.vector) c.self.view_is) (entries g c)) c.next_plan.ensures.ok

pub returns-clause-within : goal.returns-clause-within
returns-clause-within g c =
    on_ok c.next_plan.result _ _ (λ e. sym (limit_is c.args.self.now c.args.cert.now c.user.result c.number.result c.args.certificate c.deref-2.result.now c.self.inside.vector c.in_ok-entries.entries c.user.ensures.same c.number.ensures c.requires (groups g c) (ap (λ (s : State). s.vector) c.self.view_is) (entries g c)) ∙ ap not e) c.next_plan.ensures.within

pub returns-clause-limit : goal.returns-clause-limit
returns-clause-limit g c =
    λ limit. sym (limit_is c.args.self.now c.args.cert.now c.user.result c.number.result c.args.certificate c.deref-2.result.now c.self.inside.vector c.in_ok-entries.entries c.user.ensures.same c.number.ensures c.requires (groups g c) (ap (λ (s : State). s.vector) c.self.view_is) (entries g c)) ∙ ap not (c.next_plan.ensures.limit limit)
