use Rattle.std.proofs.Common.{◌≡◌, Some, sym, ap, ◌∙◌, rules}
use Rattle.client_verify.specs.State.{AcceptedView}
use Rattle.client_verify.proofs.Steps.{some_one}
use Rattle.client_verify.proofs.client.Client.table.Goals as goal

pub returns : goal.returns
returns g c =
    let old = c.args.self.now in
    let v = c.in-Some.view in
    let there : old.view ≡ Some v = search rules in
    some_one old.view v (λ w. w.table ≡ c.table.result.now) there (sym (c.table.ensures ∙ ap (λ (w : AcceptedView). w.table) c.view.view_is))
