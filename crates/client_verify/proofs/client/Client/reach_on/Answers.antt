use Rattle.std.proofs.Common.{◌≡◌, Some, sym, ap, ◌∙◌, rules}
use Rattle.std.proofs.lemmas.Result.{IfOk-weaker}
use Rattle.client_verify.specs.State.{Reading, checked_in, known}
use Rattle.client_verify.proofs.Steps.{if_some}
use Rattle.client_verify.proofs.Handing.{reached_on}
use Rattle.client_verify.proofs.client.Client.reach_on.Goals as goal

pub returns : goal.returns
returns g c =
    let s = c.args.self.now in
    let k = c.in-Checking.checked in
    let r = c.in-Reading.reply in
    let a = c.in-Reading.field-1 in
    let there : s.checked ≡ Some k = search rules in
    let by : c.known-known.result ≡ known s = search rules in
    let is : Reading r a ≡ k = sym (ap checked_in c.in-Reading.is) ∙ c.checked.view_is in
    if_some s.checked k _ there (IfOk-weaker c.reach_with.result _ _ (λ reached told. reached_on _ s _ c.args.text.now k r a reached c.self.view_is by is told) c.reach_with.ensures)
