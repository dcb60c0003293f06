-- A certificate of a user who is listed and signed it is judged as a new one.
use Rattle.std.proofs.Common.{◌≡◌, Some, sym, ap, ◌∙◌, subst}
use Rattle.principals.specs.Table.{key_of}
use Rattle.consistency_server.specs.Judged.{JudgedAs}
use Rattle.consistency_server.proofs.Texts.{with_ok}
use Rattle.consistency_server.proofs.Placing.{signed_update}
use Rattle.consistency_server.proofs.state.State.judge_signed.Goals as goal

pub returns : goal.returns
returns g c =
    let state = c.args.self.now in
    let found = c.args.found in
    let known : key_of found.value.user state.table ≡ Some c.in-Some.key
    = ap (λ u. key_of u state.table) (sym c.user.ensures.same) ∙ sym c.last_key.ensures ∙ c.in-Some.is in
    let led = signed_update state found c.in-Some.key known (sym c.is_signed.ensures ∙ c.if-not-is_signed.false) in
    with_ok c.judge_new.result _ _ (λ j is. subst (JudgedAs state j) (sym led) is) c.judge_new.ensures
