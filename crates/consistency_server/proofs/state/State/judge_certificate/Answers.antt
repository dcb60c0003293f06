-- A certificate that is pending is answered as before, and another one is judged as a new one.
use Rattle.std.proofs.Common.{◌≡◌, List, Option, Some, None, sym, ap, ◌∙◌, subst}
use Rattle.std.specs.Prelude.{find}
use Rattle.std.specs.Option.{option_copied}
use Rattle.std.specs.Str.{bytes_eq}
use Rattle.layout.specs.Types.{Bytes}
use Rattle.update_cert.specs.Cert.{Cert, cert}
use Rattle.pending_list.specs.declared.signed.Signed.{Signed}
use Rattle.pending_list.specs.Signed.{signed}
use Rattle.consistency_server.specs.State.{State, Placement}
use Rattle.consistency_server.specs.Answers.{Repeated, cert_of, same_cert, update_beside}
use Rattle.consistency_server.specs.Judged.{JudgedAs}
use Rattle.consistency_server.proofs.Texts.{with_ok}
use Rattle.consistency_server.proofs.state.State.judge_certificate.Goals as goal

-- what is found by a text is found by the certificate that it spells
by_cert : (found : Signed Cert) (text : Bytes) (ws : List Placement) (result : Option Placement) → text ≡ (signed cert).spell found → result ≡ find (λ w. bytes_eq text ((signed cert).spell (cert_of w.item))) ws → find (same_cert found) ws ≡ result
by_cert found text ws result is ensures = sym (ensures ∙ ap (λ (t : Bytes). find (λ (w : Placement). bytes_eq t ((signed cert).spell (cert_of w.item))) ws) is)

pub returns-in-None : goal.returns-in-None
returns-in-None g c =
    let state = c.args.self.now in
    let found = c.args.found in
    let none : find (same_cert found) state.pending ≡ None
    = ap (λ (s : State). find (same_cert found) s.pending) (sym c.self.view_is) ∙ ap (find (same_cert found)) (sym c.deref.ensures.value)
    ∙ by_cert found c.args.text.now c.deref.result.now (option_copied c.with_cert.result) c.requires c.with_cert.ensures ∙ ap option_copied c.in-None.is in
    with_ok c.judge_signed.result _ _ (λ j is. subst (JudgedAs state j) (sym (ap (λ o. update_beside o state found) none)) is) c.judge_signed.ensures

pub returns-in_ok-share-in-Some : goal.returns-in_ok-share-in-Some
returns-in_ok-share-in-Some g c =
    let state = c.args.self.now in
    let found = c.args.found in
    let there : find (same_cert found) state.pending ≡ Some c.in-Some.placement.now
    = ap (λ (s : State). find (same_cert found) s.pending) (sym c.self.view_is) ∙ ap (find (same_cert found)) (sym c.deref.ensures.value)
    ∙ by_cert found c.args.text.now c.deref.result.now (option_copied c.with_cert.result) c.requires c.with_cert.ensures ∙ ap option_copied c.in-Some.is in
    ap (λ o. update_beside o state found) there ∙ ap Repeated (sym (c.in_ok-share-in-Some.ensures ∙ c.reply.ensures))
