-- The number is the next, nothing of the user is pending, and the digests are compared.
use Rattle.std.proofs.Common.{◌≡◌, ◌+◌, false, Some, None, refl, sym, ap, ◌∙◌, arith}
use Rattle.std.specs.Prelude.{is_some}
use Rattle.std.specs.Option.{option_copied}
use Rattle.std.specs.Str.{bytes_eq}
use Rattle.version_order.specs.Vector.{version_of}
use Rattle.pending_list.specs.Reply.{digest_of_last}
use Rattle.consistency_server.specs.State.{State, pending_of}
use Rattle.consistency_server.specs.Answers.{structure_of}
use Rattle.consistency_server.proofs.Placing.{next_by}
use Rattle.consistency_server.proofs.state.State.is_next.Goals as goal

pub returns : goal.returns
returns g c =
    let state = c.args.self.now in
    let cert = c.args.cert.now in
    let user = c.user-user.result in
    let own : user ≡ cert.user = c.user-user.ensures.same in
    let placed : c.version_of-placed.result ≡ version_of cert.user state.vector
    = c.version_of-placed.ensures ∙ ap (λ p. version_of p c.self.inside.vector) (c.from.ensures ∙ own) ∙ ap (λ (s : State). version_of cert.user s.vector) c.self.view_is in
    let number : cert.number ≡ version_of cert.user state.vector + 1 = omega (arith, placed, c.get.ensures.same, c.get.ensures.positive, c.number.ensures, c.if-get-placed.false) in
    let nothing : option_copied c.pending_of.result ≡ None
    = elim c.pending_of.result as (λ r. is_some r ≡ false → option_copied r ≡ None) [ Some x ↦ λ h. absurd cc | None ↦ λ h. refl ] (sym c.is_some.ensures ∙ c.if-is_some.false) in
    let free : pending_of cert.user state.pending ≡ None
    = ap (λ u. pending_of u state.pending) (sym own) ∙ ap (λ (s : State). pending_of user s.pending) (sym c.self.view_is) ∙ ap (pending_of user) (sym c.deref.ensures.value) ∙ sym c.pending_of.ensures ∙ nothing in
    let last : option_copied c.structure_of.result ≡ structure_of cert.user state
    = c.structure_of.ensures ∙ ap (λ ss. structure_of user (record { table = state.table; vector = state.vector; structures = ss; pending = state.pending })) c.deref-2.ensures.value ∙ ap (structure_of user) c.self.view_is ∙ ap (λ u. structure_of u state) own in
    c.eq.ensures
    ∙ ap (λ b. bytes_eq b c.as_bytes-2.result.now) (c.as_bytes.ensures.same ∙ c.last.ensures)
    ∙ ap (bytes_eq cert.last) (c.as_bytes-2.ensures.same ∙ c.digest_of_last-last.ensures ∙ ap digest_of_last last)
    ∙ next_by state cert number free
