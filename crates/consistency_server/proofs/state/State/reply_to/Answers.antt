-- There is room for the operation in the lists of a reply.
use Rattle.std.proofs.Common.{◌≡◌, ◌<◌, List, [], ◌∷◌, ◌++◌, None, ap, subst, ◌∙◌, arith}
use Rattle.std.specs.Prelude.{map}
use Rattle.std.specs.Int.{w8}
use Rattle.layout.specs.Laws.{in_range}
use Rattle.version_order.specs.Structure.{Structure}
use Rattle.update_cert.specs.Cert.{cert}
use Rattle.pending_list.specs.declared.signed.Signed.{Signed}
use Rattle.pending_list.specs.Reply.{reply}
use Rattle.consistency_server.specs.State.{State, Placement, pending_of}
use Rattle.consistency_server.proofs.Texts.{with_ok}
use Rattle.consistency_server.proofs.Tidy.{few_structures, few_pending}
use Rattle.consistency_server.proofs.state.State.reply_to.Goals as goal

pub reply_text-requires-clause-few_structures : goal.reply_text-requires-clause-few_structures
reply_text-requires-clause-few_structures g c =
    let s : State = record { table = c.self.inside.table; vector = c.self.inside.vector; structures = c.self.inside.structures.items; pending = c.self.inside.pending.items } in
    rw c.deref.ensures.value (few_structures s c.self.invariant)

pub reply_text-requires-clause-few_pending : goal.reply_text-requires-clause-few_pending
reply_text-requires-clause-few_pending g c =
    let s : State = record { table = c.self.inside.table; vector = c.self.inside.vector; structures = c.self.inside.structures.items; pending = c.self.inside.pending.items } in
    let fits : cert.Fits c.args.item.now.cert = subst cert.Fits c.cert.ensures c.user-user.ensures.fits in
    let user : c.args.item.now.cert.user < 64 = omega (arith, (in_range w8 0 63 c.args.item.now.cert.user fits.0).1) in
    let free : pending_of c.args.item.now.cert.user s.pending ≡ None = ap (λ (t : State). pending_of c.args.item.now.cert.user t.pending) c.self.view_is ∙ c.requires in
    rw c.deref-2.ensures.value (few_pending s c.args.item.now.cert.user c.self.invariant user free)

pub returns : goal.returns
returns g c =
    let state = c.args.self.now in
    let structures : c.deref.result.now ≡ state.structures = c.deref.ensures.value ∙ ap (λ (s : State). s.structures) c.self.view_is in
    let pending : c.deref-2.result.now ≡ state.pending = c.deref-2.ensures.value ∙ ap (λ (s : State). s.pending) c.self.view_is in
    with_ok c.reply_text.result _ _ (λ text e. e
    ∙ ap (λ (ss : List (Signed Structure)). reply.spell (record { structures = ss; pending = map (λ w. w.item) c.deref-2.result.now ++ c.args.item.now ∷ [] })) structures
    ∙ ap (λ (ws : List Placement). reply.spell (record { structures = state.structures; pending = map (λ w. w.item) ws ++ c.args.item.now ∷ [] })) pending) c.reply_text.ensures
