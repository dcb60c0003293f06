-- The operation is the next one.
use Rattle.std.proofs.Common.{◌≡◌, sym, ap, ◌∙◌}
use Rattle.version_order.specs.Plan.{Plan}
use Rattle.pending_list.specs.Reply.{PendingItem, reply}
use Rattle.consistency_server.specs.State.{Placement, after_operation, next_vector, next_item, next_reply}
use Rattle.consistency_server.specs.Judged.{reply_beside, table_or}
use Rattle.consistency_server.proofs.Placing.{placed_judged}
use Rattle.consistency_server.proofs.state.State.judge_planned.Goals as goal

pub returns-in-Ok : goal.returns-in-Ok
returns-in-Ok g c =
    let state = c.args.self.now in
    let found = c.args.found in
    let brought = c.in-Ok.brought in
    let item : c.in_ok-item.item ≡ next_item state found = c.in_ok-item.ensures ∙ ap (λ (p : Plan). record { cert = found.value; signature = found.signature; plan = p }) c.requires.plan in
    let text : reply.spell (reply_beside state c.in_ok-item.item) ≡ reply.spell (next_reply state found)
    = ap (λ (i : PendingItem). reply.spell (reply_beside state i)) item in
    let table : table_or brought.table state.table ≡ after_operation found.value state.table
    = c.in-Ok.ensures.table ∙ ap (λ (i : PendingItem). after_operation i.cert state.table) item in
    let vector : brought.vector ≡ next_vector state.table state.vector found.value
    = c.in-Ok.ensures.vector ∙ ap (λ (i : PendingItem). i.plan.vector) item in
    let kept : c.new-placement.result.reply ≡ brought.reply = ap (λ (w : Placement). w.reply) c.new-placement.ensures in
    placed_judged state found brought.table brought.vector c.new-placement.result brought.payload c.user-user.ensures.fits c.requires.free table vector
    (ap (λ (w : Placement). w.item) c.new-placement.ensures ∙ item)
    (kept ∙ c.in-Ok.ensures.reply ∙ text)
    (c.in-Ok.ensures.payload ∙ sym c.in-Ok.ensures.reply ∙ sym kept)
