-- What was written into an empty text is the spelling, and that of a reply has so many bytes at most.
use Rattle.std.proofs.Common.{◌≡◌, ◌+◌, ◌<◌, ◌≤◌, ap, sym, subst, ◌∙◌, List, ℕ, length, arith}
use Rattle.std.specs.Prelude.{map}
use Rattle.std.proofs.lemmas.List.{length-map}
use Rattle.pending_list.specs.declared.reply.TheConstants.{REPLY_SIZE}
use Rattle.pending_list.specs.Reply.{PendingItem}
use Rattle.pending_list.specs.ReplyLaws.{size_of}
use Rattle.pending_list.proofs.Rows.{answer_fits}
use Rattle.consistency_server.specs.State.{Placement}
use Rattle.consistency_server.proofs.ReplyRows.{lists, reply_written}
use Rattle.consistency_server.proofs.Texts.{with_ok}
use Rattle.consistency_server.proofs.reply_text.reply_text.Goals as goal

abbrev item : Placement → PendingItem
item w = w.item

pub from_vec-requires : goal.from_vec-requires
from_vec-requires g c =
    let others : List PendingItem = map item c.args.pending.now in
    let many : length others ≡ length c.args.pending.now = length-map c.args.pending.now item in
    let written = reply_written c.args.structures.now others c.args.own.now c.in_ok-writer.writer c.tag.new.self c.u8.new.self c.write_structures.new.writer c.u8-2.new.self c.write_pending.new.writer c.write_row.new.writer c.finish.result.items (length c.args.pending.now + 1)
    c.in_ok-writer.ensures c.in_ok-tag.ensures.ok c.in_ok-u8.ensures.ok c.in_ok-write_structures.ensures.rows (ap (λ k. k + 1) (sym many)) c.in_ok-u8-2.ensures.ok c.in_ok-write_pending.ensures.rows c.in_ok-write_row.ensures.ok c.finish.ensures in
    let few : length others < 64 = omega (arith, c.requires.few_pending, many) in
    let fits = answer_fits c.args.structures.now others c.args.own.now c.requires.few_structures few c.in_ok-write_structures.ensures.fits c.in_ok-write_pending.ensures.fits c.in_ok-write_row.ensures.fits in
    subst (λ (t : List ℕ). length t ≤ REPLY_SIZE) (sym written) (size_of (lists c.args.structures.now others c.args.own.now) fits)

pub returns : goal.returns
returns g c =
    let others : List PendingItem = map item c.args.pending.now in
    let many : length others ≡ length c.args.pending.now = length-map c.args.pending.now item in
    let written = reply_written c.args.structures.now others c.args.own.now c.in_ok-writer.writer c.tag.new.self c.u8.new.self c.write_structures.new.writer c.u8-2.new.self c.write_pending.new.writer c.write_row.new.writer c.finish.result.items (length c.args.pending.now + 1)
    c.in_ok-writer.ensures c.in_ok-tag.ensures.ok c.in_ok-u8.ensures.ok c.in_ok-write_structures.ensures.rows (ap (λ k. k + 1) (sym many)) c.in_ok-u8-2.ensures.ok c.in_ok-write_pending.ensures.rows c.in_ok-write_row.ensures.ok c.finish.ensures in
    with_ok c.from_vec.result _ _ (λ payload e. e ∙ written) c.from_vec.ensures
