use Rattle.std.proofs.Common.{◌≡◌, subst}
use Rattle.std.specs.Prelude.{OnOk}
use Rattle.pending_list.specs.Reply.{Reply, reply}
use Rattle.pending_list.proofs.reply.ReplyText.write_fields.Goals as goal

pub returns-clause-ok : goal.returns-clause-ok
returns-clause-ok g c =
    subst (λ (r : Reply). OnOk c.write_lists.result (c.write_lists.new.writer ≡ reply.onto c.args.writer.now r)) c.self.view_is (rw (c.deref.ensures.value, c.deref-2.ensures.value) at c.write_lists.ensures.ok)

pub returns-clause-front : goal.returns-clause-front
returns-clause-front g c = c.write_lists.ensures.front
