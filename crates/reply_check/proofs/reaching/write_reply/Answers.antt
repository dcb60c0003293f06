use Rattle.reply_rules.specs.Lists.{lists_of}
use Rattle.reply_check.proofs.ReplyReached.{reply_counts, reply_written}
use Rattle.reply_check.proofs.reaching.write_reply.Goals as goal

pub write_in-requires-clause-raised : goal.write_in-requires-clause-raised
write_in-requires-clause-raised g c =
    reply_counts (lists_of c.args.reply.now) c.as_bytes.result.now c.view-view.result c.args.table.now.table c.requires c.view-view.ensures

pub returns : goal.returns
returns g c =
    let held = g.B.Blocks.held c.args.blocks.now in
    let table = c.args.table.now in
    reply_written (lists_of c.args.reply.now) c.write_in.result held c.as_bytes.result.now c.args.pinned.now c.view-view.result table.table table.voids c.as_bytes.ensures.same c.view-view.ensures c.write_in.ensures
