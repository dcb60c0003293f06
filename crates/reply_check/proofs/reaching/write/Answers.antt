use Rattle.reply_check.proofs.ReplyReached.{counts_seen, good_written}
use Rattle.reply_check.proofs.reaching.write.Goals as goal

pub write_in-requires-clause-raised : goal.write_in-requires-clause-raised
write_in-requires-clause-raised g c =
    let good = c.good.inside in
    counts_seen c.as_bytes.result.now c.view-view.result good.table.table good.lists c.view-view.ensures c.good.invariant

pub returns : goal.returns
returns g c =
    let held = g.B.Blocks.held c.args.blocks.now in
    let good = c.good.inside in
    good_written c.write_in.result held c.as_bytes.result.now c.args.pinned.now c.view-view.result good.table.table good.table.voids good.lists c.args.good.now c.as_bytes.ensures.same c.view-view.ensures c.good.view_is c.write_in.ensures
