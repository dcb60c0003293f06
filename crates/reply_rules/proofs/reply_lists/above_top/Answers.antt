use Rattle.reply_rules.proofs.Above.{ends_above}
use Rattle.reply_rules.proofs.reply_lists.above_top.Goals as goal

pub returns : goal.returns
returns g c =
    ends_above c.args.reply.now _ _ _ _ c.requires c.pending-pending.ensures c.depth_of_top.ensures c.place_above-place.ensures.same c.split_at.ensures.back
