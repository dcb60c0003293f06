use Rattle.pending_list.specs.ReplyLaws.{pending_row_fits}
use Rattle.pending_list.proofs.reply.PendingItem.new.Goals as goal

pub invariant_of-result : goal.invariant_of-result
invariant_of-result g c =
    pending_row_fits (record { cert = c.args.cert.value; signature = c.args.cert.signature; plan = c.args.plan }) c.user-certified.ensures.fits c.as_bytes-signature.ensures.fits c.user-planned.ensures.fits
