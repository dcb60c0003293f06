use Rattle.std.proofs.Common.{◌≡◌, drop}
use Rattle.std.specs.List.{list_all}
use Rattle.reply_check.specs.FirstBroken.{cert_verifies}
use Rattle.reply_check.proofs.verdict.certs_verify.Given as goal

abbrev pub invariant-loop-item : goal.invariant-loop-item
invariant-loop-item g l =
    list_all (cert_verifies l.known.pinned) (drop l.item-index l.pending) ≡ list_all (cert_verifies l.known.pinned) l.pending
