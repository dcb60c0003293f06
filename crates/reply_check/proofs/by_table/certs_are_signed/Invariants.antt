use Rattle.std.proofs.Common.{◌≡◌, drop}
use Rattle.std.specs.List.{list_all}
use Rattle.reply_check.specs.FirstBroken.{cert_is_signed}
use Rattle.reply_check.proofs.by_table.certs_are_signed.Given as goal

abbrev pub invariant-loop-item : goal.invariant-loop-item
invariant-loop-item g l =
    list_all (cert_is_signed l.table) (drop l.item-index l.pending) ≡ list_all (cert_is_signed l.table) l.pending
