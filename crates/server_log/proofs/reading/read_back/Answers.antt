use Rattle.std.proofs.Common.{◌≡◌, true, [], ap, subst}
use Rattle.layout.specs.Types.{Key}
use Rattle.leaf_ledger.specs.Device.{History}
use Rattle.record_log.specs.Records.{HasRead}
use Rattle.consistency_server.specs.History.{Ordered}
use Rattle.server_log.specs.declared.error.OpenError.{OpenError}
use Rattle.server_log.specs.KeptLog.{IsReason}
use Rattle.server_log.proofs.OneMore.{none_yet}
use Rattle.server_log.proofs.Reasons.{handed_on}
use Rattle.server_log.proofs.reading.read_back.Goals as goal

pub loop-order-init : goal.loop-order-init
loop-order-init g c =
    let some = rw c.in-Some.is at c.in_ok-order.ensures.some in
    let read = rw c.in-Some.is at c.in_ok-order.ensures.read in
    let more = rw c.in-Some.is at c.in_ok-order.ensures.more_some in
    record {
      inside = c.read_beginning.ensures.inside;
      file = c.read_beginning.ensures.file;
      pinned = ap (λ (o : Ordered). o.pinned) some;
      logged = none_yet c.args.pinned c.in-Some.order some;
      read = read;
      more = more;
      later = c.read_beginning.ensures.later;
    }

pub returns-in_err-replay_next-clause-reason : goal.returns-in_err-replay_next-clause-reason
returns-in_err-replay_next-clause-reason g c =
    let e = c.in_err-replay_next.field-0.0 in
    let inv = c.loop-order.invariant in
    handed_on c.from_residual-in_err-replay_next.result e
    (λ (x : OpenError). g.S.Storage.tells ≡ true → HasRead [] c.args.reader.now → IsReason x c.args.pinned c.args.reader.now.file.now.text)
    c.from_residual-in_err-replay_next.ensures.1 (λ tells read.
    subst (λ (k : Key). IsReason e k c.args.reader.now.file.now.text) inv.pinned
    (subst (λ (h : History). IsReason e c.loop-order.order.pinned h.now.text) inv.file (c.in_err-replay_next.ensures.reason tells (inv.read tells read))))
