use Rattle.std.proofs.Common.{◌≡◌, true, [], ◌∷◌, None, Ok, Err, ap, subst}
use Rattle.leaf_ledger.specs.Device.{History}
use Rattle.record_log.specs.Records.{Reaches, HasRead}
use Rattle.server_log.specs.declared.error.OpenError.{OpenError}
use Rattle.server_log.specs.KeptLog.{IsReason}
use Rattle.server_log.proofs.OneMore.{read_first}
use Rattle.server_log.proofs.Reasons.{found_some, handed_on, no_beginning, not_ended}
use Rattle.server_log.proofs.reading.read_beginning.Goals as goal

pub returns-in_err-check_beginning-clause-reason : goal.returns-in_err-check_beginning-clause-reason
returns-in_err-check_beginning-clause-reason g c =
    let e = c.in_err-check_beginning.field-0.0 in
    let reader = c.args.reader.now in
    let some = rw c.in-Some.is at c.in_ok-first.ensures.some in
    handed_on c.from_residual-in_err-check_beginning.result e
    (λ (x : OpenError). g.S.Storage.tells ≡ true → HasRead [] reader → IsReason x c.args.pinned reader.file.now.text)
    c.from_residual-in_err-check_beginning.ensures.1 (λ tells read.
    no_beginning e c.args.pinned reader.file.now.text c.next.new.self.place c.in-Some.first
    (subst (λ (h : History). Reaches h.now.text c.next.new.self.place (c.in-Some.first ∷ [])) c.next.ensures.file (some tells [] read))
    c.in_err-check_beginning.ensures.only
    (λ is. c.in_err-check_beginning.ensures.other (ap Err is))
    (λ is. c.in_err-check_beginning.ensures.none (ap Err is)))

pub returns-clause-read : goal.returns-clause-read
returns-clause-read g c tells read =
    let some = rw c.in-Some.is at c.in_ok-first.ensures.some in
    read_first c.args.pinned c.in-Some.first c.genesis.result c.next.new.self c.in_ok-check_beginning.ensures.ok c.genesis.ensures (some tells [] read)

pub returns-clause-more_some : goal.returns-clause-more_some
returns-clause-more_some g c =
    not_ended c.args.reader.now.ended c.next.result (Ok None) c.next.ensures.all_read
    (found_some c.next.result c.in_ok-first.field-0 c.in-Some.first c.in_ok-first.was c.in-Some.is)
