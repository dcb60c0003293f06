use Rattle.std.proofs.Common.{◌≡◌, true, [], ◌∷◌, ◌++◌, reverse, Err, sym, ◌∙◌, ap, subst}
use Rattle.leaf_ledger.specs.Device.{History}
use Rattle.record_log.specs.Records.{Reaches}
use Rattle.consistency_server.specs.History.{Ordered, call_of}
use Rattle.server_log.specs.declared.error.OpenError.{OpenError}
use Rattle.server_log.specs.Errors.{of_replay_error}
use Rattle.server_log.specs.KeptLog.{records_of, IsReason}
use Rattle.server_log.specs.Reading.{AllLogged, IsReadBack}
use Rattle.server_log.proofs.OneMore.{is_call, logged_more, read_more}
use Rattle.server_log.proofs.Reasons.{handed_on, no_call_of_it, replay_reason}
use Rattle.server_log.proofs.reading.replay_next.Goals as goal

pub returns-in_default-kind_of-clause-reason : goal.returns-in_default-kind_of-clause-reason
returns-in_default-kind_of-clause-reason g c tells read =
    let order = c.args.order.now in
    let some = rw c.in-Some.is at c.in_ok-next.ensures.some in
    let rs = records_of order.pinned (reverse order.history) in (
      reverse order.history,
      c.in-Some.next,
      λ kind is. c.in_default-kind_of.ensures.none kind (is ∙ sym c.kind.ensures),
      (c.next.new.self.place, subst (λ (h : History). Reaches h.now.text c.next.new.self.place (rs ++ c.in-Some.next ∷ [])) c.next.ensures.file (some tells rs read)),
    )

pub returns-in_err-replay_call-clause-reason : goal.returns-in_err-replay_call-clause-reason
returns-in_err-replay_call-clause-reason g c =
    let order = c.args.order.now in
    let e = c.in_err-replay_call.field-0.0 in
    let call = call_of c.in-Some-kind_of.kind c.text.result.now in
    let some = rw c.in-Some.is at c.in_ok-next.ensures.some in
    let rs = records_of order.pinned (reverse order.history) in
    handed_on c.from_residual-in_err-replay_call.result (of_replay_error e)
    (λ (x : OpenError). g.S.Storage.tells ≡ true → IsReadBack order c.args.reader.now → IsReason x order.pinned c.args.reader.now.file.now.text)
    c.from_residual-in_err-replay_call.ensures.1 (λ tells read. replay_reason e order.pinned c.args.reader.now.file.now.text (λ is.
    no_call_of_it order call c.in-Some.next c.args.reader.now.file.now.text c.next.new.self.place
    (is_call c.in-Some.next c.in-Some-kind_of.kind c.text.result.now (c.in-Some-kind_of.ensures.some ∙ c.kind.ensures) c.text.ensures.same)
    (c.in_err-replay_call.ensures.foreign (ap Err is))
    (subst (λ (h : History). Reaches h.now.text c.next.new.self.place (rs ++ c.in-Some.next ∷ [])) c.next.ensures.file (some tells rs read))))

pub returns-clause-logged : goal.returns-clause-logged
returns-clause-logged g c =
    subst (λ (o : Ordered). AllLogged o) (sym c.in_ok-replay_call.ensures.history)
    (logged_more c.args.order.now (call_of c.in-Some-kind_of.kind c.text.result.now) c.requires c.in_ok-replay_call.ensures.logged)

pub returns-clause-read : goal.returns-clause-read
returns-clause-read g c _ tells read =
    let order = c.args.order.now in
    let some = rw c.in-Some.is at c.in_ok-next.ensures.some in
    subst (λ (o : Ordered). IsReadBack o c.next.new.self) (sym c.in_ok-replay_call.ensures.history)
    (read_more order (call_of c.in-Some-kind_of.kind c.text.result.now) c.in-Some.next c.next.new.self
    (is_call c.in-Some.next c.in-Some-kind_of.kind c.text.result.now (c.in-Some-kind_of.ensures.some ∙ c.kind.ensures) c.text.ensures.same)
    (some tells (records_of order.pinned (reverse order.history)) read))
