use Rattle.std.proofs.Common.{◌≡◌, ◌+◌, ℕ, List, length, sym, subst}
use Rattle.leaf_ledger.specs.Device.{WroteSome, wrote_bytes, synced}
use Rattle.record_log.specs.Places.{IsReady}
use Rattle.record_log.proofs.Appended.{on_err, slice_is, length-laid, first_failed, second_failed, all_added, new_ready}
use Rattle.record_log.proofs.putting.put.Goals as goal

pub returns-in_err-write_through-clause-err : goal.returns-in_err-write_through-clause-err
returns-in_err-write_through-clause-err g c = on_err c.from_residual.result (λ tells bs laid.
    let old = g.S.Storage.history c.args.storage.now in
    let gate = c.args.gate in
    let new = g.S.Storage.history c.write_through.new.storage in
    first_failed old gate (c.requires.ready tells) bs laid.some laid.short new
    (subst (λ (b : List ℕ). WroteSome (gate + 1) (length b) old new) (slice_is c.args.bytes.now bs laid) (c.in_err-write_through.ensures.err tells)))

pub returns-in_err-write_through-2-clause-err : goal.returns-in_err-write_through-2-clause-err
returns-in_err-write_through-2-clause-err g c = on_err c.from_residual-in_err-write_through-2.result (λ tells bs laid.
    let old = g.S.Storage.history c.args.storage.now in
    let gate = c.args.gate in
    let mid = g.S.Storage.history c.write_through.new.storage in
    let is = subst (λ (b : List ℕ). mid ≡ synced (wrote_bytes (gate + 1) b old)) (slice_is c.args.bytes.now bs laid) (c.in_ok-write_through.ensures.ok tells) in
    second_failed old gate (c.requires.ready tells) bs laid.some laid.short mid is (g.S.Storage.history c.write_through-2.new.storage) (c.in_err-write_through-2.ensures.err tells))

pub returns-clause-ok : goal.returns-clause-ok
returns-clause-ok g c tells bs laid =
    let old = g.S.Storage.history c.args.storage.now in
    let gate = c.args.gate in
    let mid = g.S.Storage.history c.write_through.new.storage in
    let is = subst (λ (b : List ℕ). mid ≡ synced (wrote_bytes (gate + 1) b old)) (slice_is c.args.bytes.now bs laid) (c.in_ok-write_through.ensures.ok tells) in
    all_added old gate (c.requires.ready tells) bs laid.some laid.short mid is (g.S.Storage.history c.write_through-2.new.storage) (c.in_ok-write_through-2.ensures.ok tells)

pub returns-clause-ready : goal.returns-clause-ready
returns-clause-ready g c tells bs laid =
    let old = g.S.Storage.history c.args.storage.now in
    let gate = c.args.gate in
    let mid = g.S.Storage.history c.write_through.new.storage in
    let new = g.S.Storage.history c.write_through-2.new.storage in
    let is = subst (λ (b : List ℕ). mid ≡ synced (wrote_bytes (gate + 1) b old)) (slice_is c.args.bytes.now bs laid) (c.in_ok-write_through.ensures.ok tells) in
    subst (λ (n : ℕ). IsReady new.now (gate + n)) (sym (length-laid c.args.bytes.now bs laid))
    (new_ready old gate (c.requires.ready tells) bs laid.some laid.short mid is new (c.in_ok-write_through-2.ensures.ok tells))
