use Rattle.std.proofs.Common.{◌≤◌, length, arith}
use Rattle.record_log.proofs.Opened.{at_most_synced, synced_once, gate_failed, gate_written}
use Rattle.record_log.proofs.chain.start.Goals as goal

pub returns-in_err-size-clause-left : goal.returns-in_err-size-clause-left
returns-in_err-size-clause-left g c tells =
    at_most_synced (g.S.Storage.history c.args.storage.now) (g.S.Storage.history c.synced_size.new.storage) (c.in_err-size.ensures.err tells)

pub returns-in_err-write_through-clause-left : goal.returns-in_err-write_through-clause-left
returns-in_err-write_through-clause-left g c tells =
    let old = g.S.Storage.history c.args.storage.now in
    let few : length old.now.text ≤ 1 = omega (arith, c.in_ok-size.ensures.size tells) in
    gate_failed old few (g.S.Storage.history c.synced_size.new.storage) (c.in_ok-size.ensures.synced tells)
    (g.S.Storage.history c.write_through.new.storage) (c.in_err-write_through.ensures.err tells)

pub returns-then-size-le1-clause-left : goal.returns-then-size-le1-clause-left
returns-then-size-le1-clause-left g c tells =
    let old = g.S.Storage.history c.args.storage.now in
    let few : length old.now.text ≤ 1 = omega (arith, c.in_ok-size.ensures.size tells) in
    gate_written old few (g.S.Storage.history c.synced_size.new.storage) (c.in_ok-size.ensures.synced tells) (g.S.Storage.history c.write_through.new.storage) (c.in_ok-write_through.ensures.ok tells)

pub returns-clause-left : goal.returns-clause-left
returns-clause-left g c tells =
    synced_once (g.S.Storage.history c.args.storage.now) (g.S.Storage.history c.synced_size.new.storage)
    (c.in_ok-size.ensures.synced tells)
