use Rattle.std.proofs.Common.{◌≤◌, Result, Ok, Err, OnErr, length, ◌∙◌, arith}
use Rattle.client_journal.proofs.Opened.{at_most_synced, still_new, synced_once, gate_failed, new_failed, gate_there, gate_written, tells_before, new_ready}
use Rattle.client_journal.proofs.chain.find_end.Goals as goal

on_err : {T E P : Type 0} (r : Result T E) → P → OnErr r P
on_err (Ok x) p = tt
on_err (Err e) p = p

pub returns-in_err-size-clause-left : goal.returns-in_err-size-clause-left
returns-in_err-size-clause-left g c =
    at_most_synced (g.D.Device.history c.args.device.now) (g.D.Device.history c.synced_size.new.device) c.in_err-size.ensures.err

pub returns-in_err-size-clause-new_err : goal.returns-in_err-size-clause-new_err
returns-in_err-size-clause-new_err g c =
    on_err c.from_residual.result (still_new (g.D.Device.history c.args.device.now) (g.D.Device.history c.synced_size.new.device) c.in_err-size.ensures.err)

pub returns-in_err-write_through-clause-left : goal.returns-in_err-write_through-clause-left
returns-in_err-write_through-clause-left g c =
    let old = g.D.Device.history c.args.device.now in
    let few : length old.now.text ≤ 1 = omega (arith, c.in_ok-size.ensures.size) in
    gate_failed old few (g.D.Device.history c.synced_size.new.device) c.in_ok-size.ensures.synced
    (g.D.Device.history c.write_through.new.device) c.in_err-write_through.ensures.err

pub returns-in_err-write_through-clause-new_err : goal.returns-in_err-write_through-clause-new_err
returns-in_err-write_through-clause-new_err g c =
    on_err c.from_residual-in_err-write_through.result (λ few.
    new_failed (g.D.Device.history c.args.device.now) few (g.D.Device.history c.synced_size.new.device) c.in_ok-size.ensures.synced
    (g.D.Device.history c.write_through.new.device) c.in_err-write_through.ensures.err)

pub returns-then-size-le1-clause-tells : goal.returns-then-size-le1-clause-tells
returns-then-size-le1-clause-tells g c =
    let old = g.D.Device.history c.args.device.now in
    let few : length old.now.text ≤ 1 = omega (arith, c.in_ok-size.ensures.size) in
    tells_before old few (g.D.Device.history c.synced_size.new.device) c.in_ok-size.ensures.synced (g.D.Device.history c.write_through.new.device) c.in_ok-write_through.ensures.ok

pub returns-then-size-le1-clause-new : goal.returns-then-size-le1-clause-new
returns-then-size-le1-clause-new g c few =
    gate_there (g.D.Device.history c.args.device.now) few (g.D.Device.history c.synced_size.new.device) c.in_ok-size.ensures.synced
    (g.D.Device.history c.write_through.new.device) c.in_ok-write_through.ensures.ok

pub returns-then-size-le1-clause-ready : goal.returns-then-size-le1-clause-ready
returns-then-size-le1-clause-ready g c =
    let old = g.D.Device.history c.args.device.now in
    let few : length old.now.text ≤ 1 = omega (arith, c.in_ok-size.ensures.size) in
    new_ready old few (g.D.Device.history c.synced_size.new.device) c.in_ok-size.ensures.synced (g.D.Device.history c.write_through.new.device) c.in_ok-write_through.ensures.ok

pub returns-then-size-le1-clause-left : goal.returns-then-size-le1-clause-left
returns-then-size-le1-clause-left g c =
    let old = g.D.Device.history c.args.device.now in
    let few : length old.now.text ≤ 1 = omega (arith, c.in_ok-size.ensures.size) in
    gate_written old few (g.D.Device.history c.synced_size.new.device) c.in_ok-size.ensures.synced (g.D.Device.history c.write_through.new.device) c.in_ok-write_through.ensures.ok

pub returns-clause-left : goal.returns-clause-left
returns-clause-left g c =
    synced_once (g.D.Device.history c.args.device.now) (g.D.Device.history c.walk.new.device)
    (c.walk.ensures.same ∙ c.in_ok-size.ensures.synced)
