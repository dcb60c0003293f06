use Rattle.record_log.proofs.Room.{some_behind, all_behind, room_behind, still_ready}
use Rattle.std.proofs.Common.{length}
use Rattle.record_log.proofs.putting.put_behind.Goals as goal

pub returns-in_err-write_through-clause-kept : goal.returns-in_err-write_through-clause-kept
returns-in_err-write_through-clause-kept g c = λ tells.
    some_behind (g.S.Storage.history c.args.storage.now) c.args.gate (c.requires.ready tells) (length c.args.bytes.now) (g.S.Storage.history c.write_through.new.storage)
    (c.in_err-write_through.ensures.err tells)

pub returns-clause-kept : goal.returns-clause-kept
returns-clause-kept g c tells =
    all_behind (g.S.Storage.history c.args.storage.now) c.args.gate (c.requires.ready tells) c.args.bytes.now (g.S.Storage.history c.write_through.new.storage)
    (c.in_ok-write_through.ensures.ok tells)

pub returns-clause-room : goal.returns-clause-room
returns-clause-room g c tells =
    room_behind (g.S.Storage.history c.args.storage.now) c.args.gate (c.requires.ready tells) c.args.bytes.now (g.S.Storage.history c.write_through.new.storage)
    (c.in_ok-write_through.ensures.ok tells)

pub returns-clause-ready : goal.returns-clause-ready
returns-clause-ready g c tells =
    still_ready (g.S.Storage.history c.args.storage.now) c.args.gate (c.requires.ready tells) c.args.bytes.now (g.S.Storage.history c.write_through.new.storage)
    (c.in_ok-write_through.ensures.ok tells)
