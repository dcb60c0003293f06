use Rattle.std.proofs.Common.{◌/◌, ◌≤◌, length, take, sym, ap, subst, arith, length-take}
use Rattle.leaf_ledger.specs.Device.{History, WroteSome}
use Rattle.leaf_ledger.specs.Recording.{MemoryState}
use Rattle.leaf_ledger.proofs.Parts.{part_written}
use Rattle.leaf_ledger.proofs.memory.MemoryDeviceDevice.write_at.Goals as goal

pub returns-then-is_due-clause-err : goal.returns-then-is_due-clause-err
returns-then-is_due-clause-err g c =
    let size = length c.args.bytes.now in
    let fits = subst (λ (m : MemoryState). c.args.at ≤ length m.history.now.text) (sym c.self.view_is) c.requires in
    subst (λ (h : History). WroteSome c.args.at size h c.write.new.self) (ap (λ (m : MemoryState). m.history) c.self.view_is)
    (part_written c.write.result c.self.inside.recording c.write.new.self
    c.args.at size (take (size / 2) c.args.bytes.now) fits (omega (arith, length-take (size / 2) c.args.bytes.now)) c.write.ensures.ok c.write.ensures.err)
