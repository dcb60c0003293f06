use Rattle.std.proofs.Common.{◌≤◌, length, sym, ap, subst, arith}
use Rattle.leaf_ledger.specs.Device.{History, WroteSome}
use Rattle.leaf_ledger.specs.Recording.{FileState}
use Rattle.leaf_ledger.proofs.Parts.{part_written}
use Rattle.leaf_ledger.proofs.file.FileDeviceDevice.write_at.Goals as goal

pub returns-then-is_err-2-clause-err : goal.returns-then-is_err-2-clause-err
returns-then-is_err-2-clause-err g c =
    let size = length c.args.bytes.now in
    let fits = subst (λ (m : FileState). c.args.at ≤ length m.history.now.text) (sym c.self.view_is) c.requires in
    subst (λ (h : History). WroteSome c.args.at size h c.write.new.self) (ap (λ (m : FileState). m.history) c.self.view_is)
    (part_written c.write.result c.self.inside.kept c.write.new.self c.args.at size c.args.bytes.now fits (omega arith) c.write.ensures.ok c.write.ensures.err)
