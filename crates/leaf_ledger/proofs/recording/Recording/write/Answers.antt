use Rattle.std.proofs.Common.{◌∙◌, ap}
use Rattle.leaf_ledger.specs.Device.{History, wrote, written}
use Rattle.leaf_ledger.proofs.Replays.{write_history, write_disk}
use Rattle.leaf_ledger.proofs.recording.Recording.write.Goals as goal

pub invariant_of-self-2 : goal.invariant_of-self-2
invariant_of-self-2 g c =
    let s = c.self.inside in
    write_disk s.first.items s.text.items s.synced_text.items s.unsynced.items s.calls.items c.push_reserved.new.self.items c.self.invariant
    c.args.at c.args.size c.args.bytes.now c.in_ok-copy.copy c.in_ok-copy.ensures.items
    c.reserve.new.self.items c.in_ok-reserve.ensures.items c.push_reserved.ensures.items
    c.splice.new.text.items c.push_reserved-2.new.self.items c.reserve-2.new.self.items c.in_ok-splice.ensures.ok c.in_ok-reserve-2.ensures.items c.push_reserved-2.ensures.items

pub returns-clause-ok : goal.returns-clause-ok
returns-clause-ok g c =
    let s = c.self.inside in
    write_history s.first.items s.text.items s.synced_text.items s.unsynced.items s.calls.items c.push_reserved.new.self.items c.self.invariant
    c.args.at c.args.size c.args.bytes.now c.in_ok-copy.copy c.in_ok-copy.ensures.items
    c.reserve.new.self.items c.in_ok-reserve.ensures.items c.push_reserved.ensures.items
    ∙ ap (λ (h : History). wrote c.args.at c.args.size (written c.args.at c.args.bytes.now h.now.text) h) c.self.view_is
