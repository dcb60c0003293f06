use Rattle.std.proofs.Common.{None, ◌∙◌, ap}
use Rattle.leaf_ledger.specs.Device.{History, started, synced}
use Rattle.leaf_ledger.proofs.Follows.{one_more}
use Rattle.leaf_ledger.proofs.followed.Followed.sync.Goals as goal

pub invariant_of-self-2 : goal.invariant_of-self-2
invariant_of-self-2 g c =
    let s = c.self.inside in
    ap (λ (h : History). h.now.text)
    (one_more (started s.first.value.items) s.moments.items c.reserve.new.self.items c.push_reserved.new.self.items c.of.result
    (record { text = s.last.text; written = None }) c.in_ok-reserve.ensures.items c.push_reserved.ensures.items c.of.ensures)
    ∙ c.self.invariant

pub returns-clause-ok : goal.returns-clause-ok
returns-clause-ok g c =
    let s = c.self.inside in
    one_more (started s.first.value.items) s.moments.items c.reserve.new.self.items c.push_reserved.new.self.items c.of.result
    (record { text = s.last.text; written = None }) c.in_ok-reserve.ensures.items c.push_reserved.ensures.items c.of.ensures
    ∙ ap synced c.self.view_is
