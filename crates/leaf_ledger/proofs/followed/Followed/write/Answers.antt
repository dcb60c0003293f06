use Rattle.std.proofs.Common.{ℕ, List, Some, length, sym, ◌∙◌, ap}
use Rattle.leaf_ledger.specs.Device.{History, started, extent, wrote, wrote_bytes, written}
use Rattle.leaf_ledger.specs.Followed.{followed}
use Rattle.leaf_ledger.proofs.Follows.{one_more}
use Rattle.leaf_ledger.proofs.followed.Followed.write.Goals as goal

pub invariant_of-self-2 : goal.invariant_of-self-2
invariant_of-self-2 g c =
    let s = c.self.inside in
    ap (λ (h : History). h.now.text)
    (one_more (started s.first.value.items) s.moments.items c.reserve.new.self.items c.push_reserved.new.self.items c.of.result
    (record { text = c.splice.new.text; written = Some (extent c.args.at (length c.args.bytes.now)) }) c.in_ok-reserve.ensures.items c.push_reserved.ensures.items c.of.ensures)

pub returns-clause-ok : goal.returns-clause-ok
returns-clause-ok g c =
    let s = c.self.inside in
    let old : History = followed (started s.first.value.items) s.moments.items in
    let n = length c.args.bytes.now in
    one_more (started s.first.value.items) s.moments.items c.reserve.new.self.items c.push_reserved.new.self.items c.of.result
    (record { text = c.splice.new.text; written = Some (extent c.args.at n) }) c.in_ok-reserve.ensures.items c.push_reserved.ensures.items c.of.ensures
    ∙ ap (λ (l : List ℕ). wrote c.args.at n l old) (c.in_ok-splice.ensures.ok ∙ ap (written c.args.at c.args.bytes.now) (sym c.self.invariant))
    ∙ ap (wrote_bytes c.args.at c.args.bytes.now) c.self.view_is
