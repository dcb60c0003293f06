use Rattle.std.proofs.Common.{sym, ◌∙◌, ap, arith}
use Rattle.leaf_ledger.specs.Device.{Disk}
use Rattle.leaf_ledger.specs.Ledger.{LedgerState, free_leaves}
use Rattle.leaf_ledger.proofs.Marked.{count_marks}
use Rattle.leaf_ledger.proofs.ledger.Ledger.free_leaves.Goals as goal

pub overflow_cast-result : goal.overflow_cast-result
overflow_cast-result g c = omega (arith, c.count_free.ensures.few, c.self.invariant.size)

pub returns : goal.returns
returns g c =
    let s = c.self.inside in
    let i = c.self.invariant in
    let usable = ap (λ (l : LedgerState). l.usable) c.self.view_is ∙ c.requires in
    let rest = sym (ap (λ (l : LedgerState). l.file.now) c.self.view_is) ∙ i.at_rest usable in
    c.count_free.ensures.count ∙ count_marks s.key s.marks i.key_size ∙ ap (λ (d : Disk). free_leaves d.text) (sym rest)
