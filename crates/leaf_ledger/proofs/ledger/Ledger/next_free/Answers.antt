use Rattle.std.proofs.Common.{sym, ◌∙◌, ap}
use Rattle.leaf_ledger.specs.Ledger.{LedgerState}
use Rattle.leaf_ledger.proofs.Taken.{all_before, all_full, is_least}
use Rattle.leaf_ledger.proofs.ledger.Ledger.next_free.Goals as goal

pub returns-in-Some-clause-least : goal.returns-in-Some-clause-least
returns-in-Some-clause-least g c =
    let s = c.self.inside in
    let i = c.self.invariant in
    let found = c.in-Some.ensures.found in
    let usable = ap (λ (l : LedgerState). l.usable) c.self.view_is ∙ c.requires in
    is_least s.key s.marks c.in-Some.number i.key_size i.size found.1 found.2 (all_before s.marks s.next c.in-Some.number i.used found.3)
    c.args.self.now.file (g.D.Device.history s.device) (ap (λ (l : LedgerState). l.file) c.self.view_is) (i.at_rest usable)

pub returns-in-None-clause-none : goal.returns-in-None-clause-none
returns-in-None-clause-none g c =
    let s = c.self.inside in
    let i = c.self.invariant in
    let usable = ap (λ (l : LedgerState). l.usable) c.self.view_is ∙ c.requires in
    let rest = sym (ap (λ (l : LedgerState). l.file.now) c.self.view_is) ∙ i.at_rest usable in
    all_full s.key s.marks i.key_size i.size c.args.self.now.file rest s.next i.used c.in-None.ensures.none
