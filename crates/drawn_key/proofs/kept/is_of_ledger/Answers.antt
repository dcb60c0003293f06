use Rattle.std.proofs.Common.{sym, arith}
use Rattle.std.proofs.lemmas.List.{length-take-le}
use Rattle.drawn_key.proofs.Ledgers.{next_has}
use Rattle.drawn_key.proofs.kept.is_of_ledger.Goals as goal

pub slice_bounds-own-end : goal.slice_bounds-own-end
slice_bounds-own-end g c = sym (length-take-le 56 c.args.ledger.now (omega arith))

pub returns-then-eq-clause-next : goal.returns-then-eq-clause-next
returns-then-eq-clause-next g c can = next_has c.args.key.now c.args.ledger.now c.next_leaf.result c.next_leaf.ensures.next (c.has_leaf.ensures.0 can)
