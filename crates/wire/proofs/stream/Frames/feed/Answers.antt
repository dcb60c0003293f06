use Rattle.std.proofs.Common.{drop, sym, ap, subst, ◌∙◌, arith}
use Rattle.std.proofs.lemmas.List.{drop-append-le}
use Rattle.wire.specs.Stream.{BeginsAtFault}
use Rattle.wire.proofs.Streams.{fault_stays}
use Rattle.wire.proofs.stream.Frames.feed.Goals as goal

pub returns-clause-at_fault : goal.returns-clause-at_fault
returns-clause-at_fault g c fault =
    let e = c.let_go-self-inside.ensures in
    let grown = ap (drop c.let_go-self-inside.result) c.in_ok-extend_from_slice.ensures.items ∙ drop-append-le c.let_go-self-inside.result _ c.args.piece.now (omega (arith, e.few)) in
    subst BeginsAtFault (sym grown) (fault_stays _ c.args.piece.now (subst BeginsAtFault (sym c.self.view_is ∙ sym e.waiting) fault))
