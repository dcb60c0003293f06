use Rattle.std.proofs.Common.{length, sym, ap, ◌∙◌}
use Rattle.consistency_server.specs.History.{Ordered, log_of}
use Rattle.server_workers.proofs.locked.Locked.new.Goals as goal

pub invariant_of-result : goal.invariant_of-result
unfolding log_of
invariant_of-result g c =
    let is = c.requires.0 in
    (ap (λ (o : Ordered). o.pinned) is, c.requires.1 ∙ sym (ap (λ (o : Ordered). log_of g.B.ServerName.pinned o.history) is), c.requires.2 ∙ sym (ap (λ (o : Ordered). length o.history) is))
