use Rattle.std.proofs.Common.{ap}
use Rattle.server_workers.proofs.Written.{wrote_nothing}
use Rattle.server_workers.proofs.flusher.Flusher.new.Goals as goal

pub invariant_of-result : goal.invariant_of-result
invariant_of-result g c =
    let e = c.requires.empty in
    (c.requires.queue.0, c.requires.queue.1, ap (λ v. v.pops) e, wrote_nothing _ _ _ c.requires.before (ap (λ v. v.got) e))
