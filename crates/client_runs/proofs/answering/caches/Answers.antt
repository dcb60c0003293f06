use Rattle.std.proofs.Common.{refl}
use Rattle.client_runs.specs.declared.world.Act.TheVariants as act
use Rattle.client_runs.proofs.Taking as taking
use Rattle.client_runs.proofs.answering.caches.Goals as goal

pub returns-then-cache : goal.returns-then-cache
returns-then-cache g c =
    let old = c.args.client.now in
    let new = c.cache.new.client in
    λ o sound. taking.caches {A = g.row.A.Denot} o old new (act.Cache c.args.capacity) c.args.capacity refl (c.cache.ensures.cached c.if-cache.true) sound
