-- What was written so far, and what is left.
use Rattle.std.proofs.Common.{◌∙◌, ap}
use Rattle.std.proofs.lemmas.List.{take_rest}
use Rattle.connection.proofs.Written.{written_on, kept}
use Rattle.connection.proofs.writing.write_whole.Goals as goal
use Rattle.connection.proofs.writing.write_whole.Goals.{in-Ok, in-Err}

pub loop-turn-preserved : goal.loop-turn-preserved
loop-turn-preserved g c = elim c.match-write.branch [
  | in-Ok w ↦ written_on _ _ _ _ _ _ _ c.loop-turn.invariant w.in-Ok.ensures.bytes (ap (λ r. r.now) w.rest-is ∙ take_rest c.loop-turn.rest.now w.in-Ok.count)
  | in-Err w ↦ kept _ _ _ _ _ _ c.loop-turn.invariant w.in-Err.ensures.bytes (ap (λ r. r.now) w.rest-is)
]
