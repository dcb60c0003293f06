-- What is known of an answer where it came.
use Rattle.std.proofs.Common.{Result, Ok, Err}
use Rattle.std.specs.Prelude.{IfOk}

-- what follows where it came
pub with_ok : {X E : Type 0} (r : Result X E) (P Q : X → Type 0) → ((x : X) → P x → Q x) → IfOk r P → IfOk r Q
with_ok (Ok x) P Q more h = more x h
with_ok (Err e) P Q more h = tt
