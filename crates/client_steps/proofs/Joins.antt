-- Steps, and then others.
use Rattle.std.proofs.Common.{List, [], ◌∷◌, ◌++◌, subst}
use Rattle.client_steps.specs.Steps.{AreSteps, Client, Owner, StepTaken}

pub steps_join : (o : Owner) (a b c : Client) (earlier later : List StepTaken) → AreSteps o a earlier b → AreSteps o b later c → AreSteps o a (earlier ++ later) c
steps_join o a b c [] later same more = subst (λ (k : Client). AreSteps o k later c) same more
steps_join o a b c (s ∷ earlier) later steps more = (steps.0, steps.1, steps_join o s.after b c earlier later steps.2 more)
