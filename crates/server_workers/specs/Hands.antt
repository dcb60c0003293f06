-- What a pass of the queue may do, what it has pushed and what it has popped.
use Rattle.std.specs.Prelude.{List, Bool}
use Rattle.consistency_server.specs.Answers.{Call}
use Rattle.server_workers.specs.declared.call_queue.Hand.{Hand}
use Rattle.crossbeam_queue.specs.Passes.{Pass, view}

abbrev pub hand : Bool → Bool → List Call → List Call → Hand
hand pushes pops sent got = record { pushes = pushes; pops = pops; sent = sent; got = got }

-- what a pass knows
abbrev pub hand_of : Pass Call Hand → Hand
hand_of p = view p
