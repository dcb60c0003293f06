-- Nobody has to believe this file: the rule of the queue, by which proofs go.
-- One pass pushes and one pops: what was popped, and then what the queue holds, is what was pushed.
use Rattle.std.specs.Prelude.{◌≡◌, ℕ, List, [], ◌++◌, true}
use mathlib.Core.Option.{some}
use lib.ListN.{get_elem?}
use Rattle.atomic_table.specs.Seated.{TableId}
use Rattle.consistency_server.specs.Answers.{Call}
use Rattle.server_workers.specs.declared.call_queue.Hand.{Hand}

-- the name of no queue
abbrev pub no_queue : TableId
no_queue = record { words = 0; slots = 0; views_name = 0; atom = 0; block = 0; offset = 0; slot_names = [] }

-- the pusher has the port `at`, and the popper the port `to`: the hand of a port knows what its pass pushed and popped
abbrev pub IsHandAt : ℕ → ℕ → List Call → List Call → ℕ → Hand → Type 0
IsHandAt at to sent got port v = (v.pushes ≡ true → (port ≡ at) × (v.sent ≡ sent)) × (v.pops ≡ true → (port ≡ to) × (v.got ≡ got))

abbrev pub Relayed : List Call → List Hand → Type 0
Relayed items views =
    (at to : ℕ) × (sent got : List Call) × (sent ≡ got ++ items)
    × ((port : ℕ) (v : Hand) → get_elem? views port ≡ some v → IsHandAt at to sent got port v)

-- the queue holds an end of what was pushed
abbrev pub HoldsEnd : Hand → List Call → Type 0
HoldsEnd v items = (got : List Call) × (v.sent ≡ got ++ items)
