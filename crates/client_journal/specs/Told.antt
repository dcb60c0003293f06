-- The state that a journal answers.
use Rattle.std.specs.Prelude.{option_map}
use Rattle.client_journal.specs.Records.{State, Idle, Declared, Signed}
use Rattle.client_journal.specs.declared.state.JournalState.{JournalState}
use Rattle.client_journal.specs.declared.state.JournalState.TheVariants as held

-- a state without where its texts lie in memory
abbrev pub state_of_held : {A : Type 0} → JournalState A → State
state_of_held held.Idle = Idle
state_of_held (held.Declared last certificate) = Declared (option_map (λ text. text.items) last) certificate.items
state_of_held (held.Signed structure) = Signed structure.items
