-- The life of a file of blocks: calls, and crashes between and inside them.
use Rattle.std.specs.Prelude.{List, [], ◌∷◌}
use Rattle.layout.specs.Types.{Bytes}
use Rattle.leaf_ledger.specs.Device.{History, Leaves, Throughout, LeftDuring, started}
use Rattle.block_file.specs.Blocks.{Keeps}

-- a read gives a file that keeps the text, and so does whatever a crash leaves
abbrev pub IsSafe : History → Bytes → Type 0
IsSafe h text = Keeps text h.now.text × Leaves (Keeps text) h.now

-- A call of a file of blocks: each text that is safe stays so, and at each moment of the call a crash leaves it kept.
pub record Call (old new : History) : Type 0 where
  pub keeps : (text : Bytes) → IsSafe old text → IsSafe new text × Throughout (Keeps text) old new

-- a call that returned, or one that a crash cut short, with what the crash left
pub data Event : Type 0 where
  Called : (new : History) → Event
  Crashed : (new : History) → (left : Bytes) → Event

-- These events can follow one another, from this moment on. After a crash the file begins anew with what it left.
abbrev pub IsLife : History → List Event → Type 0
IsLife h [] = Unit {0}
IsLife h (Called new ∷ events) = Call h new × IsLife new events
IsLife h (Crashed new left ∷ events) = Call h new × LeftDuring h new left × IsLife (started left) events

-- where the events end
abbrev pub end_of : History → List Event → History
end_of h [] = h
end_of h (Called new ∷ events) = end_of new events
end_of h (Crashed new left ∷ events) = end_of (started left) events
