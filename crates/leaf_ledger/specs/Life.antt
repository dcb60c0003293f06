-- The life of a ledger's file: calls, and crashes between and inside them.
use Rattle.std.specs.Prelude.{◌≡◌, true, false, Option, Some, None, IfSome, List, [], ◌∷◌, Result, Ok, Err}
use Rattle.layout.specs.Types.{Bytes}
use Rattle.lms_sign.specs.Keys.{KeyLeaf}
use Rattle.leaf_ledger.specs.Device.{History, Leaves, Throughout, LeftDuring, started}
use Rattle.leaf_ledger.specs.Ledger.{LeafNumber, is_used}

-- a read says that the leaf is used, and so does whatever a crash leaves
abbrev pub IsSure : History → LeafNumber → Type 0
IsSure h leaf = (is_used h.now.text leaf ≡ true) × Leaves (λ left. is_used left leaf ≡ true) h.now

-- A call of a ledger, which may hand out a leaf. What is surely used stays so, at each moment of the call. A leaf that
-- is handed out wasn't used before, and is surely used from then on.
pub record Call (handed : Option LeafNumber) (old new : History) : Type 0 where
  pub fresh : IfSome handed (λ leaf. is_used old.now.text leaf ≡ false)
  pub sure : IfSome handed (λ leaf. IsSure new leaf)
  pub keeps : (leaf : LeafNumber) → IsSure old leaf
      → IsSure new leaf × Throughout (λ left. is_used left leaf ≡ true) old new

-- the number of the leaf that a call handed out
abbrev pub handed_by : {E : Type 0} → Result KeyLeaf E → Option LeafNumber
handed_by (Ok leaf) = Some leaf.number
handed_by (Err e) = None

-- a call that returned, with the leaf that it handed out, or a call that a crash cut short, with what the crash left
pub data Event : Type 0 where
  Called : (handed : Option LeafNumber) → (new : History) → Event
  Crashed : (handed : Option LeafNumber) → (new : History) → (left : Bytes) → Event

-- These events can follow one another, from this moment on. After a crash the file begins anew with what it left.
abbrev pub IsLife : History → List Event → Type 0
IsLife h [] = Unit {0}
IsLife h (Called handed new ∷ events) = Call handed h new × IsLife new events
IsLife h (Crashed handed new left ∷ events) =
    Call handed h new × LeftDuring h new left × IsLife (started left) events

-- the leaves handed out, in order: a call that is cut short hands out none
abbrev pub handed_out : List Event → List LeafNumber
handed_out [] = []
handed_out (Called (Some leaf) new ∷ events) = leaf ∷ handed_out events
handed_out (Called None new ∷ events) = handed_out events
handed_out (Crashed handed new left ∷ events) = handed_out events
