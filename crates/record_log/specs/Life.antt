-- The life of a log's file: calls, and crashes between and inside them.
use Rattle.std.specs.Prelude.{◌≡◌, ◌⊎◌, List, [], ◌∷◌, ◌++◌, Result, Ok, Err}
use Rattle.layout.specs.Types.{Bytes}
use Rattle.leaf_ledger.specs.Device.{History, MayLeave, LeftDuring, started}
use Rattle.record_log.specs.Records.{Record, Tells}

-- what a call adds to the records: nothing, if it is no append; its records, if it is one that was answered Ok; else
-- all of its records or none
pub data Addition : Type 0 where
  Nothing : Addition
  Appended : List Record → Addition
  Tried : List Record → Addition

-- an append is one of the last two, by its answer
abbrev pub addition_of : {T E : Type 0} → List Record → Result T E → Addition
addition_of rs (Ok x) = Appended rs
addition_of rs (Err e) = Tried rs

-- a call that a crash cuts short gives no answer
abbrev pub cut_short : Addition → Addition
cut_short Nothing = Nothing
cut_short (Appended rs) = Tried rs
cut_short (Tried rs) = Tried rs

-- the records that calls may have added, in order: those of each append that was answered Ok, and of the others all
-- or none
abbrev pub MayAdd : List Addition → List Record → Type 0
MayAdd [] added = added ≡ []
MayAdd (Nothing ∷ calls) added = MayAdd calls added
MayAdd (Appended rs ∷ calls) added = (rest : List Record) × (added ≡ rs ++ rest) × MayAdd calls rest
MayAdd (Tried rs ∷ calls) added =
    MayAdd calls added ⊎ ((rest : List Record) × (added ≡ rs ++ rest) × MayAdd calls rest)

-- a read gives this now, or a crash now may leave it
abbrev pub IsPossible : History → Bytes → Type 0
IsPossible h file = (file ≡ h.now.text) ⊎ MayLeave h.now file

-- The file tells what some file told that was possible before these calls, and after that what they may have added.
pub record Follows (calls : List Addition) (old : History) (file : Bytes) : Type 0 where
  pub before : Bytes
  pub possible : IsPossible old before
  pub tells : (rs : List Record) → Tells rs before
      → (added : List Record) × MayAdd calls added × Tells (rs ++ added) file

-- A call of a log: each file that is possible after it follows from it, and each that a crash inside it leaves follows
-- from it without its answer.
pub record Call (adds : Addition) (old new : History) : Type 0 where
  pub after : (file : Bytes) → IsPossible new file → Follows (adds ∷ []) old file
  pub inside : (left : Bytes) → LeftDuring old new left → Follows (cut_short adds ∷ []) old left

-- a call that returned, or one that a crash cut short, with what the crash left
pub data Event : Type 0 where
  Called : Addition → (new : History) → Event
  Crashed : Addition → (new : History) → (left : Bytes) → Event

-- These events can follow one another, from this moment on. After a crash the file begins anew with what it left.
abbrev pub IsLife : History → List Event → Type 0
IsLife h [] = Unit {0}
IsLife h (Called adds new ∷ events) = Call adds h new × IsLife new events
IsLife h (Crashed adds new left ∷ events) = Call adds h new × LeftDuring h new left × IsLife (started left) events

-- where the events end
abbrev pub end_of : History → List Event → History
end_of h [] = h
end_of h (Called adds new ∷ events) = end_of new events
end_of h (Crashed adds new left ∷ events) = end_of (started left) events

-- what each of them adds
abbrev pub additions : List Event → List Addition
additions [] = []
additions (Called adds new ∷ events) = adds ∷ additions events
additions (Crashed adds new left ∷ events) = cut_short adds ∷ additions events
