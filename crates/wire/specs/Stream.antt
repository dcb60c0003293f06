-- Streams of frames, of which a reader has so many bytes, in whatever pieces they came.
use Rattle.std.specs.Prelude.{◌≡◌, ℕ, ◌<◌, ◌⊎◌, List, [], ◌∷◌, ◌++◌, Option, Some, None, Result, Ok, Err}
use Rattle.std.specs.List.{All}
use Rattle.std.specs.declared.vec.Vec.{Vec}
use Rattle.std.specs.Int.{w32}
use Rattle.layout.specs.Types.{Bytes}
use Rattle.layout.specs.Format.{uint}
use Rattle.wire.specs.Frame.{frame}
use Rattle.wire.specs.declared.stream.FrameError.{FrameError}
use Rattle.wire.specs.declared.stream.FrameError.TheVariants.{Length, Memory}

-- the frame of a body, and then the rest
abbrev pub IsFrameThen : Bytes → Bytes → Bytes → Type 0
IsFrameThen body rest bytes = frame.Fits body × (bytes ≡ frame.spell body ++ rest)

-- a whole frame begins it
abbrev pub BeginsFrame : Bytes → Type 0
BeginsFrame bytes = (body rest : Bytes) × IsFrameThen body rest bytes

-- a length at fault begins it: 0, or more than a body has
abbrev pub BeginsAtFault : Bytes → Type 0
BeginsAtFault bytes =
    (size : ℕ)
    × (rest : Bytes)
    × (uint w32).Fits size
    × ((size ≡ 0) ⊎ (2097152 < size))
    × (bytes ≡ (uint w32).spell size ++ rest)

-- what a call did: it took a piece of the stream, or handed out the body of a frame, or it changed nothing
pub data FramesStep : Type 0 where
  fed : Bytes → FramesStep
  handed_out : Bytes → FramesStep
  -- there was no frame yet
  waited : FramesStep
  -- the length of the next frame was at fault
  met_fault : FramesStep
  -- memory ran out, for a piece or for a frame
  lacked_memory : FramesStep

-- from the bytes that wait before the steps to those that wait after them
abbrev pub Runs : Bytes → List FramesStep → Bytes → Type 0
Runs before [] after = before ≡ after
Runs before (fed piece ∷ steps) after = Runs (before ++ piece) steps after
Runs before (handed_out body ∷ steps) after =
    (rest : Bytes) × IsFrameThen body rest before × Runs rest steps after
Runs before (waited ∷ steps) after = (¬ BeginsFrame before) × (¬ BeginsAtFault before) × Runs before steps after
Runs before (met_fault ∷ steps) after = BeginsAtFault before × Runs before steps after
Runs before (lacked_memory ∷ steps) after = Runs before steps after

-- the step of a call that was fed a piece
abbrev pub step_of_feed : {X E : Type 0} → Bytes → Result X E → FramesStep
step_of_feed piece (Ok x) = fed piece
step_of_feed piece (Err e) = lacked_memory

abbrev pub step_of_error : FrameError → FramesStep
step_of_error Length = met_fault
step_of_error Memory = lacked_memory

-- the step of a call that was asked for the next frame
abbrev pub step_of_next : {A : Type 0} → Result (Option (Vec ℕ A)) FrameError → FramesStep
step_of_next (Ok (Some body)) = handed_out body.items
step_of_next (Ok None) = waited
step_of_next (Err e) = step_of_error e

-- the stream that was fed
abbrev pub stream_of : List FramesStep → Bytes
stream_of [] = []
stream_of (fed piece ∷ steps) = piece ++ stream_of steps
stream_of (handed_out body ∷ steps) = stream_of steps
stream_of (waited ∷ steps) = stream_of steps
stream_of (met_fault ∷ steps) = stream_of steps
stream_of (lacked_memory ∷ steps) = stream_of steps

-- the bodies of the frames that were handed out
abbrev pub bodies_of : List FramesStep → List Bytes
bodies_of [] = []
bodies_of (fed piece ∷ steps) = bodies_of steps
bodies_of (handed_out body ∷ steps) = body ∷ bodies_of steps
bodies_of (waited ∷ steps) = bodies_of steps
bodies_of (met_fault ∷ steps) = bodies_of steps
bodies_of (lacked_memory ∷ steps) = bodies_of steps

-- the frames of these bodies, one after another
abbrev pub frames_of : List Bytes → Bytes
frames_of [] = []
frames_of (body ∷ bodies) = frame.spell body ++ frames_of bodies

-- the stream that was fed is the frames that were handed out, and what waits
abbrev pub IsStreamInFrames : Type 0
IsStreamInFrames =
    (steps : List FramesStep) (rest : Bytes) → Runs [] steps rest
    → stream_of steps ≡ frames_of (bodies_of steps) ++ rest

-- however a stream was cut, once no whole frame waits the same frames were handed out, and the same bytes wait
abbrev pub IsCutAnyhow : Type 0
IsCutAnyhow =
    (steps others : List FramesStep) (rest other_rest : Bytes)
    → Runs [] steps rest
    → Runs [] others other_rest
    → stream_of steps ≡ stream_of others
    → ¬ BeginsFrame rest
    → ¬ BeginsFrame other_rest
    → (bodies_of steps ≡ bodies_of others) × (rest ≡ other_rest)

-- what a call may do once a length at fault is next: no frame comes, and none is waited for
abbrev pub IsAfterFault : FramesStep → Type 0
IsAfterFault (fed piece) = Unit {0}
IsAfterFault (handed_out body) = ⊥
IsAfterFault waited = ⊥
IsAfterFault met_fault = Unit {0}
IsAfterFault lacked_memory = Unit {0}

-- once a length at fault is next it stays so, whatever is fed
abbrev pub IsFaultForGood : Type 0
IsFaultForGood =
    (steps : List FramesStep) (before after : Bytes)
    → BeginsAtFault before
    → Runs before steps after
    → All IsAfterFault steps × BeginsAtFault after
