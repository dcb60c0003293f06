-- When a call of an open client can't be made, by the client as it is and what the call is handed.
use Rattle.std.specs.Prelude.{◌≡◌, ◌≢◌, ◌⊎◌, ◌<◌, ℕ, List, length, IsSome, IsSomeAnd, false}
use Rattle.layout.specs.Types.{Bytes, Digest}
use Rattle.update_cert.specs.Change.{Change}
use Rattle.update_cert.specs.declared.cert.TheConstants.{MOST_CHANGES}
use Rattle.checked_blocks.specs.CheckedBlocks.{most_cached}
use Rattle.client_releases.specs.declared.phase.Phase.TheVariants as phase
use Rattle.client_releases.specs.Told.{HasKey}
use Rattle.client_verify.specs.Laid.{are_laid}
use Rattle.client_verify.specs.State.{State, released}

-- an operation is under way, the changes are too many, or what they need wasn't laid out
abbrev pub CantBegin : State → List (Change Digest) → List Bytes → Type 0
CantBegin s changes laid = (s.phase ≢ phase.Idle) ⊎ ((MOST_CHANGES < length changes) ⊎ (are_laid laid changes ≡ false))

-- nothing is declared, or there is no such key
abbrev pub CantResign : State → ℕ → Type 0
CantResign s n = (s.phase ≢ phase.Declared) ⊎ (HasKey n (released s) → ⊥)

-- no reply is waited for
abbrev pub CantHear : State → Type 0
CantHear s = s.phase ≢ phase.Declared

-- no reply is under check, which asks for a block
abbrev pub CantTake : State → Type 0
CantTake s = IsSome s.checked → ⊥

-- no reply was accepted whose structure isn't signed yet
abbrev pub CantSign : State → Type 0
CantSign s = IsSome s.accepted → ⊥

-- no answer to a structure is waited for
abbrev pub CantCommit : State → Type 0
CantCommit s = s.phase ≢ phase.Signed

-- there is no accepted view
abbrev pub CantLook : State → Type 0
CantLook s = IsSome s.view → ⊥

-- no look is under way, which asks for a block
abbrev pub CantGive : State → Type 0
CantGive s = IsSomeAnd s.view (λ v. IsSome v.looking) → ⊥

-- a cache may have 1 to 4,096 blocks
abbrev pub CantCache : ℕ → Type 0
CantCache capacity = (capacity ≡ 0) ⊎ (most_cached < capacity)
