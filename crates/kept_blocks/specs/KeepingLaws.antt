-- Nobody has to believe this file: laws, which are proved.
-- The faults of a transport in front of which blocks are kept are its own.
use Rattle.std.proofs.Common.{◌≡◌, ◌≤◌, ℕ, List, Result, Ok, Err, inl, inr, sym, subst, arith}
use Rattle.layout.specs.Types.{Bytes}
use Rattle.leaf_ledger.specs.Device.{HasRisen}
use Rattle.wire.specs.declared.kinds.Status.TheVariants.{Ok as Fine}
use Rattle.wire.specs.Frame.{reply_body}
use Rattle.transport.specs.Asked.{Asked}
use Rattle.transport.specs.declared.transport.TransportError.{TransportError}
use Rattle.transport.specs.declared.transport.TransportError.TheVariants.{Fault, Memory}
use Rattle.kept_blocks.specs.KeptBlocks.{KeptBlock}
use Rattle.kept_blocks.specs.Keeping.{IsAnswered}

pub never_less : {T : Type 0} (answers : T → Asked → Result Bytes TransportError → T → Type 0) (count : T → ℕ)
    → ((t : T) (r : Asked) (x : Result Bytes TransportError) (u : T) → answers t r x u → count t ≤ count u)
    → (t : T) (r : Asked) (x : Result Bytes TransportError) (u : T) (before now : List KeptBlock)
    → IsAnswered answers r x t u before now → count t ≤ count u
never_less answers count later t r x u before now (inl found) = rw found.unasked (omega arith)
never_less answers count later t r x u before now (inr passed) = later t r x u passed.answered

abbrev unanswered : TransportError → Result Bytes TransportError
unanswered e = Err e

no_reply : {X : Type 0} (text : Bytes) → unanswered Fault ≡ Ok (reply_body Fine text) → X
no_reply text is = absurd cc

no_memory : {X : Type 0} → unanswered Fault ≡ unanswered Memory → X
no_memory is = absurd cc

pub fault_rises : {T : Type 0} (answers : T → Asked → Result Bytes TransportError → T → Type 0) (count : T → ℕ)
    → ((t : T) (r : Asked) (u : T) → answers t r (Err Fault) u → HasRisen (count t) (count u))
    → (t : T) (r : Asked) (u : T) (before now : List KeptBlock)
    → IsAnswered answers r (Err Fault) t u before now → HasRisen (count t) (count u)
fault_rises answers count rose t r u before now (inl found) = elim found.handed [
  | inl reply ↦ no_reply found.text reply
  | inr memory ↦ no_memory memory
]
fault_rises answers count rose t r u before now (inr passed) = rose t r u passed.answered
