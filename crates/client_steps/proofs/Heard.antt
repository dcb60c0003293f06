-- What the calls ensure that take a reply or a block is what a step of them tells, wherever the answer lies in memory.
use Rattle.std.proofs.Common.{◌≡◌, Option, Some, None, Ok, Err, Result, IfOk, IfErr, OnErr, IsOk, IfSome, IsSome, IsSomeAnd}
use Rattle.layout.specs.Format.{IsBytes}
use Rattle.layout.specs.Types.{Bytes}
use Rattle.checked_blocks.specs.CheckedBlocks.{known_blocks}
use Rattle.reply_rules.specs.declared.rule.Rule.TheVariants as rule
use Rattle.client_releases.specs.declared.error.ClientError.{ClientError}
use Rattle.client_releases.specs.declared.error.ClientError.TheVariants as error
use Rattle.client_releases.specs.declared.phase.Phase.TheVariants as phase
use Rattle.client_verify.specs.declared.look.Look.{Look}
use Rattle.client_verify.specs.declared.step.Step.{Step}
use Rattle.client_verify.specs.declared.view.Looking.{Looking}
use Rattle.client_verify.specs.Holding.{HoldsAfter, LookHoldsAfter}
use Rattle.client_verify.specs.Judged.{Handed, Judged}
use Rattle.client_verify.specs.Looked.{Given}
use Rattle.client_verify.specs.State.{AcceptedView, Checked, State, asked_of}
use Rattle.reply_check.specs.AskedBlock.{block_breaks}
use Rattle.client_steps.specs.Steps.{HasGiven, HasHeard, HasTaken}
use Rattle.client_steps.specs.Anywhere.{asked, on_ok, seen}
use Rattle.client_steps.proofs.Anywhere.{given, handed, holds, judged, look_holds}

still_ok : {T U E : Type 0} (f : T → U) (r : Result T E) → IsOk r → IsOk (on_ok f r)
still_ok f (Ok x) h = h
still_ok f (Err e) h = h

module _ {A : Type 0} (s new : State) where
  pub heard : (text : Bytes) (answer : Result (Step A) ClientError)
      → s.phase ≡ phase.Declared → IsBytes text
      → IfOk answer (λ x. Judged s text x new) → IfOk answer (λ x. HoldsAfter s None x new) → IfErr answer (λ e. e ≡ error.Memory) → OnErr answer (new ≡ s)
      → HasHeard s text (on_ok asked answer) new
  heard text (Ok x) d b j k m e = record { declared = d; bytes = b; judged = judged {A = A} {E = ClientError} s text (Ok x) new j; held = holds {A = A} {E = ClientError} s None (Ok x) new k; only_memory = m; err = e }
  heard text (Err x) d b j k m e = record { declared = d; bytes = b; judged = judged {A = A} {E = ClientError} s text (Err x) new j; held = holds {A = A} {E = ClientError} s None (Err x) new k; only_memory = m; err = e }

  module _ (block : Option Bytes) (answer : Result (Step A) ClientError) where
    handed_at : (checked : Option Checked) → IfSome checked (λ k. IfOk answer (λ x. Handed s k block x new)) → IfSome checked (λ k. IfOk (on_ok asked answer) (λ x. Handed s k block x new))
    handed_at None h = h
    handed_at (Some k) h = handed s k block answer new h

    told_at : (checked : Option Checked) → IfSome checked (λ k. block_breaks (known_blocks s.blocks) (asked_of k) block ≡ Some rule.Block → IsOk answer)
        → IfSome checked (λ k. block_breaks (known_blocks s.blocks) (asked_of k) block ≡ Some rule.Block → IsOk (on_ok asked answer))
    told_at None h = h
    told_at (Some k) h = λ is. still_ok asked answer (h is)

  pub taken : (block : Option Bytes) (answer : Result (Step A) ClientError)
      → IsSome s.checked → IfSome block IsBytes
      → IfSome s.checked (λ k. IfOk answer (λ x. Handed s k block x new))
      → IfOk answer (λ x. HoldsAfter s block x new)
      → IfSome s.checked (λ k. block_breaks (known_blocks s.blocks) (asked_of k) block ≡ Some rule.Block → IsOk answer)
      → IfErr answer (λ e. e ≡ error.Memory) → OnErr answer (new ≡ s)
      → HasTaken s block (on_ok asked answer) new
  taken block (Ok x) w b h k t m e = record { wants = w; bytes = b; handed = handed_at block (Ok x) s.checked h; held = holds {A = A} {E = ClientError} s block (Ok x) new k; told = told_at block (Ok x) s.checked t; only_memory = m; err = e }
  taken block (Err x) w b h k t m e = record { wants = w; bytes = b; handed = handed_at block (Err x) s.checked h; held = holds {A = A} {E = ClientError} s block (Err x) new k; told = told_at block (Err x) s.checked t; only_memory = m; err = e }

  module _ (block : Option Bytes) (answer : Result (Look A) ClientError) where
    given_at : (v : AcceptedView) (looking : Option Looking) → IfSome looking (λ l. IfOk answer (λ x. Given s v l block x new)) → IfSome looking (λ l. IfOk (on_ok seen answer) (λ x. Given s v l block x new))
    given_at v None h = h
    given_at v (Some l) h = given s v l block answer new h

    given_over : (view : Option AcceptedView) → IfSome view (λ v. IfSome v.looking (λ l. IfOk answer (λ x. Given s v l block x new)))
        → IfSome view (λ v. IfSome v.looking (λ l. IfOk (on_ok seen answer) (λ x. Given s v l block x new)))
    given_over None h = h
    given_over (Some v) h = given_at v v.looking h

    seen_at : (looking : Option Looking) → IfSome looking (λ l. block_breaks (known_blocks s.blocks) l.asked block ≡ Some rule.Block → IsOk answer)
        → IfSome looking (λ l. block_breaks (known_blocks s.blocks) l.asked block ≡ Some rule.Block → IsOk (on_ok seen answer))
    seen_at None h = h
    seen_at (Some l) h = λ is. still_ok seen answer (h is)

    seen_over : (view : Option AcceptedView) → IfSome view (λ v. IfSome v.looking (λ l. block_breaks (known_blocks s.blocks) l.asked block ≡ Some rule.Block → IsOk answer))
        → IfSome view (λ v. IfSome v.looking (λ l. block_breaks (known_blocks s.blocks) l.asked block ≡ Some rule.Block → IsOk (on_ok seen answer)))
    seen_over None h = h
    seen_over (Some v) h = seen_at v.looking h

  pub given_to : (block : Option Bytes) (answer : Result (Look A) ClientError)
      → IsSomeAnd s.view (λ v. IsSome v.looking) → IfSome block IsBytes
      → IfSome s.view (λ v. IfSome v.looking (λ l. IfOk answer (λ x. Given s v l block x new)))
      → IfOk answer (λ x. LookHoldsAfter s block x new)
      → IfSome s.view (λ v. IfSome v.looking (λ l. block_breaks (known_blocks s.blocks) l.asked block ≡ Some rule.Block → IsOk answer))
      → IfErr answer (λ e. e ≡ error.Memory) → OnErr answer (new ≡ s)
      → HasGiven s block (on_ok seen answer) new
  given_to block (Ok x) w b h k t m e = record { looks = w; bytes = b; given = given_over block (Ok x) s.view h; held = look_holds {A = A} {E = ClientError} s block (Ok x) new k; told = seen_over block (Ok x) s.view t; only_memory = m; err = e }
  given_to block (Err x) w b h k t m e = record { looks = w; bytes = b; given = given_over block (Err x) s.view h; held = look_holds {A = A} {E = ClientError} s block (Err x) new k; told = seen_over block (Err x) s.view t; only_memory = m; err = e }
