-- An answer, where a receipt shows that all it tells of is synced.
use Rattle.std.proofs.Common.{◌≡◌, true, false, List, [], ◌∷◌, ◌++◌, Option, Some, None, IfSome, sym, refl, ap, ◌∙◌, inl, inr, append_assoc}
use Rattle.std.proofs.lemmas.List.{append-nil}
use mathlib.Core.List.{IsPrefix}
use Rattle.layout.specs.Types.{Key}
use Rattle.wire.specs.declared.kinds.Status.TheVariants as status
use Rattle.consistency_server.specs.Answers.{Answer, Call}
use Rattle.consistency_server.specs.History.{Ordered, answer_of, is_carried_out, log_of}
use Rattle.server_workers.specs.Conversation.{IsLater, RepliesToKeptCall, TellsSynced, bare, on_storage}

tells : (pinned : Key) (told : List Call) (call : Call) (answer reply : Answer) (synced : List Call) (old new : Ordered) (events : List Call) → answer ≡ answer_of pinned old.history call
    → new ≡ record old { history = call ∷ old.history } → log_of pinned new.history ≡ told ++ events → reply ≡ answer → IsPrefix events synced
    → TellsSynced pinned (told ++ synced) call reply
tells pinned told call answer reply synced old new events is history leaves same more =
    record {
      history = old.history;
      answers = same ∙ is;
      kept = (
        more.0,
        ap (λ (o : Ordered). log_of pinned o.history ++ more.0) (sym history) ∙ ap (λ l. l ++ more.0) leaves ∙ append_assoc told events more.0 ∙ ap (λ l. told ++ l) more.1,
      );
    }

replies : (pinned : Key) (told : List Call) (call : Call) (answer reply : Answer) (synced : List Call) (old new : Ordered) (events : List Call)
    → (is_carried_out answer.status ≡ true → answer ≡ answer_of pinned old.history call) → (is_carried_out answer.status ≡ true → new ≡ record old { history = call ∷ old.history })
    → log_of pinned new.history ≡ told ++ events → (is_carried_out answer.status ≡ true → reply ≡ answer) → (is_carried_out answer.status ≡ true → IsPrefix events synced)
    → (is_carried_out answer.status ≡ false → reply ≡ bare status.Memory) → RepliesToKeptCall pinned (told ++ synced) call reply
replies pinned told call answer reply synced old new events is history leaves same more memory = elim (is_carried_out answer.status) as (λ b. is_carried_out answer.status ≡ b → RepliesToKeptCall pinned (told ++ synced) call reply) [
  | true ↦ λ b. inr (tells pinned told call answer reply synced old new events (is b) (history b) leaves (same b) (more b))
  | false ↦ λ b. inl (memory b)
] refl

-- of an answer that goes out
pub replies_if : (o : Option Answer) (pinned : Key) (told : List Call) (call : Call) (answer : Answer) (synced : List Call) (old new : Ordered) (events : List Call)
    → (is_carried_out answer.status ≡ true → answer ≡ answer_of pinned old.history call) → (is_carried_out answer.status ≡ true → new ≡ record old { history = call ∷ old.history })
    → log_of pinned new.history ≡ told ++ events → IfSome o (λ reply. is_carried_out answer.status ≡ true → reply ≡ answer)
    → IfSome o (λ _. is_carried_out answer.status ≡ true → IsPrefix events synced) → IfSome o (λ reply. is_carried_out answer.status ≡ false → reply ≡ bare status.Memory)
    → IfSome o (λ reply. RepliesToKeptCall pinned (told ++ synced) call reply)
replies_if None pinned told call answer synced old new events is history leaves same more memory = tt
replies_if (Some reply) pinned told call answer synced old new events is history leaves same more memory = replies pinned told call answer reply synced old new events is history leaves same more memory

-- ---- what is shown later

pub no_more : (calls : List Call) → IsPrefix calls calls
no_more calls = ([], append-nil calls)

pub still_more : (a b c : List Call) → IsPrefix a b → IsPrefix b c → IsPrefix a c
still_more a b c first then = (first.0 ++ then.0, sym (append_assoc a first.0 then.0) ∙ ap (λ (l : List Call). l ++ then.0) first.1 ∙ then.1)

pub later : (pinned : Key) (told old new : List Call) → IsPrefix old new → IsLater (on_storage pinned (told ++ old)) (on_storage pinned (told ++ new))
later pinned told old new more = record { pinned = refl; synced = (more.0, append_assoc told old more.0 ∙ ap (λ (l : List Call). told ++ l) more.1) }
