-- What a client is handed of the server was answered, then or before, to the call that it would make now.
use Rattle.std.proofs.Common.{◌≡◌, Bool, true, false, List, [], ◌∷◌, ◌++◌, Option, Some, None, IfSome, IsSomeAnd, sym, subst, inl, inr, refl}
use Rattle.std.specs.Prelude.{option_and_then, option_to_list, if◌then◌else◌}
use Rattle.layout.specs.Types.{Bytes, Key}
use Rattle.client_releases.specs.declared.phase.Phase.{Phase}
use Rattle.client_releases.specs.declared.phase.Phase.TheVariants as phase
use Rattle.client_verify.specs.State.{State}
use Rattle.client_steps.specs.Steps.{Open}
use Rattle.client_runs.specs.Clients.{certificate_in, structure_in}
use Rattle.client_runs.specs.Runs.{Keys, pinned}
use Rattle.consistency_server.specs.declared.call.CallKind.{CallKind}
use Rattle.consistency_server.specs.declared.call.CallKind.TheVariants.{Update, Commit}
use Rattle.consistency_server.specs.Answers.{Answer, Call}
use Rattle.consistency_server.specs.History.{commit_of, is_carried_out, update_of}
use Rattle.honest_dialogues.specs.Dialogue.{WasAnswered, success}
use Rattle.honest_runs.specs.HonestRuns.{Exchange, HonestEvent, IsAnswered, IsHonestRun, TookPlace, WasTold, carried_out, history}
use Rattle.honest_runs.proofs.Events.{with_exchange}

-- what was exchanged with this client's text
pub told_of : (run : List HonestEvent) (own : Option Bytes) (kind : CallKind) (a : Answer) → IsSomeAnd own (λ text. TookPlace run (record { call = record { kind = kind; text = text }; answer = a }))
    → (x : Exchange) × TookPlace run x × (x.answer ≡ a)
told_of run None kind a was = absurd was
told_of run (Some text) kind a was = (record { call = record { kind = kind; text = text }; answer = a }, was, refl)

module _ (keys : Keys) where
  abbrev key : Key
  key = pinned keys

  -- ---- a call of this step

  now_answered : (calls : List Call) (x : Exchange) → IsAnswered key calls x → is_carried_out x.answer.status ≡ true → WasAnswered key (option_to_list (carried_out x) ++ calls) x.call x.answer
  now_answered calls x is done =
      subst (λ (b : Bool). WasAnswered key (option_to_list (if b then Some x.call else None) ++ calls) x.call x.answer) (sym done) (inl (refl, sym (is.carried_out done)))

  later_answered : (calls : List Call) (x : Option Exchange) (call : Call) (a : Answer) → WasAnswered key calls call a → WasAnswered key (option_to_list (option_and_then carried_out x) ++ calls) call a
  later_answered calls None call a was = was
  later_answered calls (Some x) call a was = go (is_carried_out x.answer.status)
    where
      go : (b : Bool) → WasAnswered key (option_to_list (if b then Some x.call else None) ++ calls) call a
      go true = inr was
      go false = was

  -- ---- a call of any step

  -- one that was carried out was answered so among the calls of the run
  pub was_answered : (run : List HonestEvent) → IsHonestRun keys run → (x : Exchange) → TookPlace run x → is_carried_out x.answer.status ≡ true → WasAnswered key (history run) x.call x.answer
  was_answered [] is x took done = absurd took
  was_answered (h ∷ older) is x took done =
      subst (λ (calls : List Call). WasAnswered key calls x.call x.answer) (sym (with_exchange h older)) (elim took [
        | inl now ↦ (
            let answered = subst (λ (o : Option Exchange). IfSome o (IsAnswered key (history older))) now is.0.answered in
            subst (λ (o : Option Exchange). WasAnswered key (option_to_list (option_and_then carried_out o) ++ history older) x.call x.answer) (sym now) (now_answered (history older) x answered done))
        | inr before ↦ later_answered (history older) h.exchange x.call x.answer (was_answered older is.1 x before done)
      ])

  -- ---- what a client is handed

  module _ (run : List HonestEvent) (is : IsHonestRun keys run) (t : State) where
    -- a reply to its certificate
    pub reply_answered : (text : Bytes) → t.phase ≡ phase.Declared → WasTold run (Open t) Update (success text) → WasAnswered key (history run) (update_of t.text) (success text)
    reply_answered text declared was =
        was_answered run is (record { call = update_of t.text; answer = success text })
        (subst (λ (f : Phase). IsSomeAnd (certificate_in f t.text) (λ own. TookPlace run (record { call = update_of own; answer = success text }))) declared was) refl

    -- or that its structure was taken
    pub commit_answered : (payload : Bytes) → t.phase ≡ phase.Signed → WasTold run (Open t) Commit (success payload) → WasAnswered key (history run) (commit_of t.text) (success payload)
    commit_answered payload signed_it was =
        was_answered run is (record { call = commit_of t.text; answer = success payload })
        (subst (λ (f : Phase). IsSomeAnd (structure_in f t.text) (λ own. TookPlace run (record { call = commit_of own; answer = success payload }))) signed_it was) refl
