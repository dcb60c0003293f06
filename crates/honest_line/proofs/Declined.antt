-- What was declined last in a run was declined last among the calls that the server carried out.
use Rattle.std.proofs.Common.{◌≡◌, ◌≢◌, Bool, true, false, List, [], ◌∷◌, ◌++◌, Option, Some, None, IfSome, sym, ap, ◌∙◌, subst, inl, inr}
use Rattle.std.specs.Prelude.{◌⊎◌, MatchOption, option_and_then, option_to_list, if◌then◌else◌}
use Rattle.layout.specs.Types.{Key}
use Rattle.wire.specs.declared.kinds.Status.{Status}
use Rattle.client_runs.specs.Runs.{Keys, pinned}
use Rattle.consistency_server.specs.Answers.{Answer, Call}
use Rattle.consistency_server.specs.History.{answer_of, is_carried_out}
use Rattle.honest_dialogues.specs.Dialogue as dialogue
use Rattle.honest_runs.specs.HonestRuns.{Exchange, HonestEvent, IsAnswered, IsHonestRun, LastAnswered, carried_out, history}
use Rattle.honest_runs.proofs.Events.{with_exchange}

module _ (keys : Keys) (call : Call) (s : Status) where
  abbrev key : Key
  key = pinned keys

  -- so it is among these calls
  abbrev Last : List Call → Type 0
  Last calls = dialogue.LastAnswered key calls call s

  -- it is made now
  now_last : (calls : List Call) (x : Exchange) → is_carried_out s ≡ true → IsAnswered key calls x → x.call ≡ call → x.answer.status ≡ s → Last (option_to_list (carried_out x) ++ calls)
  now_last calls x done is same given =
      let here : is_carried_out x.answer.status ≡ true = ap is_carried_out given ∙ done in
      subst (λ (b : Bool). Last (option_to_list (if b then Some x.call else None) ++ calls)) (sym here)
      (inl (same, subst (λ (c : Call). (answer_of key calls c).status ≡ s) same (ap (λ (a : Answer). a.status) (sym (is.carried_out here)) ∙ given)))

  -- another is
  still_last : (calls : List Call) (x : Exchange) → x.call ≢ call → Last calls → Last (option_to_list (carried_out x) ++ calls)
  still_last calls x other was = go (is_carried_out x.answer.status)
    where
      go : (b : Bool) → Last (option_to_list (if b then Some x.call else None) ++ calls)
      go true = inr (other, was)
      go false = was

  pub last_answered : (run : List HonestEvent) → IsHonestRun keys run → is_carried_out s ≡ true → LastAnswered run call s → Last (history run)
  last_answered [] is done was = absurd was
  last_answered (h ∷ older) is done was =
      subst Last (sym (with_exchange h older)) (go h.exchange is.0.answered was (last_answered older is.1 done))
    where
      go : (o : Option Exchange) → IfSome o (IsAnswered key (history older)) → MatchOption o (LastAnswered older call s) (λ x. ((x.call ≡ call) × (x.answer.status ≡ s)) ⊎ ((x.call ≢ call) × LastAnswered older call s))
          → (LastAnswered older call s → Last (history older)) → Last (option_to_list (option_and_then carried_out o) ++ history older)
      go None answered was before = before was
      go (Some x) answered (inl now) before = now_last (history older) x done answered now.0 now.1
      go (Some x) answered (inr then_was) before = still_last (history older) x then_was.0 (before then_was.1)
