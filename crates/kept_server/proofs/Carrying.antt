-- A call that is carried out, or isn't.
use Rattle.std.proofs.Common.{◌≡◌, true, false, List, ◌∷◌, ◌++◌, sym, refl, ap, ◌∙◌, append_assoc}
use Rattle.layout.specs.Types.{Key}
use Rattle.wire.specs.declared.kinds.Status.{Status}
use Rattle.consistency_server.specs.Answers.{Call}
use Rattle.consistency_server.specs.History.{Ordered, is_carried_out, log_of, logged}

-- what the history leaves in the log is what was told at the start, and then these events
abbrev pub Leaves : Key → List Call → Ordered → List Call → Type 0
Leaves pinned told order events = (order.pinned ≡ pinned) × (log_of pinned order.history ≡ told ++ events)

-- and goes on being so
pub goes_on : (s : Status) (pinned : Key) (told : List Call) (old new : Ordered) (call : Call) (events events' : List Call) → Leaves pinned told old events
    → (is_carried_out s ≡ true → new ≡ record old { history = call ∷ old.history }) → (is_carried_out s ≡ true → events' ≡ events ++ logged old call)
    → (is_carried_out s ≡ false → new ≡ old) → (is_carried_out s ≡ false → events' ≡ events) → Leaves pinned told new events'
unfolding log_of
goes_on s pinned told old new call events events' was history log same log_same = elim (is_carried_out s) as (λ b. is_carried_out s ≡ b → Leaves pinned told new events') [
  | true ↦ λ is.
      let mine : List Call = logged (record { pinned = pinned; history = old.history }) call in
      let theirs : logged old call ≡ mine = ap (λ (k : Key). logged (record { pinned = k; history = old.history }) call) was.0 in (
        ap (λ (o : Ordered). o.pinned) (history is) ∙ was.0,
        ap (λ (o : Ordered). log_of pinned o.history) (history is) ∙ ap (λ l. l ++ mine) was.1 ∙ append_assoc told events mine ∙ ap (λ l. told ++ l) (sym (log is ∙ ap (λ l. events ++ l) theirs)),
      )
  | false ↦ λ is. (
    ap (λ (o : Ordered). o.pinned) (same is) ∙ was.0,
    ap (λ (o : Ordered). log_of pinned o.history) (same is) ∙ was.1 ∙ ap (λ l. told ++ l) (sym (log_same is)),
  )
] refl
