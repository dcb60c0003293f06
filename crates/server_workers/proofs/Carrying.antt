-- A call that is carried out, by either kind.
use Rattle.std.proofs.Common.{◌≡◌, true, false, List, ◌∷◌, ◌++◌, sym, refl, ap, ◌∙◌}
use Rattle.wire.specs.declared.kinds.Status.{Status}
use Rattle.consistency_server.specs.Answers.{Call}
use Rattle.consistency_server.specs.History.{Ordered, is_carried_out, log_of, logged}

-- the log goes on being what the history leaves in it
pub log_goes_on : (s : Status) (old new : Ordered) (call : Call) (pushed pushed' : List Call) → pushed ≡ log_of old.pinned old.history
    → (is_carried_out s ≡ true → new ≡ record old { history = call ∷ old.history }) → (is_carried_out s ≡ true → pushed' ≡ pushed ++ logged old call)
    → (is_carried_out s ≡ false → new ≡ old) → (is_carried_out s ≡ false → pushed' ≡ pushed) → pushed' ≡ log_of new.pinned new.history
unfolding log_of
log_goes_on s old new call pushed pushed' was history log same log_same = elim (is_carried_out s) as (λ b. is_carried_out s ≡ b → pushed' ≡ log_of new.pinned new.history) [
  | true ↦ λ is. log is ∙ ap (λ l. l ++ logged old call) was ∙ ap (λ (o : Ordered). log_of o.pinned o.history) (sym (history is))
  | false ↦ λ is. log_same is ∙ was ∙ ap (λ (o : Ordered). log_of o.pinned o.history) (sym (same is))
] refl
