-- The server of an honest run answers by its history, and its log is that history's.
use Rattle.std.proofs.Common.{◌≡◌, ◌≢◌, ◌==◌, arith, Bool, true, false, List, [], ◌∷◌, ◌++◌, Some, None, if◌then◌else◌, length, refl, sym, ap, subst, ◌∙◌}
use Rattle.std.specs.Prelude.{IsTrue, option_to_list}
use Rattle.std.proofs.lemmas.Bool.{eqb-true}
use Rattle.layout.specs.Types.{Bytes, Key}
use Rattle.wire.specs.declared.kinds.Status.TheVariants as status
use Rattle.consistency_server.specs.declared.call.CallKind.{CallKind}
use Rattle.consistency_server.specs.Answers.{Answer, Call}
use Rattle.consistency_server.specs.History.{Ordered, answer_of, call_of, is_carried_out, log_of, logged}
use Rattle.honest_runs.specs.HonestRuns.{IsAnswered, carried_out}
use Rattle.honest_runs.specs.Town.{exchange_of}

-- before the first call the log is empty
none_logged : (key : Key) → log_of key [] ≡ []
unfolding log_of
none_logged key = refl

pub at_first : (key pinned : Key) → pinned ≡ key → (server : Ordered) → server ≡ record { pinned = pinned; history = [] } → (log : List Call) → log ≡ []
    → (server.pinned ≡ key) × (log ≡ log_of key server.history)
at_first key pinned is server made log none =
    (ap (λ (o : Ordered). o.pinned) made ∙ is, none ∙ sym (none_logged key) ∙ ap (λ (o : Ordered). log_of key o.history) (sym made))

module _ (old : Ordered) (key : Key) (pinned : old.pinned ≡ key) (kind : CallKind) (text : Bytes) (a : Answer) where
  abbrev made : Call
  made = call_of kind text

  -- what is said of the server as it was is said of this key and its history
  by_key : (P : Ordered → Type 0) → P old → P (record { pinned = key; history = old.history })
  by_key P p = subst (λ (k : Key). P (record { pinned = k; history = old.history })) pinned p

  pub is_answered : (log : List Call) → log ≡ log_of key old.history
      → (is_carried_out a.status ≡ true → a ≡ answer_of old.pinned old.history made)
      → (a.status ≡ status.Busy → IsTrue (length log == 1024))
      → (a.status ≡ status.Busy → logged old made ≢ [])
      → (is_carried_out a.status ≡ false → a.payload ≡ [])
      → IsAnswered key old.history (exchange_of kind text a)
  is_answered log is answered busy busy_logged bare = record {
    carried_out = λ w. by_key (λ (o : Ordered). a ≡ answer_of o.pinned o.history made) (answered w);
    bare = bare;
    full = λ w. (let many : length (log_of key old.history) ≡ 1024 = ap (λ (calls : List Call). length calls) (sym is) ∙ eqb-true (length log) 1024 (busy w) in omega (arith, many));
    logged_it = λ w. by_key (λ (o : Ordered). logged o made ≢ []) (busy_logged w);
  }

  module _ (new : Ordered) (log after : List Call) (is : log ≡ log_of key old.history)
      (history : is_carried_out a.status ≡ true → new ≡ record old { history = made ∷ old.history })
      (same : is_carried_out a.status ≡ false → new ≡ old)
      (pushed : is_carried_out a.status ≡ true → after ≡ log ++ logged old made)
      (log_same : is_carried_out a.status ≡ false → after ≡ log) where
    calls_by : (b : Bool) → is_carried_out a.status ≡ b → new.history ≡ option_to_list (if b then Some made else None) ++ old.history
    calls_by true w = ap (λ (o : Ordered). o.history) (history w)
    calls_by false w = ap (λ (o : Ordered). o.history) (same w)

    -- a call that was carried out is kept
    pub calls_kept : new.history ≡ option_to_list (carried_out (exchange_of kind text a)) ++ old.history
    calls_kept = calls_by (is_carried_out a.status) refl

    pinned_by : (b : Bool) → is_carried_out a.status ≡ b → new.pinned ≡ key
    pinned_by true w = ap (λ (o : Ordered). o.pinned) (history w) ∙ pinned
    pinned_by false w = ap (λ (o : Ordered). o.pinned) (same w) ∙ pinned

    pub still_pinned : new.pinned ≡ key
    still_pinned = pinned_by (is_carried_out a.status) refl

    one_logged : log_of key (made ∷ old.history) ≡ log_of key old.history ++ logged (record { pinned = key; history = old.history }) made
    unfolding log_of
    one_logged = refl

    logged_by : (b : Bool) → is_carried_out a.status ≡ b → after ≡ log_of key new.history
    logged_by true w =
        pushed w
        ∙ ap (λ (calls : List Call). calls ++ logged old made) is
        ∙ by_key (λ (o : Ordered). log_of key old.history ++ logged old made ≡ log_of key old.history ++ logged o made) refl
        ∙ sym one_logged
        ∙ ap (λ (o : Ordered). log_of key o.history) (sym (history w))
    logged_by false w = log_same w ∙ is ∙ ap (λ (o : Ordered). log_of key o.history) (sym (same w))

    -- and the log is still that of the history
    pub still_logged : after ≡ log_of key new.history
    still_logged = logged_by (is_carried_out a.status) refl
