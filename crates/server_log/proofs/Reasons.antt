-- Errors of a log's records and of its calls, as errors of reading it back.
use Rattle.std.proofs.Common.{◌≡◌, ◌⊎◌, ℕ, Bool, true, false, List, [], ◌∷◌, ◌++◌, reverse, Option, Some, None, Result, Ok, Err, OnErr, inl, inr, refl, sym, ◌∙◌, ap, subst}
use Rattle.std.proofs.lemmas.List.{reverse-reverse}
use Rattle.std.specs.Prelude.{IfErr, IsErrAnd}
use Rattle.layout.specs.Types.{Bytes, Key}
use Rattle.record_log.specs.Records.{Record, Reaches, IsDamaged}
use Rattle.consistency_server.specs.Answers.{Call}
use Rattle.consistency_server.specs.History.{Ordered, logged}
use Rattle.record_log.specs.declared.error.LogError.{LogError}
use Rattle.record_log.specs.declared.error.LogError.TheVariants as log
use Rattle.server_log.specs.declared.error.ReplayError.{ReplayError}
use Rattle.server_log.specs.declared.error.ReplayError.TheVariants as replay
use Rattle.server_log.specs.declared.error.OpenError.{OpenError}
use Rattle.server_log.specs.declared.error.OpenError.TheVariants as open_error
use Rattle.server_log.specs.Errors.{of_log_error, of_replay_error}
use Rattle.server_log.specs.KeptLog.{record_of, beginning, records_of, IsReason}

pub log_reason : (e : LogError) (key : Key) (file : Bytes) → (e ≡ log.Damaged → IsDamaged file) → IsReason (of_log_error e) key file
log_reason log.Device key file damaged = tt
log_reason log.Memory key file damaged = tt
log_reason log.Damaged key file damaged = damaged refl

pub log_device : (e : LogError) → of_log_error e ≡ open_error.Device → e ≡ log.Device
log_device log.Device is = refl
log_device log.Memory is = cc
log_device log.Damaged is = cc

pub replay_reason : (e : ReplayError) (key : Key) (file : Bytes) → (e ≡ replay.Foreign → IsReason open_error.Foreign key file) → IsReason (of_replay_error e) key file
replay_reason replay.Foreign key file foreign = foreign refl
replay_reason replay.Memory key file foreign = tt

-- it isn't the file's fault
pub machines : (e : LogError) → (e ≡ log.Damaged → ⊥) → (of_log_error e ≡ open_error.Device) ⊎ (of_log_error e ≡ open_error.Memory)
machines log.Device ours = inl refl
machines log.Memory ours = inr refl
machines log.Damaged ours = absurd (ours refl)

pub replay_device : (e : ReplayError) → of_replay_error e ≡ open_error.Device → ⊥
replay_device replay.Foreign is = cc
replay_device replay.Memory is = cc

-- the first record is no beginning under this key
pub no_beginning : (e : OpenError) (key : Key) (file : Bytes) (gate : ℕ) (r : Record) → Reaches file gate (r ∷ [])
    → (e ≡ open_error.OtherKey) ⊎ (e ≡ open_error.NoBeginning)
    → (e ≡ open_error.OtherKey → (r ≡ beginning r.text) × (r.text ≡ key → ⊥))
    → (e ≡ open_error.NoBeginning → r.kind ≡ 3 → ⊥)
    → IsReason e key file
no_beginning e key file gate r reaches (inl is) other none =
    let reaches' : Reaches file gate (beginning r.text ∷ []) = subst (λ (x : Record). Reaches file gate (x ∷ [])) (other is).0 reaches in
    subst (λ (x : OpenError). IsReason x key file) (sym is) (r.text, (other is).1, (gate, reaches'))
no_beginning e key file gate r reaches (inr is) other none =
    subst (λ (x : OpenError). IsReason x key file) (sym is) (r, none is, (gate, reaches))

-- a call that places and commits nothing after those that were read
pub no_call_of_it : (order : Ordered) (c : Call) (r : Record) (file : Bytes) (gate : ℕ) → record_of c ≡ r → logged order c ≡ []
    → Reaches file gate (records_of order.pinned (reverse order.history) ++ r ∷ []) → IsReason open_error.Foreign order.pinned file
no_call_of_it order c r file gate is none reaches =
    let same : logged (record { pinned = order.pinned; history = reverse (reverse order.history) }) c ≡ logged order c =
    ap (λ (h : List Call). logged (record { pinned = order.pinned; history = h }) c) (reverse-reverse order.history) in
    let reaches' : Reaches file gate (records_of order.pinned (reverse order.history) ++ record_of c ∷ []) =
    subst (λ (x : Record). Reaches file gate (records_of order.pinned (reverse order.history) ++ x ∷ [])) (sym is) reaches in
    (reverse order.history, c, same ∙ none, (gate, reaches'))

-- ---- results

-- an error that is handed on
pub handed_on : {X : Type 0} (r : Result X OpenError) (v : OpenError) (P : OpenError → Type 0) → IsErrAnd r (λ e. e ≡ v) → P v → IfErr r P
handed_on (Ok x) v P is holds = tt
handed_on (Err e) v P is holds = subst P (sym is) holds

pub found_some : {T E : Type 0} (r : Result (Option T) E) (found : Option T) (x : T) → r ≡ Ok found → found ≡ Some x → r ≡ Ok None → ⊥
found_some r found x was is none = cc

pub on_err : {T E P : Type 0} (r : Result T E) → P → OnErr r P
on_err (Ok x) p = tt
on_err (Err e) p = p

-- what answers otherwise than one that has ended hasn't ended
pub not_ended : {R : Type 0} (ended : Bool) (r end : R) → (ended ≡ true → r ≡ end) → (r ≡ end → ⊥) → ended ≡ false
not_ended false r end none other = refl
not_ended true r end none other = absurd (other (none refl))
