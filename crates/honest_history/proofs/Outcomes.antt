-- What a call leads to, case by case.
use Rattle.std.proofs.Common.{inl, inr, ◌≡◌, [], Option, Some, None, Result, Ok, Err, true, false, refl}
use Rattle.std.specs.Prelude.{find, not, if◌then◌else◌}
use Rattle.std.specs.Option.{option_map_or}
use Rattle.std.proofs.lemmas.Bool.{cases_Bool}
use Rattle.layout.specs.Format.{Format, IsBytes, Lawful, whole}
use Rattle.layout.specs.Laws.{is_found}
use Rattle.layout.specs.Types.{Bytes}
use Rattle.layout.specs.declared.error.ReadError.{ReadError}
use Rattle.lms_sign.specs.Signature.{valid}
use Rattle.principals.specs.Table.{key_at, key_of, lists_user}
use Rattle.version_order.specs.Structure.{Structure, structure}
use Rattle.version_order.specs.Vector.{version_of}
use Rattle.update_cert.specs.Cert.{Cert, cert}
use Rattle.pending_list.specs.declared.signed.Signed.{Signed}
use Rattle.pending_list.specs.Signed.{signed}
use Rattle.pending_list.specs.SignedLaws.{lawful_signed}
use Rattle.pending_list.specs.Reply.{reply}
use Rattle.wire.specs.declared.kinds.Status.{Status}
use Rattle.wire.specs.declared.kinds.Status.TheVariants as status
use Rattle.consistency_server.specs.Event.{Placed, Committed}
use Rattle.consistency_server.specs.State.{Placement, State, next_reply}
use Rattle.consistency_server.specs.Answers.{Outcome, Refused, Repeated, Happens, at_limit, committing, is_next, is_pending, placing, read_commit, read_update, same_cert, same_structure, structure_of, update_beside, verified_update}

-- a text that spells a value with a signature
pub read_whole : {V : Type 0} (f : Format V) → Lawful f → (text : Bytes) (x : Signed V) → IsBytes text → whole (signed f) text ≡ Ok x → (signed f).Fits x × (text ≡ (signed f).spell x)
read_whole f law text x bytes read = is_found (signed f) (lawful_signed f law) (λ y. y) text (Ok x) bytes read

-- ---- UPDATE

-- the text spells this certificate, signed under the key that the table has of its user
pub record IsCert (state : State) (text : Bytes) (c : Signed Cert) : Type 0 where
  pub read : whole (signed cert) text ≡ Ok c
  pub key : Bytes
  pub has : key_of c.value.user state.table ≡ Some key
  pub signed : valid key (cert.spell c.value) c.signature ≡ true

-- a refusal; the reply of an operation that is pending with this certificate; or the operation is placed
pub data UpdateCases (state : State) (text : Bytes) (o : Outcome) : Type 0 where
  NoUpdate : (s : Status) → (s ≡ status.Ok → ⊥) → o ≡ Refused s → UpdateCases state text o
  SameUpdate : (c : Signed Cert) (w : Placement) → whole (signed cert) text ≡ Ok c → find (same_cert c) state.pending ≡ Some w → o ≡ Repeated w.reply → UpdateCases state text o
  NewUpdate : (c : Signed Cert) → IsCert state text c → is_next state c.value ≡ true → at_limit state c.value ≡ false → o ≡ Happens (Placed c) (reply.spell (next_reply state c)) → UpdateCases state text o

module _ (state : State) (text : Bytes) where
  placed_cases : (c : Signed Cert) → IsCert state text c → UpdateCases state text (placing state c)
  placed_cases c is =
      elim (cases_Bool (is_next state c.value)) [
        | inr e ↦ NoUpdate status.WrongNumber (λ e. cc) (rw e refl)
        | inl e ↦ elim (cases_Bool (at_limit state c.value)) [
          | inl l ↦ NoUpdate status.TooLarge (λ e. cc) (rw (e, l) refl)
          | inr l ↦ NewUpdate c is e l (rw (e, l) refl)
        ]
      ]

  verified_cases : (c : Signed Cert) → whole (signed cert) text ≡ Ok c → (o : Option Bytes) → key_of c.value.user state.table ≡ o → UpdateCases state text (verified_update state c o)
  verified_cases c read None e = NoUpdate status.UnknownUser (λ e. cc) refl
  verified_cases c read (Some key) e =
      elim (cases_Bool (valid key (cert.spell c.value) c.signature)) [
        | inl v ↦ rw v (placed_cases c (record { read = read; key = key; has = e; signed = v }))
        | inr v ↦ rw v (NoUpdate status.BadSignature (λ e. cc) refl)
      ]

  beside_cases : (c : Signed Cert) → whole (signed cert) text ≡ Ok c → (o : Option Placement) → find (same_cert c) state.pending ≡ o → UpdateCases state text (update_beside o state c)
  beside_cases c read None e = verified_cases c read (key_of c.value.user state.table) refl
  beside_cases c read (Some w) e = SameUpdate c w read e refl

  pub update_cases : (r : Result (Signed Cert) ReadError) → whole (signed cert) text ≡ r → UpdateCases state text (read_update state r)
  update_cases (Err e) read = NoUpdate status.Form (λ e. cc) refl
  update_cases (Ok c) read = beside_cases c read (find (same_cert c) state.pending) refl

-- ---- COMMIT

-- the text spells this structure, signed under the key that the table has of its user at its plan's version of user 0
pub record IsStructure (state : State) (text : Bytes) (z : Signed Structure) : Type 0 where
  pub read : whole (signed structure) text ≡ Ok z
  pub key : Bytes
  pub has : key_at z.value.plan.user (version_of 0 z.value.plan.vector) state.table ≡ Some key
  pub signed : valid key (structure.spell z.value) z.signature ≡ true

-- a refusal; the structure that was committed last; or it is committed
pub data CommitCases (state : State) (text : Bytes) (o : Outcome) : Type 0 where
  NoCommit : (s : Status) → (s ≡ status.Ok → ⊥) → o ≡ Refused s → CommitCases state text o
  SameCommit : (z : Signed Structure) → IsStructure state text z → option_map_or (same_structure z) (structure_of z.value.plan.user state) false ≡ true → o ≡ Repeated [] → CommitCases state text o
  NewCommit : (z : Signed Structure) → IsStructure state text z → is_pending state z.value ≡ true → o ≡ Happens (Committed z) [] → CommitCases state text o

module _ (state : State) (text : Bytes) where
  pending_cases : (z : Signed Structure) → IsStructure state text z → CommitCases state text (committing state z)
  pending_cases z is =
      elim (cases_Bool (option_map_or (same_structure z) (structure_of z.value.plan.user state) false)) [
        | inl e ↦ SameCommit z is e (rw e refl)
        | inr e ↦ elim (cases_Bool (is_pending state z.value)) [
          | inl p ↦ NewCommit z is p (rw (e, p) refl)
          | inr p ↦ NoCommit status.NotPending (λ e. cc) (rw (e, p) refl)
        ]
      ]

  -- of a listed user
  checked_cases : (z : Signed Structure) → whole (signed structure) text ≡ Ok z → (o : Option Bytes) → key_at z.value.plan.user (version_of 0 z.value.plan.vector) state.table ≡ o
      → CommitCases state text (if not (option_map_or (λ key. valid key (structure.spell z.value) z.signature) o false) then Refused status.BadSignature else committing state z)
  checked_cases z read None e = NoCommit status.BadSignature (λ e. cc) refl
  checked_cases z read (Some key) e =
      elim (cases_Bool (valid key (structure.spell z.value) z.signature)) [
        | inl v ↦ rw v (pending_cases z (record { read = read; key = key; has = e; signed = v }))
        | inr v ↦ rw v (NoCommit status.BadSignature (λ e. cc) refl)
      ]

  pub commit_cases : (r : Result (Signed Structure) ReadError) → whole (signed structure) text ≡ r → CommitCases state text (read_commit state r)
  commit_cases (Err e) read = NoCommit status.Form (λ e. cc) refl
  commit_cases (Ok z) read =
      elim (cases_Bool (lists_user state.table z.value.plan.user)) [
        | inl l ↦ rw l (checked_cases z read (key_at z.value.plan.user (version_of 0 z.value.plan.vector) state.table) refl)
        | inr l ↦ NoCommit status.UnknownUser (λ e. cc) (rw l refl)
      ]
