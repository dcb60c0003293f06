-- What `begin`, `resign` and `sign` of a client ensure is what a step of it tells, wherever the answer lies in memory.
use Rattle.std.proofs.Common.{◌≡◌, ◌≢◌, ℕ, ◌≤◌, List, Option, None, Some, Ok, Err, Result, IfOk, IfErr, OnOk, OnErr, true, length, ap, inl, inr}
use Rattle.std.specs.Prelude.{◌↔◌, ◌⊎◌, IfSome, IsErrOf, IsSome}
use Rattle.std.specs.Vec.{vec_items}
use Rattle.std.specs.declared.vec.Vec.{Vec}
use Rattle.layout.specs.Ranges.{last_version}
use Rattle.layout.specs.Types.{Bytes, Digest}
use Rattle.leaf_ledger.specs.Ledger.{IsLeastFree, LeafNumber}
use Rattle.version_order.specs.Structure.{structure}
use Rattle.update_cert.specs.Change.{Change}
use Rattle.update_cert.specs.Cert.{cert}
use Rattle.update_cert.specs.declared.cert.TheConstants.{MOST_CHANGES}
use Rattle.client_releases.specs.declared.error.ClientError.{ClientError}
use Rattle.client_releases.specs.declared.error.ClientError.TheVariants as error
use Rattle.client_releases.specs.declared.phase.Phase.TheVariants as phase
use Rattle.client_releases.specs.Releasing.{AnyMoment, IsKept, IsTried, OneHasRisen, OthersStay, cert_record, ledger_at, structure_record, under}
use Rattle.client_releases.specs.Told.{HasKey, IsKeyUsedUp}
use Rattle.client_verify.specs.Laid.{are_laid}
use Rattle.checked_blocks.specs.CheckedBlocks.{LetsGo}
use Rattle.client_verify.specs.Holding.{LaysOut}
use Rattle.client_verify.specs.State.{Ready, State, declared, declared_text, failed, newest_key, next_cert, next_structure, on, over, released, resigned, resigned_text, signed_over, signed_text, signer_of, signing_key}
use Rattle.client_steps.specs.Steps.{HasBegun, HasResigned, HasSigned}
use Rattle.client_steps.specs.Anywhere.{on_ok}

-- the same error is told of both
to_err : {T U E : Type 0} (f : T → U) (r : Result T E) (e : E) → IsErrOf (on_ok f r) e → IsErrOf r e
to_err f (Ok x) e h = cc h
to_err f (Err x) e h = cc h

from_err : {T U E : Type 0} (f : T → U) (r : Result T E) (e : E) → IsErrOf r e → IsErrOf (on_ok f r) e
from_err f r e h = ap (on_ok f) h

errs : {T U E : Type 0} (f : T → U) (r : Result T E) (e : E) (P : Type 0) → (IsErrOf r e ↔ P) → (IsErrOf (on_ok f r) e ↔ P)
errs f r e P h = (λ is. h.0 (to_err f r e is), λ p. from_err f r e (h.1 p))

module _ {A : Type 0} where
  told_err : (answer : Result (Vec ℕ A) ClientError) (e : ClientError) → IsErrOf (on_ok vec_items answer) e → IsErrOf answer e
  told_err answer e h = to_err vec_items answer e h

  told_errs : (answer : Result (Vec ℕ A) ClientError) (e : ClientError) (P : Type 0) → (IsErrOf answer e ↔ P) → (IsErrOf (on_ok vec_items answer) e ↔ P)
  told_errs answer e P h = errs vec_items answer e P h

module _ {A : Type 0} (s new : State) (changes : List (Change Digest)) (laid : List Bytes) where
  pub begun : (answer : Result (Vec ℕ A) ClientError)
      → s.phase ≡ phase.Idle → length changes ≤ MOST_CHANGES → are_laid laid changes ≡ true
      → OnOk answer ((leaf : LeafNumber) × IsKept leaf (cert_record (declared_text s leaf changes)) (under (newest_key s) s.devices) (under (newest_key s) new.devices) × (new ≡ over new.blocks (on new.devices (declared s leaf changes))))
      → OnOk answer (LaysOut s laid new.blocks)
      → IfOk answer (λ x. x.items ≡ new.text)
      → OnOk answer (cert.Fits (next_cert s changes))
      → ((leaf : LeafNumber) → IsLeastFree (ledger_at (newest_key s) s.devices).file.now.text leaf → AnyMoment leaf (cert_record (declared_text s leaf changes)) (under (newest_key s) s.devices) (under (newest_key s) new.devices))
      → OnErr answer (IsTried (λ leaf. cert_record (declared_text s leaf changes)) (under (newest_key s) s.devices) (under (newest_key s) new.devices))
      → (IsErrOf answer error.NoLeaf ↔ IsKeyUsedUp (newest_key s) (released s))
      → (IsErrOf answer error.NoNumber ↔ ((s.number ≡ last_version) × (IsKeyUsedUp (newest_key s) (released s) → ⊥)))
      → (IsErrOf answer error.Device → OneHasRisen (under (newest_key s) s.devices) (under (newest_key s) new.devices))
      → OthersStay (newest_key s) s.devices new.devices
      → (IsErrOf answer error.Device → new ≡ over new.blocks (on new.devices (failed s)))
      → (IsErrOf answer error.Device → LaysOut s laid new.blocks)
      → (IsErrOf answer error.Device → cert.Fits (next_cert s changes))
      → IfErr answer (λ e. (e ≢ error.Foreign) × (e ≢ error.Damaged) × (e ≢ error.NoKey))
      → IfErr answer (λ e. e ≢ error.Device → new ≡ s)
      → HasBegun s changes laid (on_ok vec_items answer) new
  begun (Ok x) i few l d k t f any tr nl nn r ot fl kd fd only e =
      record {
        idle = i;
        few = few;
        were_laid = l;
        declared = d;
        kept = k;
        text = t;
        fits = f;
        any_moment = any;
        tried = tr;
        no_leaf = told_errs (Ok x) error.NoLeaf (IsKeyUsedUp (newest_key s) (released s)) nl;
        no_number = told_errs (Ok x) error.NoNumber ((s.number ≡ last_version) × (IsKeyUsedUp (newest_key s) (released s) → ⊥)) nn;
        rose = λ h. r (told_err (Ok x) error.Device h);
        others = ot;
        fails = λ h. fl (told_err (Ok x) error.Device h);
        kept_device = λ h. kd (told_err (Ok x) error.Device h);
        fits_device = λ h. fd (told_err (Ok x) error.Device h);
        only = only;
        err = e;
      }
  begun (Err x) i few l d k t f any tr nl nn r ot fl kd fd only e =
      record {
        idle = i;
        few = few;
        were_laid = l;
        declared = d;
        kept = k;
        text = t;
        fits = f;
        any_moment = any;
        tried = tr;
        no_leaf = told_errs (Err x) error.NoLeaf (IsKeyUsedUp (newest_key s) (released s)) nl;
        no_number = told_errs (Err x) error.NoNumber ((s.number ≡ last_version) × (IsKeyUsedUp (newest_key s) (released s) → ⊥)) nn;
        rose = λ h. r (told_err (Err x) error.Device h);
        others = ot;
        fails = λ h. fl (told_err (Err x) error.Device h);
        kept_device = λ h. kd (told_err (Err x) error.Device h);
        fits_device = λ h. fd (told_err (Err x) error.Device h);
        only = only;
        err = e;
      }

module _ {A : Type 0} (s new : State) where
  pub resigned_by : (n : ℕ) (answer : Result (Vec ℕ A) ClientError)
      → s.phase ≡ phase.Declared → HasKey n (released s)
      → OnOk answer ((leaf : LeafNumber) × IsKept leaf (cert_record (resigned_text s n leaf)) (under n s.devices) (under n new.devices) × (new ≡ on new.devices (resigned s n leaf)))
      → IfOk answer (λ x. x.items ≡ new.text)
      → ((leaf : LeafNumber) → IsLeastFree (ledger_at n s.devices).file.now.text leaf → AnyMoment leaf (cert_record (resigned_text s n leaf)) (under n s.devices) (under n new.devices))
      → OnErr answer (IsTried (λ leaf. cert_record (resigned_text s n leaf)) (under n s.devices) (under n new.devices))
      → (IsErrOf answer error.NoLeaf ↔ IsKeyUsedUp n (released s))
      → (IsErrOf answer error.Device → OneHasRisen (under n s.devices) (under n new.devices))
      → OthersStay n s.devices new.devices
      → (IsErrOf answer error.Device → new ≡ on new.devices (failed s))
      → IfErr answer (λ e. (e ≢ error.NoNumber) × (e ≢ error.Foreign) × (e ≢ error.Damaged) × (e ≢ error.NoKey))
      → IfErr answer (λ e. e ≢ error.Device → new ≡ s)
      → HasResigned s n (on_ok vec_items answer) new
  resigned_by n (Ok x) i h d t any tr nl r ot fl only e =
      record {
        declared = i;
        has = h;
        resigned = d;
        text = t;
        any_moment = any;
        tried = tr;
        no_leaf = told_errs (Ok x) error.NoLeaf (IsKeyUsedUp n (released s)) nl;
        rose = λ is. r (told_err (Ok x) error.Device is);
        others = ot;
        fails = λ is. fl (told_err (Ok x) error.Device is);
        only = only;
        err = e;
      }
  resigned_by n (Err x) i h d t any tr nl r ot fl only e =
      record {
        declared = i;
        has = h;
        resigned = d;
        text = t;
        any_moment = any;
        tried = tr;
        no_leaf = told_errs (Err x) error.NoLeaf (IsKeyUsedUp n (released s)) nl;
        rose = λ is. r (told_err (Err x) error.Device is);
        others = ot;
        fails = λ is. fl (told_err (Err x) error.Device is);
        only = only;
        err = e;
      }

-- what an error leaves of the devices
abbrev Tries : State → State → Ready → Type 0
Tries s new r = IsTried (λ leaf. structure_record (signed_text s leaf r)) (under (signing_key s r) s.devices) (under (signing_key s r) new.devices)

module _ {A : Type 0} (s new : State) where
  tr_on : (answer : Result (Vec ℕ A) ClientError) (ready : Option Ready) → IfSome ready (λ r. OnErr answer (Tries s new r)) → IfSome ready (λ r. OnErr (on_ok vec_items answer) (Tries s new r))
  tr_on (Ok x) ready h = h
  tr_on (Err x) ready h = h

  each : (answer : Result (Vec ℕ A) ClientError) (e : ClientError) (ready : Option Ready) (P : Ready → Type 0) → IfSome ready (λ r. IsErrOf answer e ↔ P r) → IfSome ready (λ r. IsErrOf (on_ok vec_items answer) e ↔ P r)
  each answer e None P h = tt
  each answer e (Some r) P h = told_errs answer e (P r) h

  owns : (answer : Result (Vec ℕ A) ClientError) (ready : Option Ready) → IfSome ready (λ r. IsErrOf answer error.NoKey ⊎ HasKey (signing_key s r) (released s)) → IfSome ready (λ r. IsErrOf (on_ok vec_items answer) error.NoKey ⊎ HasKey (signing_key s r) (released s))
  owns answer None h = tt
  owns answer (Some r) (inl lacks) = inl (from_err vec_items answer error.NoKey lacks)
  owns answer (Some r) (inr has) = inr has

  rises : (answer : Result (Vec ℕ A) ClientError) (ready : Option Ready) → IfSome ready (λ r. IsErrOf answer error.Device → OneHasRisen (under (signing_key s r) s.devices) (under (signing_key s r) new.devices))
      → IfSome ready (λ r. IsErrOf (on_ok vec_items answer) error.Device → OneHasRisen (under (signing_key s r) s.devices) (under (signing_key s r) new.devices))
  rises answer None h = tt
  rises answer (Some r) h = λ is. h (told_err answer error.Device is)

  pub signed : (answer : Result (Vec ℕ A) ClientError)
      → IsSome s.accepted
      → OnOk answer (IfSome s.accepted (λ r. (leaf : LeafNumber) × IsKept leaf (structure_record (signed_text s leaf r)) (under (signing_key s r) s.devices) (under (signing_key s r) new.devices) × (new ≡ over new.blocks (on new.devices (signed_over s leaf r)))))
      → OnOk answer (LetsGo s.blocks new.blocks)
      → IfOk answer (λ x. x.items ≡ new.text)
      → OnOk answer (IfSome s.accepted (λ r. structure.Fits (next_structure s r)))
      → IfSome s.accepted (λ r. HasKey (signing_key s r) (released s) → (leaf : LeafNumber) → IsLeastFree (ledger_at (signing_key s r) s.devices).file.now.text leaf → AnyMoment leaf (structure_record (signed_text s leaf r)) (under (signing_key s r) s.devices) (under (signing_key s r) new.devices))
      → IfSome s.accepted (λ r. OnErr answer (IsTried (λ leaf. structure_record (signed_text s leaf r)) (under (signing_key s r) s.devices) (under (signing_key s r) new.devices)))
      → IfSome s.accepted (λ r. IsErrOf answer error.NoKey ↔ (signer_of s r ≡ None))
      → IfSome s.accepted (λ r. IsErrOf answer error.NoLeaf ↔ HasKey (signing_key s r) (released s) × IsKeyUsedUp (signing_key s r) (released s))
      → IfSome s.accepted (λ r. IsErrOf answer error.NoKey ⊎ HasKey (signing_key s r) (released s))
      → IfSome s.accepted (λ r. IsErrOf answer error.Device → OneHasRisen (under (signing_key s r) s.devices) (under (signing_key s r) new.devices))
      → IfSome s.accepted (λ r. OthersStay (signing_key s r) s.devices new.devices)
      → (IsErrOf answer error.Device → new ≡ on new.devices (failed s))
      → (IsErrOf answer error.Device → IfSome s.accepted (λ r. structure.Fits (next_structure s r)))
      → IfErr answer (λ e. (e ≢ error.NoNumber) × (e ≢ error.Foreign) × (e ≢ error.Damaged))
      → IfErr answer (λ e. e ≢ error.Device → new ≡ s)
      → HasSigned s (on_ok vec_items answer) new
  signed (Ok x) ready d k t f any tr nk nl own r ot fl fd only e =
      record {
        ready = ready;
        signed = d;
        gone = k;
        text = t;
        fits = f;
        any_moment = any;
        tried = tr_on (Ok x) s.accepted tr;
        no_key = each (Ok x) error.NoKey s.accepted _ nk;
        no_leaf = each (Ok x) error.NoLeaf s.accepted _ nl;
        own = owns (Ok x) s.accepted own;
        rose = rises (Ok x) s.accepted r;
        others = ot;
        fails = λ h. fl (told_err (Ok x) error.Device h);
        fits_device = λ h. fd (told_err (Ok x) error.Device h);
        only = only;
        err = e;
      }
  signed (Err x) ready d k t f any tr nk nl own r ot fl fd only e =
      record {
        ready = ready;
        signed = d;
        gone = k;
        text = t;
        fits = f;
        any_moment = any;
        tried = tr_on (Err x) s.accepted tr;
        no_key = each (Err x) error.NoKey s.accepted _ nk;
        no_leaf = each (Err x) error.NoLeaf s.accepted _ nl;
        own = owns (Err x) s.accepted own;
        rose = rises (Err x) s.accepted r;
        others = ot;
        fails = λ h. fl (told_err (Err x) error.Device h);
        fits_device = λ h. fd (told_err (Err x) error.Device h);
        only = only;
        err = e;
      }
