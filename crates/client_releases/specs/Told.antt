-- What the records of a journal tell of a client.
use Rattle.std.specs.Prelude.{◌≡◌, ◌⊎◌, ◌<◌, ℕ, Bool, bytes_eq, length, slice_index_or, List, [], ◌++◌, Option, Some, None, true, ◌==◌, if◌then◌else◌}
use Rattle.std.specs.Option.{option_and_then, option_map}
use Rattle.std.specs.Result.{result_ok}
use Rattle.layout.specs.Format.{Format, whole}
use Rattle.layout.specs.Types.{Bytes, Key, User, Version}
use Rattle.lms_sign.specs.Keys.{public_key_of}
use Rattle.lms_sign.specs.Secret.{Secret}
use Rattle.lms_sign.specs.Signature.{signature_of}
use Rattle.version_order.specs.Structure.{Structure, structure}
use Rattle.update_cert.specs.Cert.{Cert, cert}
use Rattle.pending_list.specs.declared.signed.Signed.{Signed}
use Rattle.pending_list.specs.Signed.{signed}
use Rattle.leaf_ledger.specs.Device.{at_rest}
use Rattle.leaf_ledger.specs.Ledger.{IsFileOf, LeafNumber, LedgerState}
use Rattle.client_journal.specs.Records.{State as Recorded, Idle, Declared, Signed as Ended, TellsState}
use Rattle.client_releases.specs.Releasing.{IsUsedUp, OwnDevices, ledger_at, no_secret}
use Rattle.client_releases.specs.declared.phase.Phase.{Phase}
use Rattle.client_releases.specs.declared.phase.Phase.TheVariants as phase

-- what a text spells, if it spells something of this user
abbrev pub own_in : {V : Type 0} → Format V → (V → User) → User → Bytes → Option V
own_in f user_of user text = option_and_then (λ v. if user_of v == user then Some v else None)
    (result_ok (whole f text))

-- the signed certificate of this user that a text is
abbrev pub cert_in : User → Bytes → Option (Signed Cert)
cert_in user text = own_in (signed cert) (λ c. c.value.user) user text

-- the signed structure of this user that a text is
abbrev pub structure_in : User → Bytes → Option (Signed Structure)
structure_in user text = own_in (signed structure) (λ z. z.value.plan.user) user text

-- the number of the operation that was declared last, 0 where none was; the structure that was signed last; how far the
-- operation is, but for its commit, of which no record tells; and the text that was released last
pub record Told : Type 0 where
  pub number : Version
  pub last : Option (Signed Structure)
  pub phase : Phase
  pub text : Bytes

abbrev pub after_cert : Option (Signed Structure) → Bytes → Signed Cert → Told
after_cert last text c = record { number = c.value.number; last = last; phase = phase.Declared; text = text }

abbrev pub after_structure : Bytes → Signed Structure → Told
after_structure text z = record { number = z.value.plan.number; last = Some z; phase = phase.Signed; text = text }

-- what records tell of the client of this user, if their last texts are this user's
abbrev pub told_by : User → Recorded → Option Told
told_by user Idle = Some (record { number = 0; last = None; phase = phase.Idle; text = [] })
told_by user (Declared None text) = option_map (after_cert None text) (cert_in user text)
told_by user (Declared (Some last) text) =
    option_and_then (λ z. option_map (after_cert (Some z) text) (cert_in user text)) (structure_in user last)
told_by user (Ended text) = option_map (after_structure text) (structure_in user text)

-- What a client has released, with its devices: whose it is, what its keys are made of, their leaves, the signed texts,
-- and what these tell.
pub record Released : Type 0 where
  pub user : User
  pub secrets : List Secret
  pub devices : OwnDevices
  pub number : Version
  pub last : Option (Signed Structure)
  pub phase : Phase
  pub text : Bytes

-- what the key of this number is made of, of which there is one
abbrev pub secret_at : ℕ → Released → Secret
secret_at n r = slice_index_or r.secrets n no_secret

abbrev pub HasKey : ℕ → Released → Type 0
HasKey n r = n < length r.secrets

-- what is made of this has this public key
abbrev pub has_public : Key → Secret → Bool
has_public key secret = bytes_eq (public_key_of secret) key

-- no leaf of this key is left that can be used
abbrev pub IsKeyUsedUp : ℕ → Released → Type 0
IsKeyUsedUp n r = IsUsedUp (secret_at n r) (ledger_at n r.devices)

-- a text with its signature by this leaf of this key
abbrev pub sent : Released → ℕ → LeafNumber → Bytes → Bytes
sent r n leaf text = text ++ signature_of (secret_at n r) leaf text

-- a structure with its signature by this leaf
abbrev pub signed_by : Secret → LeafNumber → Structure → Signed Structure
signed_by secret leaf z = record { value = z; signature = signature_of secret leaf (structure.spell z) }

-- what is released tells so, in this phase
abbrev pub told_of : Phase → Released → Told
told_of told r = record { number = r.number; last = r.last; phase = told; text = r.text }

-- The file of a journal tells all of it: how a client is when it is opened.
pub record IsToldBy (file : Bytes) (r : Released) : Type 0 where
  pub recorded : Recorded
  pub tells : TellsState recorded file
  pub told : told_by r.user recorded ≡ Some (told_of r.phase r)

-- The file tells a text that isn't one of this user.
pub record TellsOfOther (user : User) (file : Bytes) : Type 0 where
  pub recorded : Recorded
  pub tells : TellsState recorded file
  pub untold : told_by user recorded ≡ None

-- The phase is the one that is told; or a structure was signed, and then committed.
abbrev pub IsPhase : Phase → Phase → Type 0
IsPhase told now = (now ≡ told) ⊎ ((told ≡ phase.Signed) × (now ≡ phase.Idle))

-- A ledger can be used and is at rest.
pub record IsReady (ledger : LedgerState) : Type 0 where
  pub usable : ledger.usable ≡ true
  pub rests : ledger.file.now ≡ at_rest ledger.file.now.text
  pub own_file : IsFileOf ledger.key ledger.file.now.text

-- All devices can be used and are at rest, and the client is as the records of its journal tell.
pub record Stands (r : Released) : Type 0 where
  pub ledgers : (n : ℕ) → HasKey n r → IsReady (ledger_at n r.devices)
  pub journal_usable : r.devices.journal.usable ≡ true
  pub journal_rests : r.devices.journal.file.now ≡ at_rest r.devices.journal.file.now.text
  pub recorded : Recorded
  pub tells : TellsState recorded r.devices.journal.file.now.text
  pub told_phase : Phase
  pub told : told_by r.user recorded ≡ Some (told_of told_phase r)
  pub is_phase : IsPhase told_phase r.phase

-- What is true of it at all times: there is a key, each ledger is its key's, no leaf is outstanding, and it stands
-- unless a device has failed.
pub record IsReleased (r : Released) : Type 0 where
  pub some : HasKey 0 r
  pub as_many : length r.devices.ledgers ≡ length r.secrets
  pub own_keys : (n : ℕ) → HasKey n r → (ledger_at n r.devices).key ≡ public_key_of (secret_at n r)
  pub settled : (n : ℕ) → HasKey n r → (ledger_at n r.devices).outstanding ≡ 0
  pub stands : (r.phase ≡ phase.Failed → ⊥) → Stands r
