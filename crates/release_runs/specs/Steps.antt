-- The steps of what one user's client releases by any of its keys: of the contract of each call what the laws need, so
-- that there are more runs here than can come about, and what a crash leaves.
--
-- A crash inside a call is a call whose device fails, and then a crash: whatever part of the call was done by then is
-- one that a device may have done that fails there.
use Rattle.std.specs.Prelude.{◌≡◌, ◌<◌, ℕ, List, [], ◌∷◌, ◌++◌, length, map, slice_index_or, take, Some, IfOk, OnOk, OnErr, Result, Ok, Err}
use Rattle.layout.specs.Types.{Bytes, User}
use Rattle.lms_sign.specs.Secret.{Secret}
use Rattle.leaf_ledger.specs.Device.{History, started}
use Rattle.leaf_ledger.specs.Ledger.{LeafNumber}
use Rattle.client_journal.specs.Records.{unsigned}
use Rattle.version_order.specs.Structure.{Structure, structure}
use Rattle.update_cert.specs.Cert.{Cert, cert}
use Rattle.client_releases.specs.declared.error.ClientError.{ClientError}
use Rattle.client_releases.specs.declared.phase.Phase.TheVariants as phase
use Rattle.release_runs.specs.Crashes.{AreLeft, IsLeftOf}
use Rattle.client_releases.specs.Releasing.{IsKept, IsOpening, IsTried, OthersStay, OwnDevices, cert_record, no_secret}
use Rattle.client_releases.specs.Releasing.{structure_record, under}
use Rattle.client_releases.specs.Told.{HasKey, IsReleased, IsToldBy, Released, secret_at, sent, signed_by}

-- ---- clients

-- a client's devices: the files of its ledgers, the first key's first, and that of the journal
pub record Parts : Type 0 where
  pub ledgers : List History
  pub journal : History

-- what a user's client releases: its devices, while it is closed; or what it has released
pub data Client : Type 0 where
  Closed : Parts → Client
  Open : Released → Client

-- before anything happens: one ledger, and devices that hold nothing
abbrev pub first : Client
first = Closed (record { ledgers = started [] ∷ []; journal = started [] })

-- the files of the ledgers, and that of the journal
abbrev pub ledgers_of : Client → List History
ledgers_of (Closed p) = p.ledgers
ledgers_of (Open s) = map (λ l. l.file) s.devices.ledgers

abbrev pub journal_of : Client → History
journal_of (Closed p) = p.journal
journal_of (Open s) = s.devices.journal.file

-- whose client it is, and what the keys are made of that it may have, the first key first
pub record Owner : Type 0 where
  pub user : User
  pub secrets : List Secret

-- what the key of this number is made of, of which there is one
abbrev pub secret_of : ℕ → Owner → Secret
secret_of n o = slice_index_or o.secrets n no_secret

-- a call with its arguments and its answer, a ledger more for a client that is closed, or a crash
pub data Call : Type 0 where
  Opens : Result (Unit {0}) ClientError → Call
  Closes : Call
  Gains : Call
  Declares : ℕ → Cert → Result Bytes ClientError → Call
  Resigns : ℕ → Result Bytes ClientError → Call
  Signs : ℕ → Structure → Result Bytes ClientError → Call
  Commits : Call
  Crashes : Call

-- ---- what each call may leave

-- Opened are the ledgers of the first keys, as many as there are.
pub record IsOpened (o : Owner) (p : Parts) (new : Released) : Type 0 where
  pub user : new.user ≡ o.user
  pub secrets : new.secrets ≡ take (length p.ledgers) o.secrets
  pub told : IsToldBy p.journal.now.text new
  pub moments : IsOpening p.ledgers p.journal (map (λ l. l.file) new.devices.ledgers) new.devices.journal.file

pub record IsHandedBack (s : Released) (p : Parts) : Type 0 where
  pub ledgers : p.ledgers ≡ ledgers_of (Open s)
  pub journal : p.journal ≡ s.devices.journal.file

-- A ledger more that holds nothing, for the next key.
pub record HasGained (o : Owner) (p new : Parts) : Type 0 where
  pub fewer : length p.ledgers < length o.secrets
  pub ledgers : new.ledgers ≡ p.ledgers ++ started [] ∷ []
  pub journal : new.journal ≡ p.journal

-- what is released once a certificate is declared by this leaf of this key
abbrev pub with_cert : OwnDevices → Released → ℕ → LeafNumber → Cert → Released
with_cert devices s n leaf c =
    record s { devices = devices; number = c.number; phase = phase.Declared; text = sent s n leaf (cert.spell c) }

-- once the certificate that is declared is signed again by it
abbrev pub with_cert_again : OwnDevices → Released → ℕ → LeafNumber → Released
with_cert_again devices s n leaf = record s { devices = devices; text = sent s n leaf (unsigned s.text) }

-- and once a structure is signed by it
abbrev pub with_structure : OwnDevices → Released → ℕ → LeafNumber → Structure → Released
with_structure devices s n leaf z =
    record s {
      devices = devices;
      last = Some (signed_by (secret_at n s) leaf z);
      phase = phase.Signed;
      text = sent s n leaf (structure.spell z);
    }

-- what stays released when a device fails
abbrev pub failed : OwnDevices → Released → Released
failed devices s = record s { devices = devices; phase = phase.Failed }

pub record HasDeclared (s : Released) (n : ℕ) (c : Cert) (answer : Result Bytes ClientError)
    (new : Released) : Type 0 where
  pub idle : s.phase ≡ phase.Idle
  pub has : HasKey n s
  pub fits : cert.Fits c
  pub user : c.user ≡ s.user
  pub declared : OnOk answer ((leaf : LeafNumber)
      × IsKept leaf (cert_record (sent s n leaf (cert.spell c))) (under n s.devices) (under n new.devices)
      × (new ≡ with_cert new.devices s n leaf c))
  pub text : IfOk answer (λ text. text ≡ new.text)
  pub tried : OnErr answer (IsTried (λ leaf. cert_record (sent s n leaf (cert.spell c))) (under n s.devices)
      (under n new.devices))
  pub others : OthersStay n s.devices new.devices
  pub err : OnErr answer (new ≡ failed new.devices s)

pub record HasResigned (s : Released) (n : ℕ) (answer : Result Bytes ClientError) (new : Released) : Type 0 where
  pub declared : s.phase ≡ phase.Declared
  pub has : HasKey n s
  pub resigned : OnOk answer ((leaf : LeafNumber)
      × IsKept leaf (cert_record (sent s n leaf (unsigned s.text))) (under n s.devices) (under n new.devices)
      × (new ≡ with_cert_again new.devices s n leaf))
  pub text : IfOk answer (λ text. text ≡ new.text)
  pub tried : OnErr answer (IsTried (λ leaf. cert_record (sent s n leaf (unsigned s.text))) (under n s.devices)
      (under n new.devices))
  pub others : OthersStay n s.devices new.devices
  pub err : OnErr answer (new ≡ failed new.devices s)

pub record HasSigned (s : Released) (n : ℕ) (z : Structure) (answer : Result Bytes ClientError)
    (new : Released) : Type 0 where
  pub declared : s.phase ≡ phase.Declared
  pub has : HasKey n s
  pub fits : structure.Fits z
  pub user : z.plan.user ≡ s.user
  pub number : z.plan.number ≡ s.number
  pub signed : OnOk answer ((leaf : LeafNumber)
      × IsKept leaf (structure_record (sent s n leaf (structure.spell z))) (under n s.devices) (under n new.devices)
      × (new ≡ with_structure new.devices s n leaf z))
  pub text : IfOk answer (λ text. text ≡ new.text)
  pub tried : OnErr answer (IsTried (λ leaf. structure_record (sent s n leaf (structure.spell z))) (under n s.devices)
      (under n new.devices))
  pub others : OthersStay n s.devices new.devices
  pub err : OnErr answer (new ≡ failed new.devices s)

pub record HasCommitted (s new : Released) : Type 0 where
  pub signed : s.phase ≡ phase.Signed
  pub state : new ≡ record s { phase = phase.Idle }

-- what a crash leaves on all devices
pub record IsLeft (before : Client) (p : Parts) : Type 0 where
  pub ledgers : AreLeft (ledgers_of before) p.ledgers
  pub journal : IsLeftOf (journal_of before) p.journal

-- ---- steps

-- what comes of a closed client
abbrev pub FromClosed : Owner → Parts → Call → Client → Type 0
FromClosed o p (Opens (Ok x)) (Open s) = IsOpened o p s
FromClosed o p (Opens (Err e)) (Closed q) = IsOpening p.ledgers p.journal q.ledgers q.journal
FromClosed o p Gains (Closed q) = HasGained o p q
FromClosed o p Crashes (Closed q) = IsLeft (Closed p) q
FromClosed o p call after = ⊥

-- what comes of an open one
abbrev pub FromOpen : Released → Call → Client → Type 0
FromOpen s Closes (Closed p) = IsHandedBack s p
FromOpen s Crashes (Closed p) = IsLeft (Open s) p
FromOpen s (Declares n c answer) (Open new) = HasDeclared s n c answer new
FromOpen s (Resigns n answer) (Open new) = HasResigned s n answer new
FromOpen s (Signs n z answer) (Open new) = HasSigned s n z answer new
FromOpen s Commits (Open new) = HasCommitted s new
FromOpen s call after = ⊥

-- a step of this owner's client
abbrev pub IsStep : Owner → Client → Call → Client → Type 0
IsStep o (Closed p) call after = FromClosed o p call after
IsStep o (Open s) call after = FromOpen s call after

-- what is true of an open client at all times
abbrev pub IsSound : Client → Type 0
IsSound (Closed p) = Unit {0}
IsSound (Open s) = IsReleased s
