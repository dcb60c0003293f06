-- The steps of one user's client: what each call of it may answer and leave, by its contract, and what a crash leaves.
--
-- A crash inside a call is a call whose device fails, and then a crash: whatever part of the call was done by then is
-- one that a device may have done that fails there.
use Rattle.std.specs.Prelude.{◌≡◌, ◌≢◌, ◌⊎◌, ◌↔◌, ℕ, ◌<◌, ◌≤◌, List, [], ◌∷◌, ◌++◌, length, map, take, Option, Some, None, IfOk, IfErr, IsErrOf, IfSome, IsSome, IsSomeAnd, OnOk, OnErr, Result, Ok, Err, true, IsOk}
use Rattle.layout.specs.Format.{IsBytes}
use Rattle.layout.specs.Ranges.{last_version}
use Rattle.layout.specs.Types.{Bytes, Digest, Key, Principal, User}
use Rattle.lms_sign.specs.Secret.{Secret}
use Rattle.leaf_ledger.specs.Device.{HasRisen, History, started}
use Rattle.leaf_ledger.specs.Ledger.{IsLeastFree, LeafNumber}
use Rattle.client_journal.specs.Records.{IsDamaged}
use Rattle.version_order.specs.Structure.{structure}
use Rattle.update_cert.specs.Change.{Change}
use Rattle.update_cert.specs.Cert.{cert}
use Rattle.update_cert.specs.declared.cert.TheConstants.{MOST_CHANGES}
use Rattle.checked_blocks.specs.CheckedBlocks.{LetsGo, known_blocks, most_cached}
use Rattle.client_tree.specs.declared.questions.Question.{Question}
use Rattle.client_tree.specs.declared.questions.Question.TheVariants as question
use Rattle.reply_rules.specs.declared.rule.Rule.TheVariants as rule
use Rattle.wire.specs.declared.kinds.Status.{Status}
use Rattle.client_releases.specs.declared.error.ClientError.{ClientError}
use Rattle.client_releases.specs.declared.error.ClientError.TheVariants as error
use Rattle.client_releases.specs.declared.phase.Phase.TheVariants as phase
use Rattle.release_runs.specs.Crashes.{AreLeft, IsLeftOf}
use Rattle.client_releases.specs.OwnKeys.{AreLater, AreOpened, KeyFile, OneIsForeign, OneOfHasRisen}
use Rattle.client_releases.specs.Releasing.{AnyMoment, IsKept, IsOpening, IsTried, OneHasRisen, OthersStay, cert_record}
use Rattle.client_releases.specs.Releasing.{ledger_at, structure_record, under}
use Rattle.client_releases.specs.Told.{HasKey, IsKeyUsedUp, IsReleased, IsToldBy, TellsOfOther}
use Rattle.client_verify.specs.declared.look.Look.{Look}
use Rattle.client_verify.specs.declared.step.Step.{Step}
use Rattle.client_verify.specs.Laid.{are_laid}
use Rattle.client_verify.specs.State.{AreReplies, State, asked_of, committed, declared, declared_text, failed, newest_key, next_cert, next_structure, on, opened, over, released, resigned, resigned_text, signed_over, signed_text, signer_of, signing_key}
use Rattle.reply_check.specs.AskedBlock.{block_breaks}
use Rattle.client_verify.specs.Holding.{HoldsAfter, LaysOut, LookHoldsAfter, with_cache}
use Rattle.client_verify.specs.Judged.{Handed, Judged}
use Rattle.client_verify.specs.Looked.{Given, Looked}

-- ---- clients

-- a device as its callers see it
pub record Device : Type 0 where
  pub history : History
  pub faults : ℕ

-- what a client is opened over, and hands back: the devices of its keys' ledgers, the first key's first, and that of
-- the journal
pub record Parts : Type 0 where
  pub ledgers : List Device
  pub journal : Device

-- the client of a user: its parts, while it is closed; or its state
pub data Client : Type 0 where
  Closed : Parts → Client
  Open : State → Client

-- a device that holds nothing yet
abbrev pub empty : Device
empty = record { history = started []; faults = 0 }

-- before anything happens: one ledger, and devices that hold nothing
abbrev pub first : Client
first = Closed (record { ledgers = empty ∷ []; journal = empty })

-- what devices hold and held, and how often each has failed
abbrev pub files_of : List Device → List History
files_of devices = map (λ d. d.history) devices

abbrev pub faults_of : List Device → List ℕ
faults_of devices = map (λ d. d.faults) devices

-- the files of the ledgers, and that of the journal
abbrev pub ledgers_of : Client → List History
ledgers_of (Closed p) = files_of p.ledgers
ledgers_of (Open s) = map (λ l. l.file) s.devices.ledgers

abbrev pub journal_of : Client → History
journal_of (Closed p) = p.journal.history
journal_of (Open s) = s.devices.journal.file

-- of keys with the devices of their ledgers: what each key is made of, and the devices
abbrev pub secrets_in : {D : Type 0} → List (Secret × D) → List Secret
secrets_in keys = map (λ k. k.0) keys

abbrev pub ledgers_in : {D : Type 0} → (D → History) → (D → ℕ) → List (Secret × D) → List Device
ledgers_in history faults keys = map (λ k. record { history = history k.1; faults = faults k.1 }) keys

-- the client that is closed, over these devices
abbrev pub closed_over : List Device → Device → Client
closed_over ledgers journal = Closed (record { ledgers = ledgers; journal = journal })

-- whose client it is: the user, what all keys are made of that it may have, the first key first, and user 0's public key
pub record Owner : Type 0 where
  pub user : User
  pub secrets : List Secret
  pub pinned : Key

-- It is this user's with this public key of user 0, and its first keys are made of these.
pub record HasFirst (user : User) (pinned : Key) (secrets : List Secret) (o : Owner) : Type 0 where
  pub user_is : o.user ≡ user
  pub pinned_is : o.pinned ≡ pinned
  pub first : take (length secrets) o.secrets ≡ secrets

-- the first keys with the devices of their ledgers, as many as there are
abbrev pub own_files : List Secret → List Device → List KeyFile
own_files [] devices = []
own_files (secret ∷ secrets) [] = []
own_files (secret ∷ secrets) (d ∷ devices) =
    record { secret = secret; file = d.history; faults = d.faults } ∷ own_files secrets devices

-- what a client asks for, and what it sees, wherever that lies in memory
abbrev pub Asks : Type 0
Asks = Step (Unit {0})

abbrev pub Sees : Type 0
Sees = Look (Unit {0})

-- a call with its arguments and its answer, a ledger more for a client that is closed, or a crash
pub data Call : Type 0 where
  Opens : Result (Unit {0}) ClientError → Call
  Closes : Call
  Gains : Call
  Begins : List (Change Digest) → List Bytes → Result Bytes ClientError → Call
  Resigns : ℕ → Result Bytes ClientError → Call
  Hears : Bytes → Result Asks ClientError → Call
  Takes : Option Bytes → Result Asks ClientError → Call
  Signs : Result Bytes ClientError → Call
  Commits : Status → Call
  Looks : Question → Result Sees ClientError → Call
  Gives : Option Bytes → Result Sees ClientError → Call
  Caches : ℕ → Call
  Crashes : Call

-- ---- what each call may leave

-- Opened are the ledgers of the first keys, as many as there are.
pub record IsOpened (o : Owner) (p : Parts) (new : State) : Type 0 where
  pub state : new ≡ opened o.pinned (released new)
  pub user : new.user ≡ o.user
  pub secrets : new.secrets ≡ take (length p.ledgers) o.secrets
  pub told : IsToldBy p.journal.history.now.text (released new)
  pub ledgers : AreOpened (own_files o.secrets p.ledgers) new.devices.ledgers
  pub moments : IsOpening (files_of p.ledgers) p.journal.history (map (λ l. l.file) new.devices.ledgers)
      new.devices.journal.file
  pub journal_later : p.journal.faults ≤ new.devices.journal.faults

pub record IsRefused (o : Owner) (p : Parts) (e : ClientError) (new : Parts) : Type 0 where
  pub moments : IsOpening (files_of p.ledgers) p.journal.history (files_of new.ledgers) new.journal.history
  pub foreign : e ≡ error.Foreign → OneIsForeign (own_files o.secrets p.ledgers)
  pub damaged : e ≡ error.Damaged → IsDamaged p.journal.history.now.text
      ⊎ TellsOfOther o.user p.journal.history.now.text
  pub device : e ≡ error.Device → OneOfHasRisen (faults_of p.ledgers) (faults_of new.ledgers)
      ⊎ HasRisen p.journal.faults new.journal.faults
  pub leaves : e ≢ error.NoLeaf
  pub numbers : e ≢ error.NoNumber
  pub keys : e ≢ error.NoKey
  pub ledgers_later : AreLater (faults_of p.ledgers) (faults_of new.ledgers)
  pub journal_later : p.journal.faults ≤ new.journal.faults

pub record IsHandedBack (s : State) (p : Parts) : Type 0 where
  pub ledgers : files_of p.ledgers ≡ map (λ l. l.file) s.devices.ledgers
  pub journal : p.journal.history ≡ s.devices.journal.file
  pub ledger_faults : faults_of p.ledgers ≡ map (λ l. l.faults) s.devices.ledgers
  pub journal_faults : p.journal.faults ≡ s.devices.journal.faults

-- A ledger more that holds nothing, for the next key.
pub record HasGained (o : Owner) (p new : Parts) : Type 0 where
  pub fewer : length p.ledgers < length o.secrets
  pub ledgers : new.ledgers ≡ p.ledgers ++ empty ∷ []
  pub journal : new.journal ≡ p.journal

pub record HasBegun (s : State) (changes : List (Change Digest)) (laid : List Bytes) (answer : Result Bytes ClientError)
    (new : State) : Type 0 where
  pub idle : s.phase ≡ phase.Idle
  pub few : length changes ≤ MOST_CHANGES
  pub were_laid : are_laid laid changes ≡ true
  pub declared : OnOk answer ((leaf : LeafNumber)
      × IsKept leaf (cert_record (declared_text s leaf changes)) (under (newest_key s) s.devices)
      (under (newest_key s) new.devices)
      × (new ≡ over new.blocks (on new.devices (declared s leaf changes))))
  pub kept : OnOk answer (LaysOut s laid new.blocks)
  pub text : IfOk answer (λ text. text ≡ new.text)
  pub fits : OnOk answer (cert.Fits (next_cert s changes))
  pub any_moment : (leaf : LeafNumber) → IsLeastFree (ledger_at (newest_key s) s.devices).file.now.text leaf
      → AnyMoment leaf (cert_record (declared_text s leaf changes)) (under (newest_key s) s.devices)
      (under (newest_key s) new.devices)
  pub tried : OnErr answer (IsTried (λ leaf. cert_record (declared_text s leaf changes))
      (under (newest_key s) s.devices) (under (newest_key s) new.devices))
  pub no_leaf : IsErrOf answer error.NoLeaf ↔ IsKeyUsedUp (newest_key s) (released s)
  pub no_number : IsErrOf answer error.NoNumber
      ↔ ((s.number ≡ last_version) × (IsKeyUsedUp (newest_key s) (released s) → ⊥))
  pub rose : IsErrOf answer error.Device → OneHasRisen (under (newest_key s) s.devices)
      (under (newest_key s) new.devices)
  pub others : OthersStay (newest_key s) s.devices new.devices
  pub fails : IsErrOf answer error.Device → new ≡ over new.blocks (on new.devices (failed s))
  pub kept_device : IsErrOf answer error.Device → LaysOut s laid new.blocks
  pub fits_device : IsErrOf answer error.Device → cert.Fits (next_cert s changes)
  pub only : IfErr answer (λ e. (e ≢ error.Foreign) × (e ≢ error.Damaged) × (e ≢ error.NoKey))
  pub err : IfErr answer (λ e. e ≢ error.Device → new ≡ s)

-- The certificate that is declared was signed once more, by this key.
pub record HasResigned (s : State) (n : ℕ) (answer : Result Bytes ClientError) (new : State) : Type 0 where
  pub declared : s.phase ≡ phase.Declared
  pub has : HasKey n (released s)
  pub resigned : OnOk answer ((leaf : LeafNumber)
      × IsKept leaf (cert_record (resigned_text s n leaf)) (under n s.devices) (under n new.devices)
      × (new ≡ on new.devices (resigned s n leaf)))
  pub text : IfOk answer (λ text. text ≡ new.text)
  pub any_moment : (leaf : LeafNumber) → IsLeastFree (ledger_at n s.devices).file.now.text leaf
      → AnyMoment leaf (cert_record (resigned_text s n leaf)) (under n s.devices) (under n new.devices)
  pub tried : OnErr answer (IsTried (λ leaf. cert_record (resigned_text s n leaf)) (under n s.devices)
      (under n new.devices))
  pub no_leaf : IsErrOf answer error.NoLeaf ↔ IsKeyUsedUp n (released s)
  pub rose : IsErrOf answer error.Device → OneHasRisen (under n s.devices) (under n new.devices)
  pub others : OthersStay n s.devices new.devices
  pub fails : IsErrOf answer error.Device → new ≡ on new.devices (failed s)
  pub only : IfErr answer (λ e. (e ≢ error.NoNumber) × (e ≢ error.Foreign) × (e ≢ error.Damaged) × (e ≢ error.NoKey))
  pub err : IfErr answer (λ e. e ≢ error.Device → new ≡ s)

pub record HasHeard (s : State) (text : Bytes) (answer : Result Asks ClientError) (new : State) : Type 0 where
  pub declared : s.phase ≡ phase.Declared
  pub bytes : IsBytes text
  pub judged : IfOk answer (λ step. Judged s text step new)
  pub held : IfOk answer (λ step. HoldsAfter s None step new)
  pub only_memory : IfErr answer (λ e. e ≡ error.Memory)
  pub err : OnErr answer (new ≡ s)

pub record HasTaken (s : State) (block : Option Bytes) (answer : Result Asks ClientError) (new : State) : Type 0 where
  pub wants : IsSome s.checked
  pub bytes : IfSome block IsBytes
  pub handed : IfSome s.checked (λ k. IfOk answer (λ step. Handed s k block step new))
  pub held : IfOk answer (λ step. HoldsAfter s block step new)
  pub told : IfSome s.checked (λ k. block_breaks (known_blocks s.blocks) (asked_of k) block ≡ Some rule.Block
      → IsOk answer)
  pub only_memory : IfErr answer (λ e. e ≡ error.Memory)
  pub err : OnErr answer (new ≡ s)

pub record HasSigned (s : State) (answer : Result Bytes ClientError) (new : State) : Type 0 where
  pub ready : IsSome s.accepted
  pub signed : OnOk answer (IfSome s.accepted (λ r. (leaf : LeafNumber)
      × IsKept leaf (structure_record (signed_text s leaf r)) (under (signing_key s r) s.devices)
      (under (signing_key s r) new.devices)
      × (new ≡ over new.blocks (on new.devices (signed_over s leaf r)))))
  pub gone : OnOk answer (LetsGo s.blocks new.blocks)
  pub text : IfOk answer (λ text. text ≡ new.text)
  pub fits : OnOk answer (IfSome s.accepted (λ r. structure.Fits (next_structure s r)))
  pub any_moment : IfSome s.accepted (λ r. HasKey (signing_key s r) (released s)
      → (leaf : LeafNumber) → IsLeastFree (ledger_at (signing_key s r) s.devices).file.now.text leaf
      → AnyMoment leaf (structure_record (signed_text s leaf r)) (under (signing_key s r) s.devices)
      (under (signing_key s r) new.devices))
  pub tried : IfSome s.accepted (λ r.
      OnErr answer (IsTried (λ leaf. structure_record (signed_text s leaf r)) (under (signing_key s r) s.devices)
      (under (signing_key s r) new.devices)))
  pub no_key : IfSome s.accepted (λ r. IsErrOf answer error.NoKey ↔ (signer_of s r ≡ None))
  pub no_leaf : IfSome s.accepted (λ r. IsErrOf answer error.NoLeaf
      ↔ HasKey (signing_key s r) (released s) × IsKeyUsedUp (signing_key s r) (released s))
  pub own : IfSome s.accepted (λ r. IsErrOf answer error.NoKey ⊎ HasKey (signing_key s r) (released s))
  pub rose : IfSome s.accepted (λ r. IsErrOf answer error.Device → OneHasRisen (under (signing_key s r) s.devices)
      (under (signing_key s r) new.devices))
  pub others : IfSome s.accepted (λ r. OthersStay (signing_key s r) s.devices new.devices)
  pub fails : IsErrOf answer error.Device → new ≡ on new.devices (failed s)
  pub fits_device : IsErrOf answer error.Device → IfSome s.accepted (λ r. structure.Fits (next_structure s r))
  pub only : IfErr answer (λ e. (e ≢ error.NoNumber) × (e ≢ error.Foreign) × (e ≢ error.Damaged))
  pub err : IfErr answer (λ e. e ≢ error.Device → new ≡ s)

pub record HasCommitted (s : State) (status : Status) (new : State) : Type 0 where
  pub signed : s.phase ≡ phase.Signed
  pub state : new ≡ committed status s

-- whose part of the tree a question is about
abbrev pub principal_of : Question → Principal
principal_of (question.At p i) = p
principal_of (question.Kind p i) = p
principal_of (question.Free p first last) = p

pub record HasLooked (s : State) (q : Question) (answer : Result Sees ClientError) (new : State) : Type 0 where
  pub principal : principal_of q < 96
  pub sees : IsSome s.view
  pub looked : IfSome s.view (λ v. IfOk answer (λ look. Looked s v q look new))
  pub held : IfOk answer (λ look. LookHoldsAfter s None look new)
  pub only_memory : IfErr answer (λ e. e ≡ error.Memory)
  pub err : OnErr answer (new ≡ s)

pub record HasGiven (s : State) (block : Option Bytes) (answer : Result Sees ClientError) (new : State) : Type 0 where
  pub looks : IsSomeAnd s.view (λ v. IsSome v.looking)
  pub bytes : IfSome block IsBytes
  pub given : IfSome s.view (λ v. IfSome v.looking (λ l. IfOk answer (λ look. Given s v l block look new)))
  pub held : IfOk answer (λ look. LookHoldsAfter s block look new)
  pub told : IfSome s.view (λ v. IfSome v.looking (λ l.
      block_breaks (known_blocks s.blocks) l.asked block ≡ Some rule.Block → IsOk answer))
  pub only_memory : IfErr answer (λ e. e ≡ error.Memory)
  pub err : OnErr answer (new ≡ s)

pub record HasCached (s : State) (capacity : ℕ) (new : State) : Type 0 where
  pub some : 0 < capacity
  pub fits : capacity ≤ most_cached
  pub state : new ≡ with_cache capacity s

-- what a crash leaves on all devices; whoever finds it counts their faults anew
pub record IsLeft (before : Client) (p : Parts) : Type 0 where
  pub ledgers : AreLeft (ledgers_of before) (files_of p.ledgers)
  pub journal : IsLeftOf (journal_of before) p.journal.history

-- ---- steps

-- what comes of a closed client
abbrev pub FromClosed : Owner → Parts → Call → Client → Type 0
FromClosed o p (Opens (Ok x)) (Open s) = IsOpened o p s
FromClosed o p (Opens (Err e)) (Closed q) = IsRefused o p e q
FromClosed o p Gains (Closed q) = HasGained o p q
FromClosed o p Crashes (Closed q) = IsLeft (Closed p) q
FromClosed o p call after = ⊥

-- what comes of an open one
abbrev pub FromOpen : State → Call → Client → Type 0
FromOpen s Closes (Closed p) = IsHandedBack s p
FromOpen s Crashes (Closed p) = IsLeft (Open s) p
FromOpen s (Begins changes laid answer) (Open new) = HasBegun s changes laid answer new
FromOpen s (Resigns n answer) (Open new) = HasResigned s n answer new
FromOpen s (Hears text answer) (Open new) = HasHeard s text answer new
FromOpen s (Takes block answer) (Open new) = HasTaken s block answer new
FromOpen s (Signs answer) (Open new) = HasSigned s answer new
FromOpen s (Commits status) (Open new) = HasCommitted s status new
FromOpen s (Looks q answer) (Open new) = HasLooked s q answer new
FromOpen s (Gives block answer) (Open new) = HasGiven s block answer new
FromOpen s (Caches capacity) (Open new) = HasCached s capacity new
FromOpen s call after = ⊥

-- a step of this owner's client
abbrev pub IsStep : Owner → Client → Call → Client → Type 0
IsStep o (Closed p) call after = FromClosed o p call after
IsStep o (Open s) call after = FromOpen s call after

-- what is true of an open client at all times
abbrev pub IsSound : Client → Type 0
IsSound (Closed p) = Unit {0}
IsSound (Open s) = IsReleased (released s) × AreReplies (released s) s.checked s.accepted

-- ---- steps in turn

-- a step that was taken: the call with its answer, and the client after it
pub record StepTaken : Type 0 where
  pub call : Call
  pub after : Client

-- these steps of this owner's client, the first first, lead from the one client to the other
abbrev pub AreSteps : Owner → Client → List StepTaken → Client → Type 0
AreSteps o before [] after = after ≡ before
AreSteps o before (s ∷ later) after = IsStep o before s.call s.after × IsSound s.after × AreSteps o s.after later after
