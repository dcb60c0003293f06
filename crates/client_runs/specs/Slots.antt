-- Users' clients in memory: for private contracts. Nobody has to believe this file.
use Rattle.std.specs.Prelude.{◌≡◌, ◌<◌, ℕ, List, length, map, slice_index_or, take}
use Rattle.layout.specs.Types.{Bytes, Key}
use Rattle.lms_sign.specs.Secret.{Secret}
use Rattle.leaf_ledger.specs.Device.{History, started}
use Rattle.client_releases.specs.declared.parts.Parts.{Parts as Held}
use Rattle.client_verify.specs.State.{State}
use Rattle.client_runs.specs.declared.slot.Slot.{Slot}
use Rattle.client_runs.specs.declared.slot.Slot.TheVariants as slot
use Rattle.client_runs.specs.declared.world.Act.{Act}
use Rattle.client_runs.specs.declared.world.Act.TheVariants as act
use Rattle.client_runs.specs.declared.world.Answer.{Answer}
use Rattle.client_steps.specs.Steps.{Client, Closed, Device, IsSound, Open, Owner, Parts, files_of, first, ledgers_in, secrets_in}
use Rattle.client_runs.specs.Runs.{owner, pinned as pinned_key}
use Rattle.client_runs.specs.Carried.{ComesOf, script_keys}

-- the devices of a closed client in memory, and the files of its ledgers
abbrev pub files_in : List (Secret × Device) → List History
files_in keys = files_of (ledgers_in (λ d. d.history) (λ d. d.faults) keys)

abbrev pub parts_in : {A : Type 0} → Held Device Device A → Parts
parts_in p = record { ledgers = ledgers_in (λ d. d.history) (λ d. d.faults) p.keys.items; journal = p.journal }

-- the client in memory
abbrev pub client_in : {A : Type 0} → Slot A → Client
client_in slot.Unmade = first
client_in (slot.Closed p) = Closed (parts_in p)
client_in (slot.Open s) = Open s

-- these are made of some of the first of those, at least of one
abbrev pub AreFirst : List Secret → List Secret → Type 0
AreFirst some all = (0 < length some) × (take (length some) all ≡ some)

-- it has this owner's first keys
abbrev pub IsOf : {A : Type 0} → Owner → Slot A → Type 0
IsOf o slot.Unmade = Unit {0}
IsOf o (slot.Closed p) = AreFirst (secrets_in p.keys.items) o.secrets
IsOf o (slot.Open s) = AreFirst s.secrets o.secrets

-- it is closed, with these keys, and with these texts on its devices and nothing else
abbrev pub IsLeftWith : {A : Type 0} → List Bytes → Bytes → List Secret → Slot A → Type 0
IsLeftWith ledgers journal secrets (slot.Closed p) = (files_in p.keys.items ≡ map started ledgers)
    × (p.journal.history ≡ started journal) × (secrets_in p.keys.items ≡ secrets)
IsLeftWith ledgers journal secrets other = ⊥

-- the client of the same keys
abbrev pub AreSame : State → State → Type 0
AreSame old new = new.secrets ≡ old.secrets

-- what neither closes an open client nor lets it crash
abbrev pub StaysOpen : {A : Type 0} → Act A → Type 0
StaysOpen act.Close = ⊥
StaysOpen (act.Crash ledgers journal) = ⊥
StaysOpen other = Unit {0}

-- what is told of such a step of an open client, whoever's it is, where it is sound after it
abbrev pub Tells : {A : Type 0} → State → Act A → Answer A → State → Type 0
Tells old todo answer new = (o : Owner) → IsSound (Open new) → ComesOf o (Open old) todo answer (Open new)

-- the clients of a table of slots
abbrev pub clients_in : {A : Type 0} → List (Slot A) → List Client
clients_in slots = map client_in slots

abbrev pub AreOwn : {A : Type 0} → List (Slot A) → Type 0
AreOwn slots = (u : ℕ) → IsOf (owner script_keys u) (slice_index_or slots u slot.Unmade)

-- the clients of all users, each of its user, which know user 0's public key
pub record AreReady {A : Type 0} (pinned : Key) (slots : List (Slot A)) : Type 0 where
  pub pinned_is : pinned ≡ pinned_key script_keys
  pub size : length slots ≡ 64
  pub own : AreOwn slots
