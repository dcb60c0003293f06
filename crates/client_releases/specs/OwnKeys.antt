-- A client's keys, each with the ledger of its leaves: as they are opened together, and handed back.
use Rattle.std.specs.Prelude.{◌≡◌, ◌≢◌, ◌⊎◌, ◌≤◌, ℕ, List, [], ◌∷◌, map, None, true}
use Rattle.lms_sign.specs.Keys.{public_key_of}
use Rattle.lms_sign.specs.Secret.{Secret}
use Rattle.leaf_ledger.specs.Device.{HasRisen, History, at_rest}
use Rattle.leaf_ledger.specs.Ledger.{IsFileOf, IsForeign, KeepsLedger, LedgerState, UsedAsBefore}
use Rattle.leaf_ledger.specs.Life.{Call}
use Rattle.leaf_ledger.specs.declared.error.LedgerError.{LedgerError}
use Rattle.leaf_ledger.specs.declared.error.LedgerError.TheVariants as error

-- a key, and the device of its ledger: what that holds and held, and how often it has failed
pub record KeyFile : Type 0 where
  pub secret : Secret
  pub file : History
  pub faults : ℕ

-- a key, and its ledger
pub record OwnKey : Type 0 where
  pub secret : Secret
  pub ledger : LedgerState

-- what keys with devices are
abbrev pub key_files : {D : Type 0} → (D → History) → (D → ℕ) → List (Secret × D) → List KeyFile
key_files history faults keys = map (λ k. record { secret = k.0; file = history k.1; faults = faults k.1 }) keys

-- a key with its ledger's device
abbrev pub closed_key : OwnKey → KeyFile
closed_key own = record { secret = own.secret; file = own.ledger.file; faults = own.ledger.faults }

abbrev pub secrets_of : List OwnKey → List Secret
secrets_of own = map (λ k. k.secret) own

abbrev pub ledgers_of : List OwnKey → List LedgerState
ledgers_of own = map (λ k. k.ledger) own

-- no leaf of these is outstanding
abbrev pub AreSettled : List LedgerState → Type 0
AreSettled [] = Unit {0}
AreSettled (ledger ∷ ledgers) = (ledger.outstanding ≡ 0) × AreSettled ledgers

-- A step of a ledger's life that hands out no leaf; a file that is there is synced at most.
pub record IsStill (old new : History) : Type 0 where
  pub leaves : Call None old new
  pub kept : KeepsLedger old new

-- The ledger was opened, with the same leaves used as before.
pub record IsOpened (old : KeyFile) (new : LedgerState) : Type 0 where
  pub key : new.key ≡ public_key_of old.secret
  pub usable : new.usable ≡ true
  pub settled : new.outstanding ≡ 0
  pub rests : new.file.now ≡ at_rest new.file.now.text
  pub own_file : IsFileOf (public_key_of old.secret) new.file.now.text
  pub used : UsedAsBefore old.file.now.text new.file.now.text
  pub still : IsStill old.file new.file
  pub own : IsForeign (public_key_of old.secret) old.file.now.text → ⊥
  pub later : old.faults ≤ new.faults

-- The ledger was refused with this error.
pub record IsRefused (e : LedgerError) (old new : KeyFile) : Type 0 where
  pub secret : new.secret ≡ old.secret
  pub still : IsStill old.file new.file
  pub foreign : e ≡ error.Foreign → IsForeign (public_key_of old.secret) old.file.now.text
  pub device : e ≡ error.Device → HasRisen old.faults new.faults
  pub some : e ≢ error.NoLeaf
  pub later : old.faults ≤ new.faults

-- each ledger was opened, in their order
abbrev pub AreOpened : List KeyFile → List LedgerState → Type 0
AreOpened [] [] = Unit {0}
AreOpened (old ∷ olds) (new ∷ news) = IsOpened old new × AreOpened olds news
AreOpened [] (new ∷ news) = ⊥
AreOpened (old ∷ olds) [] = ⊥

-- One was refused with this error: those before it were opened, and closed again, and those after it weren't touched.
abbrev pub OneIsRefused : LedgerError → List KeyFile → List KeyFile → Type 0
OneIsRefused e (old ∷ olds) (new ∷ news) =
    (IsRefused e old new × (news ≡ olds))
    ⊎ ((ledger : LedgerState) × IsOpened old ledger
    × (new ≡ closed_key (record { secret = old.secret; ledger = ledger })) × OneIsRefused e olds news)
OneIsRefused e [] news = ⊥
OneIsRefused e (old ∷ olds) [] = ⊥

-- each ledger goes through such a step
abbrev pub AreStill : List History → List History → Type 0
AreStill [] [] = Unit {0}
AreStill (old ∷ olds) (new ∷ news) = IsStill old new × AreStill olds news
AreStill [] (new ∷ news) = ⊥
AreStill (old ∷ olds) [] = ⊥

-- a file is there that is no ledger of its key
abbrev pub OneIsForeign : List KeyFile → Type 0
OneIsForeign [] = ⊥
OneIsForeign (k ∷ keys) = IsForeign (public_key_of k.secret) k.file.now.text ⊎ OneIsForeign keys

-- one of these counts of faults rose, or stands at its last value
abbrev pub OneOfHasRisen : List ℕ → List ℕ → Type 0
OneOfHasRisen (old ∷ olds) (new ∷ news) = HasRisen old new ⊎ OneOfHasRisen olds news
OneOfHasRisen [] news = ⊥
OneOfHasRisen (old ∷ olds) [] = ⊥

-- and none fell
abbrev pub AreLater : List ℕ → List ℕ → Type 0
AreLater [] [] = Unit {0}
AreLater (old ∷ olds) (new ∷ news) = (old ≤ new) × AreLater olds news
AreLater [] (new ∷ news) = ⊥
AreLater (old ∷ olds) [] = ⊥
