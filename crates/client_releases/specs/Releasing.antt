-- What a client's two devices go through in a call, in the ledger's and the journal's words.
use Rattle.std.specs.Prelude.{◌≡◌, ◌⊎◌, ℕ, List, [], ◌∷◌, ◌++◌, Some, None, false, slice_index_or, slice_set}
use Rattle.layout.specs.Types.{Bytes}
use Rattle.lms_sign.specs.Secret.{HasLeaf, Secret}
use Rattle.leaf_ledger.specs.Device.{History, HasRisen, Leaves, Throughout, at_rest, started}
use Rattle.leaf_ledger.specs.Ledger.{IsFileOf, IsLeastFree, LeafNumber, LedgerState, UsedWithOrWithout, with_mark}
use Rattle.leaf_ledger.specs.Life.{Call}
use Rattle.client_journal.specs.Life.{Appended, Nothing, Tried, Call as Step}
use Rattle.client_journal.specs.Records.{JournalFile, KeepsJournal, MayBeLeft, Record, Tells, TellsWithOrWithout}
use Rattle.client_journal.specs.declared.kind.Kind.TheVariants.{Certificate, Structure}
use Rattle.client_releases.specs.OwnKeys.{AreStill, OwnKey, ledgers_of, secrets_of}

abbrev pub cert_record : Bytes → Record
cert_record text = record { kind = Certificate; text = text }

abbrev pub structure_record : Bytes → Record
structure_record text = record { kind = Structure; text = text }

-- No leaf is left that can be used: none is free in the ledger, or the least free one can't sign.
abbrev pub IsUsedUp : Secret → LedgerState → Type 0
IsUsedUp secret ledger = (leaf : LeafNumber) → IsLeastFree ledger.file.now.text leaf → HasLeaf secret leaf → ⊥

-- two devices: the ledger's and the journal's
pub record Devices : Type 0 where
  pub ledger : LedgerState
  pub journal : JournalFile

-- a client's devices: the ledgers of its keys, the first key's first, and the journal
pub record OwnDevices : Type 0 where
  pub ledgers : List LedgerState
  pub journal : JournalFile

abbrev pub own_devices : List OwnKey → JournalFile → OwnDevices
own_devices own journal = record { ledgers = ledgers_of own; journal = journal }

-- what stands in the place of a ledger, or of what a key is made of, that isn't there
abbrev pub no_ledger : LedgerState
no_ledger = record { key = []; file = started []; faults = 0; outstanding = 0; usable = false }

abbrev pub no_secret : Secret
no_secret = record { seed = []; id = []; leaf_keys = [] }

abbrev pub ledger_at : ℕ → OwnDevices → LedgerState
ledger_at n own = slice_index_or own.ledgers n no_ledger

-- the ledger of a key among others, and what that is made of
abbrev pub ledger_in : ℕ → List OwnKey → LedgerState
ledger_in n own = slice_index_or (ledgers_of own) n no_ledger

abbrev pub secret_in : ℕ → List OwnKey → Secret
secret_in n own = slice_index_or (secrets_of own) n no_secret

-- the two devices under this key
abbrev pub under : ℕ → OwnDevices → Devices
under n own = record { ledger = ledger_at n own; journal = own.journal }

-- all ledgers but this key's are as before
abbrev pub OthersStay : ℕ → OwnDevices → OwnDevices → Type 0
OthersStay n old new = new.ledgers ≡ slice_set old.ledgers n (ledger_at n new)

-- At every moment from the old devices to the new ones a crash leaves the ledger of this key with the leaves used as
-- before or with this one, and the journal with the records of before or with this one; and so does a read at the end.
pub record AnyMoment (leaf : LeafNumber) (r : Record) (old new : Devices) : Type 0 where
  pub own_file : Throughout (IsFileOf old.ledger.key) old.ledger.file new.ledger.file
  pub leaves : Throughout (UsedWithOrWithout leaf old.ledger.file.now.text) old.ledger.file new.ledger.file
  pub leaves_read : UsedWithOrWithout leaf old.ledger.file.now.text new.ledger.file.now.text
  pub records : (rs : List Record) → Tells rs old.journal.file.now.text
      → Throughout (TellsWithOrWithout rs r) old.journal.file new.journal.file
  pub records_read : (rs : List Record) → Tells rs old.journal.file.now.text
      → TellsWithOrWithout rs r new.journal.file.now.text

-- A text was signed by this leaf and stands in the journal, for good: the ledger's file has the mark of the leaf, and
-- else is as it was; the journal has this record more. Both are steps of the files' lives.
pub record IsKept (leaf : LeafNumber) (r : Record) (old new : Devices) : Type 0 where
  pub least : IsLeastFree old.ledger.file.now.text leaf
  pub marked : new.ledger.file.now ≡ at_rest (with_mark leaf old.ledger.file.now.text)
  pub appended : (rs : List Record) → Tells rs old.journal.file.now.text
      → Tells (rs ++ r ∷ []) new.journal.file.now.text
  pub rests : new.journal.file.now ≡ at_rest new.journal.file.now.text
  pub taken : Call (Some leaf) old.ledger.file new.ledger.file
  pub added : Step (Appended r) old.journal.file new.journal.file

-- No text was released: no leaf was handed out, and no record added; or a leaf was, and its record was tried.
abbrev pub IsTried : (LeafNumber → Record) → Devices → Devices → Type 0
IsTried record_by old new =
    (Call None old.ledger.file new.ledger.file × Step Nothing old.journal.file new.journal.file)
    ⊎ ((leaf : LeafNumber) × IsLeastFree old.ledger.file.now.text leaf
    × Call (Some leaf) old.ledger.file new.ledger.file
    × Step (Tried (record_by leaf)) old.journal.file new.journal.file)

-- the count of faults of one of the devices rose, or stands at its last value
abbrev pub OneHasRisen : Devices → Devices → Type 0
OneHasRisen old new = HasRisen old.ledger.faults new.ledger.faults ⊎ HasRisen old.journal.faults new.journal.faults

-- At every moment while a client is opened, whether it is or not: a step of each ledger's life that hands out no leaf,
-- and one of the journal's that adds no record; files that are there are synced at most; and where each crash before
-- left what tells these records, each crash since does.
pub record IsOpening (old_ledgers : List History) (old_journal : History) (new_ledgers : List History)
    (new_journal : History) : Type 0 where
  pub ledgers : AreStill old_ledgers new_ledgers
  pub records : Step Nothing old_journal new_journal
  pub journal_kept : KeepsJournal old_journal new_journal
  pub left : Throughout (MayBeLeft old_journal) old_journal new_journal
  pub any_moment : (rs : List Record) → Tells rs old_journal.now.text → Leaves (Tells rs) old_journal.now
      → Throughout (Tells rs) old_journal new_journal
