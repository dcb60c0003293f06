-- What both devices went through where a text was signed and put into the journal, or that was tried.
use Rattle.std.proofs.Common.{◌≡◌, ℕ, ◌+◌, ◌<◌, List, [], ◌∷◌, ◌++◌, length, Some, None, inl, inr, refl, subst, ap, arith, length-append}
use Rattle.leaf_ledger.specs.Device.{History, Throughout, at_rest}
use Rattle.leaf_ledger.specs.Ledger.{IsFileOf, IsLeastFree, LeafNumber, LedgerState, UsedWith, UsedWithOrWithout, with_mark}
use Rattle.leaf_ledger.specs.Life.{Call}
use Rattle.leaf_ledger.specs.declared.error.LedgerError.{LedgerError}
use Rattle.leaf_ledger.specs.declared.error.LedgerError.TheVariants as ledger
use Rattle.client_journal.proofs.Lives.{no_call as no_step}
use Rattle.client_journal.specs.Life.{Appended, Tried, Call as Step}
use Rattle.client_journal.specs.declared.kind.Kind.{Kind}
use Rattle.client_journal.specs.Records.{JournalFile, Record, Tells, TellsWithOrWithout}
use Rattle.client_releases.specs.Releasing.{AnyMoment, IsKept, IsTried}
use Rattle.client_releases.proofs.Untouched.{records_still, of_least}

-- a record
abbrev pub entry : Kind → List ℕ → Record
entry kind text = record { kind = kind; text = text }

-- a text with its signature is short
pub short_with : (text unsigned signature : List ℕ) → text ≡ unsigned ++ signature → length signature ≡ 2508 → length unsigned + 2508 < 4294967296 → length text < 4294967296
short_with text unsigned signature all size short = omega (arith, ap length all, length-append unsigned signature, size, short)

-- the device of the ledger failed
pub not_taken : (leaf : LeafNumber) (r : Record) (old new : LedgerState) (j : JournalFile) → j.file.now ≡ at_rest j.file.now.text → Throughout (IsFileOf old.key) old.file new.file
    → Throughout (UsedWithOrWithout leaf old.file.now.text) old.file new.file → UsedWithOrWithout leaf old.file.now.text new.file.now.text
    → AnyMoment leaf r (record { ledger = old; journal = j }) (record { ledger = new; journal = j })
not_taken leaf r old new j rest own leaves read = record {
  own_file = own;
  leaves = leaves;
  leaves_read = read;
  records = records_still r j.file rest;
  records_read = λ rs tells. inl tells;
}

pub not_tried : (record_by : LeafNumber → Record) (old new : LedgerState) (j : JournalFile) → Call None old.file new.file
    → IsTried record_by (record { ledger = old; journal = j }) (record { ledger = new; journal = j })
not_tried record_by old new j call = inl (call, no_step j.file)

-- A leaf was taken, and settled, which leaves the file as it is.
module _ (record_by : LeafNumber → Record) (old new : LedgerState) (before after : JournalFile) (h : History) (same : h ≡ new.file) (leaf : LeafNumber) (least : IsLeastFree old.file.now.text leaf)
    (added : Record) (is : added ≡ record_by leaf) (own : Throughout (IsFileOf old.key) old.file h)
    (leaves : (k : LeafNumber) → IsLeastFree old.file.now.text k → Throughout (UsedWithOrWithout k old.file.now.text) old.file h) (used : UsedWith leaf old.file.now.text h.now.text)
    (records : (rs : List Record) → Tells rs before.file.now.text → Throughout (TellsWithOrWithout rs added) before.file after.file)
    (reads : (rs : List Record) → Tells rs before.file.now.text → TellsWithOrWithout rs added after.file.now.text) where
  this : AnyMoment leaf (record_by leaf) (record { ledger = old; journal = before }) (record { ledger = new; journal = after })
  this = record {
    own_file = subst (λ (x : History). Throughout (IsFileOf old.key) old.file x) same own;
    leaves = subst (λ (x : History). Throughout (UsedWithOrWithout leaf old.file.now.text) old.file x) same (leaves leaf least);
    leaves_read = subst (λ (x : History). UsedWithOrWithout leaf old.file.now.text x.now.text) same (inr used);
    records = subst (λ (r : Record). (rs : List Record) → Tells rs before.file.now.text → Throughout (TellsWithOrWithout rs r) before.file after.file) is records;
    records_read = subst (λ (r : Record). (rs : List Record) → Tells rs before.file.now.text → TellsWithOrWithout rs r after.file.now.text) is reads;
  }

  pub taken : (any : LeafNumber) → IsLeastFree old.file.now.text any → AnyMoment any (record_by any) (record { ledger = old; journal = before }) (record { ledger = new; journal = after })
  taken = of_least record_by (record { ledger = old; journal = before }) (record { ledger = new; journal = after }) leaf least this

-- its record was tried
pub tried_one : (record_by : LeafNumber → Record) (old new : LedgerState) (before after : JournalFile) (h : History) → h ≡ new.file → (leaf : LeafNumber) → IsLeastFree old.file.now.text leaf
    → (added : Record) → added ≡ record_by leaf → Call (Some leaf) old.file h → Step (Tried added) before.file after.file
    → IsTried record_by (record { ledger = old; journal = before }) (record { ledger = new; journal = after })
tried_one record_by old new before after h same leaf least added is call step = inr (
  leaf,
  least,
  subst (λ (x : History). Call (Some leaf) old.file x) same call,
  subst (λ (r : Record). Step (Tried r) before.file after.file) is step,
)

-- its record was appended
pub kept_now : (old new : LedgerState) (before after : JournalFile) (h : History) → h ≡ new.file → (leaf : LeafNumber) → IsLeastFree old.file.now.text leaf
    → (added r : Record) → added ≡ r → h.now ≡ at_rest (with_mark leaf old.file.now.text) → Call (Some leaf) old.file h
    → ((rs : List Record) → Tells rs before.file.now.text → Tells (rs ++ added ∷ []) after.file.now.text) → after.file.now ≡ at_rest after.file.now.text → Step (Appended added) before.file after.file
    → IsKept leaf r (record { ledger = old; journal = before }) (record { ledger = new; journal = after })
kept_now old new before after h same leaf least added r is marked call appended rests step = record {
  least = least;
  marked = subst (λ (x : History). x.now ≡ at_rest (with_mark leaf old.file.now.text)) same marked;
  appended = subst (λ (x : Record). (rs : List Record) → Tells rs before.file.now.text → Tells (rs ++ x ∷ []) after.file.now.text) is appended;
  rests = rests;
  taken = subst (λ (x : History). Call (Some leaf) old.file x) same call;
  added = subst (λ (x : Record). Step (Appended x) before.file after.file) is step;
}

-- where a leaf is free and the file is this key's, the device failed
pub device_only : (e : LedgerError) → (e ≡ ledger.NoLeaf → ⊥) → (e ≡ ledger.Foreign → ⊥) → e ≡ ledger.Device
device_only ledger.NoLeaf none foreign = absurd (none refl)
device_only ledger.Device none foreign = refl
device_only ledger.Foreign none foreign = absurd (foreign refl)
