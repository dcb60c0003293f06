-- Opening both devices, and what the journal tells then.
use Rattle.std.proofs.Common.{◌≡◌, ◌≢◌, ◌⊎◌, ◌<◌, ◌≤◌, arith, ℕ, List, length, map, get_or, ap, Option, Some, true, refl, sym, subst, inl, inr}
use Rattle.std.proofs.lemmas.List.{length-map}
use Rattle.lms_sign.specs.Secret.{Secret}
use Rattle.leaf_ledger.specs.Device.{HasRisen, History, Leaves, Throughout, at_rest, last_count}
use Rattle.leaf_ledger.specs.Ledger.{LedgerState}
use Rattle.leaf_ledger.specs.Moments.{stayed}
use Rattle.leaf_ledger.specs.declared.error.LedgerError.{LedgerError}
use Rattle.leaf_ledger.specs.declared.error.LedgerError.TheVariants as ledger
use Rattle.client_journal.proofs.Chains.{one_telling}
use Rattle.client_journal.proofs.Lives.{no_call as no_step}
use Rattle.client_journal.specs.Life.{Nothing, Call as Step}
use Rattle.client_journal.specs.Records.{JournalFile, KeepsJournal, MayBeLeft, Record, State as Recorded, Tells, TellsState}
use Rattle.client_journal.specs.declared.error.JournalError.{JournalError}
use Rattle.client_journal.specs.declared.error.JournalError.TheVariants as journal
use Rattle.version_order.specs.Structure.{Structure}
use Rattle.pending_list.specs.declared.signed.Signed.{Signed}
use Rattle.client_releases.specs.declared.error.ClientError.{ClientError}
use Rattle.client_releases.specs.declared.error.ClientError.TheVariants as client
use Rattle.client_releases.specs.declared.phase.Phase.{Phase}
use Rattle.client_releases.specs.Errors.{of_journal, of_ledger}
use Rattle.client_releases.specs.OwnKeys.{AreOpened, AreStill, KeyFile}
use Rattle.client_releases.specs.Releasing.{IsOpening, no_ledger, no_secret}
use Rattle.client_releases.proofs.OwnKeys.{OpenedAs, as_many_opened, each_opened, untouched_files}
use Rattle.client_releases.specs.Told.{IsReleased, TellsOfOther, told_by}

-- ---- errors

pub ledger_foreign : (x : LedgerError) → of_ledger x ≡ client.Foreign → x ≡ ledger.Foreign
ledger_foreign ledger.NoLeaf is = absurd (cc is)
ledger_foreign ledger.Device is = absurd (cc is)
ledger_foreign ledger.Foreign is = refl

pub ledger_device : (x : LedgerError) → of_ledger x ≡ client.Device → x ≡ ledger.Device
ledger_device ledger.NoLeaf is = absurd (cc is)
ledger_device ledger.Device is = refl
ledger_device ledger.Foreign is = absurd (cc is)

pub ledger_undamaged : (x : LedgerError) → of_ledger x ≡ client.Damaged → ⊥
ledger_undamaged ledger.NoLeaf is = cc is
ledger_undamaged ledger.Device is = cc is
ledger_undamaged ledger.Foreign is = cc is

pub ledger_only : (x : LedgerError) → x ≢ ledger.NoLeaf → (of_ledger x ≡ client.Device) ⊎ ((of_ledger x ≡ client.Foreign) ⊎ (of_ledger x ≡ client.Damaged))
ledger_only ledger.NoLeaf some = absurd (some refl)
ledger_only ledger.Device some = inl refl
ledger_only ledger.Foreign some = inr (inl refl)

pub journal_damaged : (x : JournalError) → of_journal x ≡ client.Damaged → x ≡ journal.Damaged
journal_damaged journal.Device is = absurd (cc is)
journal_damaged journal.Memory is = absurd (cc is)
journal_damaged journal.Damaged is = refl

pub journal_device : (x : JournalError) → of_journal x ≡ client.Device → x ≡ journal.Device
journal_device journal.Device is = refl
journal_device journal.Memory is = absurd (cc is)
journal_device journal.Damaged is = absurd (cc is)

pub journal_own : (x : JournalError) → of_journal x ≡ client.Foreign → ⊥
journal_own journal.Device is = cc is
journal_own journal.Memory is = cc is
journal_own journal.Damaged is = cc is

pub journal_only : (x : JournalError) → x ≢ journal.Memory → (of_journal x ≡ client.Device) ⊎ ((of_journal x ≡ client.Foreign) ⊎ (of_journal x ≡ client.Damaged))
journal_only journal.Device some = inl refl
journal_only journal.Memory some = absurd (some refl)
journal_only journal.Damaged some = inr (inr refl)

-- where a state is asked for nothing is damaged
pub asked_only : (x : JournalError) → x ≢ journal.Damaged → (of_journal x ≡ client.Memory) ⊎ ((of_journal x ≡ client.Device) ⊎ (of_journal x ≡ client.Damaged))
asked_only journal.Device some = inr (inl refl)
asked_only journal.Memory some = inl refl
asked_only journal.Damaged some = absurd (some refl)

-- ---- devices

-- the journal isn't touched
pub only_ledgers : (l new : List History) (j : History) → AreStill l new → IsOpening l j new j
only_ledgers l new j still = record {
  ledgers = still;
  records = no_step j;
  journal_kept = λ _. inl refl;
  left = stayed (MayBeLeft j) j (λ left may. inl may);
  any_moment = λ rs tells leaves. stayed (Tells rs) j leaves;
}

pub untouched_opening : (l : List History) (j : History) → IsOpening l j l j
untouched_opening l j = only_ledgers l l j (untouched_files l)

-- the journal is tried, too
pub all_tried : (l new : List History) (j after : History) → AreStill l new → Step Nothing j after → KeepsJournal j after → Throughout (MayBeLeft j) j after
    → ((rs : List Record) → Tells rs j.now.text → Leaves (Tells rs) j.now → Throughout (Tells rs) j after) → IsOpening l j new after
all_tried l new j after still step kept left any = record {
  ledgers = still;
  records = step;
  journal_kept = kept;
  left = left;
  any_moment = any;
}

-- the same records were told before
pub told_before : (before after : List ℕ) (rs : List Record) → Tells rs before → Tells rs after → (s : Recorded) → TellsState s after → TellsState s before
told_before before after rs a b s t = record {
  records = t.records;
  tells = subst (λ (l : List Record). Tells l before) (one_telling after rs t.records b t.tells) a;
  leads = t.leads;
}

-- ---- the client

module _ (user : ℕ) (secrets : List Secret) (ledgers : List LedgerState) (olds : List KeyFile) (same_secrets : secrets ≡ map (λ k. k.secret) olds) (all : AreOpened olds ledgers) (some : 0 < length olds) where
  one : (n : ℕ) → n < length secrets → OpenedAs (get_or secrets n no_secret) (get_or ledgers n no_ledger)
  one n small =
      subst (λ (l : List Secret). OpenedAs (get_or l n no_secret) (get_or ledgers n no_ledger)) (sym same_secrets)
      (each_opened olds ledgers all n (omega (arith, ap length same_secrets, length-map olds (λ (k : KeyFile). k.secret))) no_secret no_ledger)

  pub opened : (j old : JournalFile) (n : ℕ) (last : Option (Signed Structure)) (how : Phase) (text : List ℕ) → j.usable ≡ true → old.file.now ≡ at_rest old.file.now.text → j.file ≡ old.file
      → (recorded : Recorded) → TellsState recorded old.file.now.text → told_by user recorded ≡ Some (record { number = n; last = last; phase = how; text = text })
      → IsReleased (record { user = user; secrets = secrets; devices = record { ledgers = ledgers; journal = j }; number = n; last = last; phase = how; text = text })
  opened j old n last how text journal_usable journal_rest same recorded tells told = record {
    some = omega (arith, some, ap length same_secrets, length-map olds (λ (k : KeyFile). k.secret));
    as_many = omega (arith, as_many_opened olds ledgers all, ap length same_secrets, length-map olds (λ (k : KeyFile). k.secret));
    own_keys = λ k small. (one k small).key;
    settled = λ k small. (one k small).settled;
    stands = λ _. record {
      ledgers = λ k small. (let o = one k small in record { usable = o.usable; rests = o.rests; own_file = o.own_file });
      journal_usable = journal_usable;
      journal_rests = subst (λ (h : History). h.now ≡ at_rest h.now.text) (sym same) journal_rest;
      recorded = recorded;
      tells = subst (λ (h : History). TellsState recorded h.now.text) (sym same) tells;
      told_phase = how;
      told = told;
      is_phase = inl refl;
    };
  }

-- another's text was told before
pub other_before : (user : ℕ) (before after : List ℕ) → ((s : Recorded) → TellsState s after → TellsState s before) → TellsOfOther user after → TellsOfOther user before
other_before user before after back other = record { recorded = other.recorded; tells = back other.recorded other.tells; untold = other.untold }

-- the same files
pub opening_of : (l a x : List History) (j b y : History) → x ≡ a → y ≡ b → IsOpening l j a b → IsOpening l j x y
opening_of l a x j b y s t opening = subst (λ (h : List History). IsOpening l j h y) (sym s) (subst (λ (h : History). IsOpening l j a h) (sym t) opening)

-- faults since an earlier moment
pub risen_since : (a b c d : ℕ) → a ≤ b → d ≡ c → HasRisen b c → HasRisen a d
risen_since a b c d less is risen below =
    let small : c < last_count = subst (λ (x : ℕ). x < last_count) is below in
    let up : b < c = risen small in omega (arith, up, less, is)

-- what opening both devices fails by
pub opening_only : (x : ClientError) → (x ≡ client.Device) ⊎ ((x ≡ client.Foreign) ⊎ (x ≡ client.Damaged)) → (x ≢ client.NoLeaf) × (x ≢ client.NoNumber) × (x ≢ client.NoKey)
opening_only x (inl is) = (λ no. cc (is, no), λ no. cc (is, no), λ no. cc (is, no))
opening_only x (inr (inl is)) = (λ no. cc (is, no), λ no. cc (is, no), λ no. cc (is, no))
opening_only x (inr (inr is)) = (λ no. cc (is, no), λ no. cc (is, no), λ no. cc (is, no))

-- and reading the journal
pub reading_only : (x : ClientError) → (x ≡ client.Memory) ⊎ ((x ≡ client.Device) ⊎ (x ≡ client.Damaged)) → (x ≢ client.NoLeaf) × (x ≢ client.NoNumber) × (x ≢ client.NoKey)
reading_only x (inl is) = (λ no. cc (is, no), λ no. cc (is, no), λ no. cc (is, no))
reading_only x (inr (inl is)) = (λ no. cc (is, no), λ no. cc (is, no), λ no. cc (is, no))
reading_only x (inr (inr is)) = (λ no. cc (is, no), λ no. cc (is, no), λ no. cc (is, no))

pub reading_own : (x : ClientError) → (x ≡ client.Memory) ⊎ ((x ≡ client.Device) ⊎ (x ≡ client.Damaged)) → x ≡ client.Foreign → ⊥
reading_own x (inl is) same = cc (is, same)
reading_own x (inr (inl is)) same = cc (is, same)
reading_own x (inr (inr is)) same = cc (is, same)
