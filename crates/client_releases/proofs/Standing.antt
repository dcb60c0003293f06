-- What is true of a client at all times: kept by each of its calls.
use Rattle.std.proofs.Common.{◌≡◌, ℕ, List, [], ◌∷◌, ◌++◌, Option, Some, None, IsSome, true, length, get_or, refl, sym, ◌∙◌, ap, subst, inl, inr}
use Rattle.std.proofs.lemmas.Bool.{cases_eq}
use Rattle.std.proofs.lemmas.List.{get_or-set_other, length-set}
use Rattle.leaf_ledger.specs.Device.{Disk, at_rest}
use Rattle.lms_sign.specs.Keys.{public_key_of}
use Rattle.leaf_ledger.specs.Ledger.{IsFileOf, LeafNumber, LedgerState, with_mark}
use Rattle.client_journal.proofs.Chains.{state-push}
use Rattle.client_journal.specs.Records.{State as Recorded, Idle, MayCome, Record, TellsState, next_state}
use Rattle.client_journal.specs.declared.kind.Kind.TheVariants as kind
use Rattle.version_order.specs.Structure.{Structure}
use Rattle.update_cert.specs.Cert.{Cert}
use Rattle.pending_list.specs.declared.signed.Signed.{Signed}
use Rattle.client_releases.specs.Releasing.{Devices, IsKept, OthersStay, OwnDevices, cert_record, ledger_at, no_ledger, structure_record, under}
use Rattle.client_releases.specs.Told.{HasKey, IsPhase, IsReady, IsReleased, Released, Stands, Told, cert_in, secret_at, structure_in, told_of}
use Rattle.client_releases.specs.declared.phase.Phase.{Phase}
use Rattle.client_releases.specs.declared.phase.Phase.TheVariants as phase
use Rattle.client_releases.proofs.Telling.{idle_may, declared_may, told_cert, told_structure}

abbrev pub told_with : ℕ → Option (Signed Structure) → Phase → List ℕ → Told
told_with n last how text = record { number = n; last = last; phase = how; text = text }

-- the state after a record that may come
pub next_of : (o : Option Recorded) → IsSome o → (next : Recorded) × (o ≡ Some next)
next_of None may = absurd (cc may)
next_of (Some next) may = (next, refl)

-- a disk that rests with some text rests with its own
pub rests_so : (d : Disk) (text : List ℕ) → d ≡ at_rest text → d ≡ at_rest d.text
rests_so d text is = is ∙ ap at_rest (sym (ap (λ (x : Disk). x.text) is))

-- a client in one of these phases stands
pub stands_idle : (r : Released) → IsReleased r → r.phase ≡ phase.Idle → Stands r
stands_idle r is now = is.stands (λ failed. let two : phase.Failed ≡ phase.Idle = sym failed ∙ now in cc two)

pub stands_declared : (r : Released) → IsReleased r → r.phase ≡ phase.Declared → Stands r
stands_declared r is now = is.stands (λ failed. let two : phase.Failed ≡ phase.Declared = sym failed ∙ now in cc two)

pub stands_signed : (r : Released) → IsReleased r → r.phase ≡ phase.Signed → Stands r
stands_signed r is now = is.stands (λ failed. let two : phase.Failed ≡ phase.Signed = sym failed ∙ now in cc two)

-- the record that comes next
pub cert_may : (r : Released) (s : Stands r) → r.phase ≡ phase.Idle → (text : List ℕ) → IsSome (next_state s.recorded kind.Certificate text)
cert_may r s now = idle_may r.user s.recorded (told_of s.told_phase r) s.told (subst (λ (p : Phase). IsPhase s.told_phase p) now s.is_phase)

pub structure_may : (r : Released) (s : Stands r) → r.phase ≡ phase.Declared → (text : List ℕ) → IsSome (next_state s.recorded kind.Structure text)
structure_may r s now = declared_may r.user s.recorded (told_of s.told_phase r) s.told (subst (λ (p : Phase). IsPhase s.told_phase p) now s.is_phase)

pub cert_turn : (r : Released) (s : Stands r) → r.phase ≡ phase.Idle → (text : List ℕ) → MayCome (cert_record text) r.devices.journal.file.now.text
cert_turn r s now text = record { state = s.recorded; tells = s.tells; in_turn = cert_may r s now text }

pub structure_turn : (r : Released) (s : Stands r) → r.phase ≡ phase.Declared → (text : List ℕ) → MayCome (structure_record text) r.devices.journal.file.now.text
structure_turn r s now text = record { state = s.recorded; tells = s.tells; in_turn = structure_may r s now text }

-- one record more, which leads to this state
tells_next : (leaf : LeafNumber) (x : Record) (old new : Devices) (s next : Recorded) → IsKept leaf x old new → TellsState s old.journal.file.now.text → next_state s x.kind x.text ≡ Some next
    → TellsState next new.journal.file.now.text
tells_next leaf x old new s next kept tells leads = record {
  records = tells.records ++ x ∷ [];
  tells = kept.appended tells.records tells.tells;
  leads = state-push Idle s next tells.records x tells.leads leads;
}

-- ---- ledgers

-- what is so of each ledger stays so where it is so of the one that was used
pub each_ledger : (P : ℕ → LedgerState → Type 0) (old new : OwnDevices) (n : ℕ) → OthersStay n old new → P n (ledger_at n new) → (k : ℕ) → P k (ledger_at k old) → P k (ledger_at k new)
each_ledger P old new n others here k before = elim (cases_eq k n) [
  | inl same ↦ subst (λ (i : ℕ). P i (ledger_at i new)) (sym same) here
  | inr other ↦
      let stays : ledger_at k new ≡ ledger_at k old =
      ap (λ (l : List LedgerState). get_or l k no_ledger) others ∙ get_or-set_other old.ledgers n k (ledger_at n new) no_ledger other in
      subst (λ (l : LedgerState). P k l) (sym stays) before
]

pub as_many_ledgers : (old new : OwnDevices) (n : ℕ) → OthersStay n old new → length new.ledgers ≡ length old.ledgers
as_many_ledgers old new n others = ap (λ (l : List LedgerState). length l) others ∙ length-set old.ledgers n (ledger_at n new)

module _ (r : Released) (is : IsReleased r) (n : ℕ) (has : HasKey n r) (new : OwnDevices) (others : OthersStay n r.devices new) (usable : (ledger_at n new).usable ≡ true) (journal_usable : new.journal.usable ≡ true)
    (same_key : (ledger_at n new).key ≡ (ledger_at n r.devices).key) (own : IsFileOf (ledger_at n r.devices).key (ledger_at n new).file.now.text) (settled : (ledger_at n new).outstanding ≡ 0) (leaf : LeafNumber) (text : List ℕ) (m : ℕ) where
  keys_now : (k : ℕ) → HasKey k r → (ledger_at k new).key ≡ public_key_of (secret_at k r)
  keys_now k there = each_ledger (λ i l. HasKey i r → l.key ≡ public_key_of (secret_at i r)) r.devices new n others (λ here. same_key ∙ is.own_keys n here) k (is.own_keys k) there

  settled_now : (k : ℕ) → HasKey k r → (ledger_at k new).outstanding ≡ 0
  settled_now k there = each_ledger (λ i l. HasKey i r → l.outstanding ≡ 0) r.devices new n others (λ here. settled) k (is.settled k) there

  module _ (s : Stands r) (x : Record) (kept : IsKept leaf x (under n r.devices) (under n new)) where
    ready_now : (k : ℕ) → HasKey k r → IsReady (ledger_at k new)
    ready_now k there = each_ledger (λ i l. HasKey i r → IsReady l) r.devices new n others (λ here. one) k (s.ledgers k) there
      where
        one : IsReady (ledger_at n new)
        one = record {
          usable = usable;
          rests = rests_so (ledger_at n new).file.now (with_mark leaf (ledger_at n r.devices).file.now.text) kept.marked;
          own_file = subst (λ (k : List ℕ). IsFileOf k (ledger_at n new).file.now.text) (sym same_key) own;
        }

  -- after a certificate, which is in turn
  pub after_certificate : (s : Stands r) → IsKept leaf (cert_record text) (under n r.devices) (under n new) → IsSome (next_state s.recorded kind.Certificate text) → (c : Signed Cert) → cert_in r.user text ≡ Some c → m ≡ c.value.number
      → IsReleased (record { user = r.user; secrets = r.secrets; devices = new; number = m; last = r.last; phase = phase.Declared; text = text })
  after_certificate s kept may c read number = record {
    some = is.some;
    as_many = as_many_ledgers r.devices new n others ∙ is.as_many;
    own_keys = keys_now;
    settled = settled_now;
    stands = λ _. record {
      ledgers = ready_now s (cert_record text) kept;
      journal_usable = journal_usable;
      journal_rests = kept.rests;
      recorded = next.0;
      tells = tells_next leaf (cert_record text) (under n r.devices) (under n new) s.recorded next.0 kept s.tells next.1;
      told_phase = phase.Declared;
      told = told_cert r.user s.recorded next.0 (told_of s.told_phase r) text c s.told read next.1 ∙ ap (λ (k : ℕ). Some (told_with k r.last phase.Declared text)) (sym number);
      is_phase = inl refl;
    };
  }
    where
      next : (x : Recorded) × (next_state s.recorded kind.Certificate text ≡ Some x)
      next = next_of (next_state s.recorded kind.Certificate text) may

  -- after a structure
  pub after_sign : IsKept leaf (structure_record text) (under n r.devices) (under n new) → r.phase ≡ phase.Declared → (z : Signed Structure) → structure_in r.user text ≡ Some z → m ≡ z.value.plan.number
      → IsReleased (record { user = r.user; secrets = r.secrets; devices = new; number = m; last = Some z; phase = phase.Signed; text = text })
  after_sign kept declared z read number = record {
    some = is.some;
    as_many = as_many_ledgers r.devices new n others ∙ is.as_many;
    own_keys = keys_now;
    settled = settled_now;
    stands = λ _. record {
      ledgers = ready_now s (structure_record text) kept;
      journal_usable = journal_usable;
      journal_rests = kept.rests;
      recorded = next.0;
      tells = tells_next leaf (structure_record text) (under n r.devices) (under n new) s.recorded next.0 kept s.tells next.1;
      told_phase = phase.Signed;
      told = told_structure r.user s.recorded next.0 text z read next.1 ∙ ap (λ (k : ℕ). Some (told_with k (Some z) phase.Signed text)) (sym number);
      is_phase = inl refl;
    };
  }
    where
      s : Stands r
      s = stands_declared r is declared

      next : (x : Recorded) × (next_state s.recorded kind.Structure text ≡ Some x)
      next = next_of (next_state s.recorded kind.Structure text) (structure_may r s declared text)

-- after a device failed
pub after_fault : (r : Released) → IsReleased r → (n : ℕ) → (new : OwnDevices) → OthersStay n r.devices new → (ledger_at n new).key ≡ (ledger_at n r.devices).key → (ledger_at n new).outstanding ≡ 0
    → IsReleased (record { user = r.user; secrets = r.secrets; devices = new; number = r.number; last = r.last; phase = phase.Failed; text = r.text })
after_fault r is n new others same_key settled = record {
  some = is.some;
  as_many = as_many_ledgers r.devices new n others ∙ is.as_many;
  own_keys = λ k there. each_ledger (λ i l. HasKey i r → l.key ≡ public_key_of (secret_at i r)) r.devices new n others (λ here. same_key ∙ is.own_keys n here) k (is.own_keys k) there;
  settled = λ k there. each_ledger (λ i l. HasKey i r → l.outstanding ≡ 0) r.devices new n others (λ here. settled) k (is.settled k) there;
  stands = λ stands. absurd (stands refl);
}

committed : (p : Phase) → IsPhase p phase.Signed → IsPhase p phase.Idle
committed p (inl same) = inr (sym same, refl)
committed p (inr both) = let two : phase.Signed ≡ phase.Idle = both.1 in absurd (cc two)

-- after a commit
pub after_commit : (r : Released) → IsReleased r → r.phase ≡ phase.Signed
    → IsReleased (record { user = r.user; secrets = r.secrets; devices = r.devices; number = r.number; last = r.last; phase = phase.Idle; text = r.text })
after_commit r is signed = record {
  some = is.some;
  as_many = is.as_many;
  own_keys = is.own_keys;
  settled = is.settled;
  stands = λ _. record {
    ledgers = s.ledgers;
    journal_usable = s.journal_usable;
    journal_rests = s.journal_rests;
    recorded = s.recorded;
    tells = s.tells;
    told_phase = s.told_phase;
    told = s.told;
    is_phase = committed s.told_phase (subst (λ (p : Phase). IsPhase s.told_phase p) signed s.is_phase);
  };
}
  where
    s : Stands r
    s = stands_signed r is signed
