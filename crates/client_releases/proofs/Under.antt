-- A client's devices under one of its keys, and what a call under it leaves.
use Rattle.std.proofs.Common.{◌≡◌, ℕ, ◌<◌, List, length, get_or, set, sym, subst, ◌∙◌, ap, arith}
use Rattle.std.proofs.lemmas.List.{get_or-map, get_or-set_same, length-map, map-set}
use Rattle.std.proofs.Math.Seq.{map-set_same}
use Rattle.lms_sign.specs.Secret.{Secret}
use Rattle.leaf_ledger.specs.Ledger.{LedgerState}
use Rattle.client_journal.specs.Records.{JournalFile}
use Rattle.client_releases.specs.Releasing.{Devices, OthersStay, no_ledger, ledger_in, no_secret, own_devices, secret_in, under}
use Rattle.client_releases.specs.OwnKeys.{OwnKey, ledgers_of, secrets_of}

abbrev pub pair : LedgerState → JournalFile → Devices
pair ledger journal = record { ledger = ledger; journal = journal }

-- the ledger of a key, and what the key is made of, whatever stands for those that aren't there
pub ledger_is : (own : List OwnKey) (n : ℕ) (d : OwnKey) (none : LedgerState) → n < length own → get_or (ledgers_of own) n none ≡ (get_or own n d).ledger
ledger_is own n d none small = get_or-map (λ k. k.ledger) own n d none small

pub secret_is : (own : List OwnKey) (n : ℕ) (d : OwnKey) (none : Secret) → n < length own → get_or (secrets_of own) n none ≡ (get_or own n d).secret
secret_is own n d none small = get_or-map (λ k. k.secret) own n d none small

-- after a call under a key
module _ (own : List OwnKey) (n : ℕ) (d new : OwnKey) (small : n < length own) where
  pub same_secrets : new.secret ≡ (get_or own n d).secret → secrets_of (set own n new) ≡ secrets_of own
  same_secrets same = map-set_same (λ k. k.secret) own n new d same

  pub one_ledger : ledgers_of (set own n new) ≡ set (ledgers_of own) n new.ledger
  one_ledger = map-set (λ k. k.ledger) own n new

-- the two devices under a key, before a call and after it
module _ (own : List OwnKey) (n : ℕ) (d : OwnKey) (small : n < length own) (j : JournalFile) where
  pub before_is : under n (record { ledgers = ledgers_of own; journal = j }) ≡ pair (get_or own n d).ledger j
  before_is = ap (λ (l : LedgerState). pair l j) (ledger_is own n d no_ledger small)

  pub after_is : (new : OwnKey) → under n (record { ledgers = ledgers_of (set own n new); journal = j }) ≡ pair new.ledger j
  after_is new =
      ap (λ (l : LedgerState). pair l j)
      (ap (λ (l : List LedgerState). get_or l n no_ledger) (map-set (λ k. k.ledger) own n new)
      ∙ get_or-set_same (ledgers_of own) n new.ledger no_ledger (omega (arith, length-map own (λ (k : OwnKey). k.ledger))))

  pub others_stay : (new : OwnKey) (k : JournalFile) → OthersStay n (record { ledgers = ledgers_of own; journal = j }) (record { ledgers = ledgers_of (set own n new); journal = k })
  others_stay new k =
      map-set (λ x. x.ledger) own n new ∙ ap (λ (l : LedgerState). set (ledgers_of own) n l) (sym (ap (λ (x : Devices). x.ledger) (after_is new)))

-- What is so of one key's ledger and the journal, before a call and after it, is so under its number.
module _ (own : List OwnKey) (n : ℕ) (small : n < length own) (d old new : OwnKey) (is : old ≡ get_or own n d) (j k : JournalFile) where
  pub secret_under : secret_in n own ≡ old.secret
  secret_under = secret_is own n d no_secret small ∙ ap (λ (x : OwnKey). x.secret) (sym is)

  pub seen_under : (P : Secret → Devices → Devices → Type 0) → P old.secret (pair old.ledger j) (pair new.ledger k) → P (secret_in n own) (under n (own_devices own j)) (under n (own_devices (set own n new) k))
  seen_under P holds =
      subst (λ (s : Secret). P s (under n (own_devices own j)) (under n (own_devices (set own n new) k))) (sym secret_under)
      (subst (λ (a : Devices). P old.secret a (under n (own_devices (set own n new) k))) (sym (before_is own n d small j ∙ ap (λ (x : OwnKey). pair x.ledger j) (sym is)))
      (subst (λ (b : Devices). P old.secret (pair old.ledger j) b) (sym (after_is own n d small k new)) holds))

-- What is so of one key and its ledger is so under its number.
module _ (own : List OwnKey) (n : ℕ) (small : n < length own) (d old : OwnKey) (is : old ≡ get_or own n d) where
  pub seen_key : (P : Secret → LedgerState → Type 0) → P old.secret old.ledger → P (secret_in n own) (ledger_in n own)
  seen_key P holds =
      subst (λ (s : Secret). P s (ledger_in n own)) (sym (secret_is own n d no_secret small ∙ ap (λ (x : OwnKey). x.secret) (sym is)))
      (subst (λ (l : LedgerState). P old.secret l) (sym (ledger_is own n d no_ledger small ∙ ap (λ (x : OwnKey). x.ledger) (sym is))) holds)
