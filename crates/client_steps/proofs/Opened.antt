-- A client that is opened, refused or closed: what the call ensures is what its step tells.
use Rattle.std.proofs.Common.{◌≡◌, ℕ, ◌≤◌, List, [], ◌∷◌, length, map, take, Ok, Err, Result, IfOk, refl, sym, ap, ◌∙◌, subst}
use Rattle.std.proofs.lemmas.List.{length-map}
use Rattle.std.specs.Prelude.{◌≢◌, ◌⊎◌, IfErr}
use Rattle.layout.specs.Types.{Key, User}
use Rattle.lms_sign.specs.Secret.{Secret}
use Rattle.leaf_ledger.specs.Device.{HasRisen, History}
use Rattle.leaf_ledger.specs.Ledger.{LedgerState}
use Rattle.client_journal.specs.Records.{IsDamaged}
use Rattle.client_releases.specs.declared.error.ClientError.{ClientError}
use Rattle.client_releases.specs.declared.error.ClientError.TheVariants as error
use Rattle.client_releases.specs.OwnKeys.{AreLater, AreOpened, KeyFile, OneIsForeign, OneOfHasRisen, key_files}
use Rattle.client_releases.specs.Releasing.{IsOpening}
use Rattle.client_releases.specs.Told.{IsToldBy, TellsOfOther}
use Rattle.client_verify.specs.State.{State, opened, released}
use Rattle.client_steps.specs.Steps.{Device, HasFirst, IsHandedBack, IsOpened, IsRefused, IsStep, Open, Opens, Owner, Parts, closed_over, faults_of, files_of, ledgers_in, own_files, secrets_in}

-- what holds of two lists holds of the same by other names
by_names : {X : Type 0} (P : List X → List X → Type 0) (a b c d : List X) → a ≡ c → b ≡ d → P c d → P a b
by_names {X} P a b c d first second h = subst (λ (l : List X). P l b) (sym first) (subst (λ (l : List X). P c l) (sym second) h)

module _ {D : Type 0} (history : D → History) (faults : D → ℕ) where
  abbrev Own : Type 0
  Own = List (Secret × D)

  files_in : (keys : Own) → files_of (ledgers_in history faults keys) ≡ map (λ k. history k.1) keys
  files_in [] = refl
  files_in (k ∷ keys) = ap (λ (l : List History). history k.1 ∷ l) (files_in keys)

  faults_in : (keys : Own) → faults_of (ledgers_in history faults keys) ≡ map (λ k. faults k.1) keys
  faults_in [] = refl
  faults_in (k ∷ keys) = ap (λ (l : List ℕ). faults k.1 ∷ l) (faults_in keys)

  -- the owner's first keys are those that are opened
  own_in : (all : List Secret) (keys : Own) → take (length (secrets_in keys)) all ≡ secrets_in keys → own_files all (ledgers_in history faults keys) ≡ key_files history faults keys
  own_in [] [] same = refl
  own_in (s ∷ all) [] same = refl
  own_in [] (k ∷ keys) same = absurd (cc same)
  own_in (s ∷ all) (k ∷ keys) same =
      let head : s ≡ k.0 = cc same in
      let rest : take (length (secrets_in keys)) all ≡ secrets_in keys = cc same in
      ap (λ (x : Secret). record { secret = x; file = history k.1; faults = faults k.1 } ∷ own_files all (ledgers_in history faults keys)) head
      ∙ ap (λ (l : List KeyFile). record { secret = k.0; file = history k.1; faults = faults k.1 } ∷ l) (own_in all keys rest)

  same_size : (keys : Own) → length (ledgers_in history faults keys) ≡ length (secrets_in keys)
  same_size keys =
      length-map keys (λ (k : Secret × D). let d : Device = record { history = history k.1; faults = faults k.1 } in d)
      ∙ sym (length-map keys (λ (k : Secret × D). k.0))

  module _ (user : User) (pinned : Key) (journal : Device) (keys : Own) where
    module _ (o : Owner) (whose : HasFirst user pinned (secrets_in keys) o) where
      abbrev before : Parts
      before = record { ledgers = ledgers_in history faults keys; journal = journal }

      is_opened : (s : State) → s ≡ opened pinned (released s) → (s.user ≡ user) × (s.secrets ≡ map (λ k. k.0) keys)
          → IsToldBy journal.history.now.text (released s) → AreOpened (key_files history faults keys) s.devices.ledgers
          → IsOpening (map (λ k. history k.1) keys) journal.history (map (λ l. l.file) s.devices.ledgers) s.devices.journal.file
          → journal.faults ≤ s.devices.journal.faults → IsOpened o before s
      is_opened s state about told ledgers moments later = record {
        state = subst (λ (k : Key). s ≡ opened k (released s)) (sym whose.pinned_is) state;
        user = about.0 ∙ sym whose.user_is;
        secrets = about.1 ∙ sym whose.first ∙ ap (λ n. take n o.secrets) (sym (same_size keys));
        told = told;
        ledgers = subst (λ (l : List KeyFile). AreOpened l s.devices.ledgers) (sym (own_in o.secrets keys whose.first)) ledgers;
        moments = subst (λ (l : List History). IsOpening l journal.history (map (λ (x : LedgerState). x.file) s.devices.ledgers) s.devices.journal.file) (sym (files_in keys)) moments;
        journal_later = later;
      }

      -- other devices are handed back
      is_refused : (back : Own) (after : Device) (e : ClientError)
          → IsOpening (map (λ k. history k.1) keys) journal.history (map (λ x. history x.1) back) after.history
          → (e ≡ error.Foreign → OneIsForeign (key_files history faults keys))
          → (e ≡ error.Damaged → IsDamaged journal.history.now.text ⊎ TellsOfOther user journal.history.now.text)
          → (e ≡ error.Device → OneOfHasRisen (map (λ k. faults k.1) keys) (map (λ x. faults x.1) back) ⊎ HasRisen journal.faults after.faults)
          → (e ≢ error.NoLeaf) × (e ≢ error.NoNumber) × (e ≢ error.NoKey)
          → AreLater (map (λ k. faults k.1) keys) (map (λ x. faults x.1) back) × (journal.faults ≤ after.faults)
          → IsRefused o before e (record { ledgers = ledgers_in history faults back; journal = after })
      is_refused back after e moments foreign damaged device only later = record {
        moments = by_names (λ olds news. IsOpening olds journal.history news after.history) (files_of (ledgers_in history faults keys)) (files_of (ledgers_in history faults back))
            (map (λ k. history k.1) keys) (map (λ x. history x.1) back) (files_in keys) (files_in back) moments;
        foreign = λ is. subst (λ (l : List KeyFile). OneIsForeign l) (sym (own_in o.secrets keys whose.first)) (foreign is);
        damaged = λ is. subst (λ (u : User). IsDamaged journal.history.now.text ⊎ TellsOfOther u journal.history.now.text) (sym whose.user_is) (damaged is);
        device = λ is.
            by_names (λ olds news. OneOfHasRisen olds news ⊎ HasRisen journal.faults after.faults) (faults_of (ledgers_in history faults keys)) (faults_of (ledgers_in history faults back))
            (map (λ k. faults k.1) keys) (map (λ x. faults x.1) back) (faults_in keys) (faults_in back) (device is);
        leaves = only.0;
        numbers = only.1;
        keys = only.2;
        ledgers_later = by_names AreLater (faults_of (ledgers_in history faults keys)) (faults_of (ledgers_in history faults back))
            (map (λ k. faults k.1) keys) (map (λ x. faults x.1) back) (faults_in keys) (faults_in back) later.0;
        journal_later = later.1;
      }

    pub opens : {Q : Type 0} (r : Result State (ClientError × Q))
        → IfOk r (λ s. s ≡ opened pinned (released s))
        → IfOk r (λ s. (s.user ≡ user) × (s.secrets ≡ map (λ k. k.0) keys))
        → IfOk r (λ s. IsToldBy journal.history.now.text (released s))
        → IfOk r (λ s. AreOpened (key_files history faults keys) s.devices.ledgers)
        → IfOk r (λ s. IsOpening (map (λ k. history k.1) keys) journal.history (map (λ l. l.file) s.devices.ledgers) s.devices.journal.file)
        → IfOk r (λ s. journal.faults ≤ s.devices.journal.faults)
        → IfOk r (λ s. (o : Owner) → HasFirst user pinned (secrets_in keys) o → IsStep o (closed_over (ledgers_in history faults keys) journal) (Opens (Ok tt)) (Open s))
    opens (Err e) state whose told ledgers moments later = tt
    opens (Ok s) state whose told ledgers moments later = λ o first. is_opened o first s state whose told ledgers moments later

    pub refuses : {Q : Type 0} (keys_of : Q → Own) (journal_of : Q → Device) (r : Result State (ClientError × Q))
        → IfErr r (λ e. IsOpening (map (λ k. history k.1) keys) journal.history (map (λ k. history k.1) (keys_of e.1)) (journal_of e.1).history)
        → IfErr r (λ e. e.0 ≡ error.Foreign → OneIsForeign (key_files history faults keys))
        → IfErr r (λ e. e.0 ≡ error.Damaged → IsDamaged journal.history.now.text ⊎ TellsOfOther user journal.history.now.text)
        → IfErr r (λ e. e.0 ≡ error.Device → OneOfHasRisen (map (λ k. faults k.1) keys) (map (λ k. faults k.1) (keys_of e.1)) ⊎ HasRisen journal.faults (journal_of e.1).faults)
        → IfErr r (λ e. (e.0 ≢ error.NoLeaf) × (e.0 ≢ error.NoNumber) × (e.0 ≢ error.NoKey))
        → IfErr r (λ e. AreLater (map (λ k. faults k.1) keys) (map (λ k. faults k.1) (keys_of e.1)) × (journal.faults ≤ (journal_of e.1).faults))
        → IfErr r (λ e. (o : Owner) → HasFirst user pinned (secrets_in keys) o → IsStep o (closed_over (ledgers_in history faults keys) journal) (Opens (Err e.0))
        (closed_over (ledgers_in history faults (keys_of e.1)) (journal_of e.1)))
    refuses keys_of journal_of (Ok s) moments foreign damaged device only later = tt
    refuses keys_of journal_of (Err e) moments foreign damaged device only later =
        λ o first. is_refused o first (keys_of e.1) (journal_of e.1) e.0 moments foreign damaged device only later

  -- all devices are handed back
  pub handed_back : (s : State) (keys : Own) (journal : Device)
      → map (λ k. history k.1) keys ≡ map (λ l. l.file) s.devices.ledgers → map (λ k. faults k.1) keys ≡ map (λ l. l.faults) s.devices.ledgers
      → journal.history ≡ s.devices.journal.file → journal.faults ≡ s.devices.journal.faults
      → IsHandedBack s (record { ledgers = ledgers_in history faults keys; journal = journal })
  handed_back s keys journal files counts same same_faults =
      record { ledgers = files_in keys ∙ files; journal = same; ledger_faults = faults_in keys ∙ counts; journal_faults = same_faults }
