-- Files and texts by their places, as loops over them go: what may be left, and what begins anew.
use Rattle.std.proofs.Common.{◌≡◌, ◌<◌, ◌≤◌, ◌+◌, ◌⊎◌, ℕ, inl, inr, List, [], ◌∷◌, ◌++◌, length, drop, get_or, map, set, take, refl, sym, ap, ◌∙◌, subst, arith}
use Rattle.std.proofs.lemmas.List.{get_or-map, length-map, map-set, set-get_or, take-append-le, take_all, take_more, take_more_set}
use Rattle.std.proofs.lemmas.Bool.{cases_lt}
use Rattle.std.specs.Vec.{vec_items}
use Rattle.std.specs.declared.vec.Vec.{Vec}
use Rattle.layout.specs.Types.{Bytes}
use Rattle.lms_sign.specs.Secret.{Secret}
use Rattle.leaf_ledger.specs.Device.{History, MayLeave, started}
use Rattle.leaf_ledger.specs.Ledger.{LedgerState}
use Rattle.client_releases.specs.Releasing.{no_ledger}
use Rattle.client_steps.specs.Steps.{Device, empty, secrets_in}
use Rattle.client_runs.specs.NotTaken.{MayLeaveEach}
use Rattle.client_runs.specs.Slots.{files_in}
use Rattle.client_runs.proofs.NotTaken.{all_may, as_many, each_at}

abbrev Own : Type 0
Own = List (Secret × Device)

abbrev device_of : Secret × Device → Device
device_of k = record { history = k.1.history; faults = k.1.faults }

abbrev secret_of : Secret × Device → Secret
secret_of k = k.0

abbrev history_of : Device → History
history_of d = d.history

abbrev file_of : LedgerState → History
file_of l = l.file

-- as many files as keys
pub file_count : (keys : Own) → length (files_in keys) ≡ length keys
file_count keys = length-map (map device_of keys) history_of ∙ length-map keys device_of

-- the file of a key's ledger in its place
pub file_in : (keys : Own) (i : ℕ) (d : Secret × Device) → i < length keys → get_or (files_in keys) i (started []) ≡ (get_or keys i d).1.history
file_in keys i d inside =
    get_or-map history_of (map device_of keys) i empty (started []) (subst (λ n. i < n) (sym (length-map keys device_of)) inside)
    ∙ ap history_of (get_or-map device_of keys i d empty inside)

-- a text in its place
pub text_in : {A : Type 0} (left : List (Vec ℕ A)) (i : ℕ) (t : Vec ℕ A) → i < length left → t ≡ get_or left i t → get_or (map vec_items left) i [] ≡ t.items
text_in left i t inside is = get_or-map vec_items left i t [] inside ∙ ap vec_items (sym is)

-- as many files as ledgers
pub ledger_count : (ledgers : List LedgerState) → length (map file_of ledgers) ≡ length ledgers
ledger_count ledgers = length-map ledgers file_of

-- the file of an open client's ledger in its place
pub ledger_file : (ledgers : List LedgerState) (i : ℕ) → i < length ledgers → get_or (map file_of ledgers) i (started []) ≡ (get_or ledgers i no_ledger).file
ledger_file ledgers i inside = get_or-map file_of ledgers i no_ledger (started []) inside

-- ---- what may be left

-- The first of these texts may be left in the places of the first of these files.
pub FirstMay : List History → List Bytes → ℕ → Type 0
FirstMay files texts i = (n : ℕ) → n < i → MayLeave (get_or files n (started [])).now (get_or texts n [])

pub none_may : (files : List History) (texts : List Bytes) → FirstMay files texts 0
unfolding FirstMay
none_may files texts n below = absurd (omega (arith, below))

pub one_more_may : (files : List History) (texts : List Bytes) (i : ℕ) (file : History) (text : Bytes) → get_or files i (started []) ≡ file → get_or texts i [] ≡ text → MayLeave file.now text → FirstMay files texts i → FirstMay files texts (i + 1)
unfolding FirstMay
one_more_may files texts i file text at_file at_text may before n below = elim (split n i below) [
  | inl less ↦ before n less
  | inr same ↦ subst (λ (m : ℕ). MayLeave (get_or files m (started [])).now (get_or texts m [])) (sym same)
      (subst (λ (f : History). MayLeave f.now (get_or texts i [])) (sym at_file) (subst (λ (t : Bytes). MayLeave file.now t) (sym at_text) may))
]
  where
    split : (n i : ℕ) → n < i + 1 → (n < i) ⊎ (n ≡ i)
    split n i below = elim (cases_lt n i) [ inl less ↦ inl less | inr past ↦ inr (omega (arith, below, past)) ]

pub all_of_them : (files : List History) (texts : List Bytes) (i : ℕ) → length files ≡ length texts → length texts ≤ i → FirstMay files texts i → MayLeaveEach files texts
unfolding FirstMay
all_of_them files texts i same past first = all_may (started []) [] files texts same (λ n inside. first n (omega (arith, inside, same, past)))

-- one that may not be left in its place
pub one_may_not : (files : List History) (texts : List Bytes) (i : ℕ) (file : History) (text : Bytes) → i < length files → get_or files i (started []) ≡ file → get_or texts i [] ≡ text → (MayLeave file.now text → ⊥) → MayLeaveEach files texts → ⊥
one_may_not files texts i file text inside at_file at_text none may =
    none (subst (λ (t : Bytes). MayLeave file.now t) at_text (subst (λ (f : History). MayLeave f.now (get_or texts i [])) at_file (each_at (started []) [] files texts i inside may)))

-- nor are as many left as there are no files for
pub not_as_many : (files : List History) (texts : List Bytes) (n m : ℕ) → length files ≡ n → length texts ≡ m → (n ≡ m → ⊥) → MayLeaveEach files texts → ⊥
not_as_many files texts n m of_files of_texts other may = other (sym of_files ∙ as_many files texts may ∙ of_texts)

-- ---- what begins anew

-- The files of the first keys have begun anew with the first of these texts.
pub FirstAnew : Own → List Bytes → ℕ → Type 0
FirstAnew keys texts i = take i (files_in keys) ≡ take i (map started texts)

pub none_anew : (keys : Own) (texts : List Bytes) → FirstAnew keys texts 0
unfolding FirstAnew
none_anew keys texts = refl

files_set : (keys : Own) (i : ℕ) (k : Secret × Device) → files_in (set keys i k) ≡ set (files_in keys) i k.1.history
files_set keys i k = ap (map history_of) (map-set device_of keys i k) ∙ map-set history_of (map device_of keys) i (device_of k)

pub one_more_anew : (keys : Own) (texts : List Bytes) (i : ℕ) (k : Secret × Device) (text : Bytes) → i < length keys → i < length texts → get_or texts i [] ≡ text → k.1.history ≡ started text → FirstAnew keys texts i → FirstAnew (set keys i k) texts (i + 1)
unfolding FirstAnew
one_more_anew keys texts i k text inside within at is before =
    ap (take (i + 1)) (files_set keys i k)
    ∙ take_more_set (files_in keys) i k.1.history (subst (λ n. i < n) (sym (file_count keys)) inside)
    ∙ ap (λ (l : List History). l ++ k.1.history ∷ []) before
    ∙ ap (λ (h : History). take i (map started texts) ++ h ∷ []) (is ∙ ap started (sym at) ∙ sym (get_or-map started texts i [] (started []) within))
    ∙ sym (take_more (map started texts) i (started []) (subst (λ n. i < n) (sym (length-map texts started)) within))

pub all_anew : (keys : Own) (texts : List Bytes) (i : ℕ) → length keys ≡ length texts → length texts ≤ i → FirstAnew keys texts i → files_in keys ≡ map started texts
unfolding FirstAnew
all_anew keys texts i same past first =
    sym (take_all i (files_in keys) (omega (arith, same, past, file_count keys))) ∙ first ∙ take_all i (map started texts) (omega (arith, past, length-map texts started))

-- the keys are the same
pub secrets_set : (keys : Own) (i : ℕ) (k d : Secret × Device) → i < length keys → k.0 ≡ (get_or keys i d).0 → secrets_in (set keys i k) ≡ secrets_in keys
secrets_set keys i k d inside same =
    map-set secret_of keys i k
    ∙ ap (λ (s : Secret). set (secrets_in keys) i s) (same ∙ sym (get_or-map secret_of keys i d k.0 inside))
    ∙ set-get_or (secrets_in keys) i k.0

-- what was lent as a slice of a vector is written back
pub written_back : {X : Type 0} (new old : List X) (n : ℕ) → n ≡ length old → length new ≡ length old → take n (new ++ drop (length new) old) ≡ new
written_back new old n size same =
    take-append-le n new (drop (length new) old) (omega (arith, size, same)) ∙ take_all n new (omega (arith, size, same))

-- ---- as many keys

pub as_many_keys : {A : Type 0} (keys : Own) (left : List (Vec ℕ A)) → MayLeaveEach (files_in keys) (map vec_items left) → length keys ≡ length left
as_many_keys keys left may = sym (file_count keys) ∙ as_many (files_in keys) (map vec_items left) may ∙ length-map left vec_items

-- those that an open client hands back
pub as_many_back : {A : Type 0} (files : List History) (keys : Own) (left : List (Vec ℕ A)) → files_in keys ≡ files → MayLeaveEach files (map vec_items left) → length keys ≡ length left
as_many_back files keys left same may = as_many_keys keys left (subst (λ (f : List History). MayLeaveEach f (map vec_items left)) (sym same) may)
