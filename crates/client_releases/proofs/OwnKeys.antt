-- Keys that are opened together, and handed back.
use Rattle.std.proofs.Common.{◌≡◌, ◌<◌, ◌≤◌, ℕ, zero, suc, true, List, [], ◌∷◌, ◌++◌, length, map, get_or, inl, inr, refl, sym, ◌∙◌, ap, subst, arith, append-nil}
use Rattle.std.specs.List.{remove}
use Rattle.std.proofs.lemmas.List.{map-append}
use Rattle.lms_sign.specs.Keys.{public_key_of}
use Rattle.lms_sign.specs.Secret.{Secret}
use Rattle.leaf_ledger.proofs.Lives.{no_call}
use Rattle.leaf_ledger.specs.Device.{History, at_rest}
use Rattle.leaf_ledger.specs.Ledger.{IsFileOf, LedgerState}
use Rattle.leaf_ledger.specs.declared.error.LedgerError.{LedgerError}
use Rattle.leaf_ledger.specs.declared.error.LedgerError.TheVariants as error
use Rattle.client_releases.specs.Releasing.{no_ledger}
use Rattle.client_releases.specs.OwnKeys.{AreLater, AreOpened, AreSettled, AreStill, IsOpened, IsRefused, IsStill, KeyFile, OneIsForeign, OneIsRefused, OneOfHasRisen, OwnKey, closed_key, key_files, ledgers_of, secrets_of}

-- ---- keys that are closed, the last first

pub settled_last : (own : List OwnKey) (last : OwnKey) → AreSettled (ledgers_of (own ++ last ∷ [])) → AreSettled (ledgers_of own) × (last.ledger.outstanding ≡ 0)
settled_last [] last all = (tt, all.0)
settled_last (k ∷ own) last all = let rest = settled_last own last all.1 in ((all.0, rest.0), rest.1)

pub closed_more : {D : Type 0} (history : D → History) (faults : D → ℕ) (own : List OwnKey) (last : OwnKey) (key : Secret × D) (keys : List (Secret × D))
    → closed_key last ≡ record { secret = key.0; file = history key.1; faults = faults key.1 } → map closed_key own ++ key_files history faults (key ∷ keys) ≡ map closed_key (own ++ last ∷ []) ++ key_files history faults keys
closed_more history faults [] last key keys same = ap (λ (k : KeyFile). k ∷ key_files history faults keys) (sym same)
closed_more history faults (k ∷ own) last key keys same = ap (λ (l : List KeyFile). closed_key k ∷ l) (closed_more history faults own last key keys same)

pub settled_opened : (olds : List KeyFile) (news : List LedgerState) → AreOpened olds news → AreSettled news
settled_opened [] [] all = tt
settled_opened [] (new ∷ news) all = absurd all
settled_opened (old ∷ olds) [] all = absurd all
settled_opened (old ∷ olds) (new ∷ news) all = (all.0.settled, settled_opened olds news all.1)

-- ---- keys that are opened, the first first

-- one ledger more
pub opened_more : (olds : List KeyFile) (news : List LedgerState) (old : KeyFile) (new : LedgerState) → AreOpened olds news → IsOpened old new → AreOpened (olds ++ old ∷ []) (news ++ new ∷ [])
opened_more [] [] old new all one = (one, tt)
opened_more [] (x ∷ news) old new all one = absurd all
opened_more (x ∷ olds) [] old new all one = absurd all
opened_more (x ∷ olds) (y ∷ news) old new all one = (all.0, opened_more olds news old new all.1 one)

-- those that were opened, closed again, before the one that was refused
pub refused_after : (e : LedgerError) (done : List KeyFile) (own : List OwnKey) (old new : KeyFile) (rest : List KeyFile) → AreOpened done (ledgers_of own) → secrets_of own ≡ map (λ k. k.secret) done → IsRefused e old new
    → OneIsRefused e (done ++ old ∷ rest) (map closed_key own ++ new ∷ rest)
refused_after e [] [] old new rest all secrets one = inl (one, refl)
refused_after e [] (k ∷ own) old new rest all secrets one = absurd all
refused_after e (x ∷ done) [] old new rest all secrets one = absurd all
refused_after e (x ∷ done) (k ∷ own) old new rest all secrets one =
    let same : k.secret ≡ x.secret = cc in
    let others : secrets_of own ≡ map (λ k. k.secret) done = cc in
    inr (k.ledger, all.0, ap (λ (s : Secret). closed_key (record { secret = s; ledger = k.ledger })) same, refused_after e done own old new rest all.1 others one)

-- the first key is taken out
pub first_taken : {X : Type 0} (xs ys : List X) (x : X) → 0 < length xs → x ≡ get_or xs 0 x → ys ≡ remove xs 0 → xs ≡ x ∷ ys
first_taken [] ys x some first rest = absurd (omega (arith, some))
first_taken (z ∷ xs) ys x some first rest = sym (ap (λ h. h ∷ ys) first ∙ ap (λ l. z ∷ l) rest)

pub none_left : {X : Type 0} (xs : List X) → length xs ≡ 0 → xs ≡ []
none_left [] none = refl
none_left (x ∷ xs) none = absurd (omega (arith, none))

-- what keys are made of, with one more
pub secrets_more : (own : List OwnKey) (k : OwnKey) (done : List KeyFile) (f : KeyFile) → secrets_of own ≡ map (λ x. x.secret) done → k.secret ≡ f.secret → secrets_of (own ++ k ∷ []) ≡ map (λ x. x.secret) (done ++ f ∷ [])
secrets_more own k done f same one =
    map-append (λ (x : OwnKey). x.secret) own (k ∷ [])
    ∙ ap (λ (l : List Secret). l ++ k.secret ∷ []) same
    ∙ ap (λ (s : Secret). map (λ (x : KeyFile). x.secret) done ++ s ∷ []) one
    ∙ sym (map-append (λ (x : KeyFile). x.secret) done (f ∷ []))

pub ledgers_more : (own : List OwnKey) (k : OwnKey) → ledgers_of (own ++ k ∷ []) ≡ ledgers_of own ++ k.ledger ∷ []
ledgers_more own k = map-append (λ (x : OwnKey). x.ledger) own (k ∷ [])

-- ---- what callers see of it

pub secrets_same : {D : Type 0} (history : D → History) (faults : D → ℕ) (keys : List (Secret × D)) → map (λ k. k.secret) (key_files history faults keys) ≡ map (λ k. k.0) keys
secrets_same history faults [] = refl
secrets_same history faults (k ∷ keys) = ap (λ (l : List Secret). k.0 ∷ l) (secrets_same history faults keys)

pub files_same : {D : Type 0} (history : D → History) (faults : D → ℕ) (keys : List (Secret × D)) → map (λ k. k.file) (key_files history faults keys) ≡ map (λ k. history k.1) keys
files_same history faults [] = refl
files_same history faults (k ∷ keys) = ap (λ (l : List History). history k.1 ∷ l) (files_same history faults keys)

pub faults_same : {D : Type 0} (history : D → History) (faults : D → ℕ) (keys : List (Secret × D)) → map (λ k. k.faults) (key_files history faults keys) ≡ map (λ k. faults k.1) keys
faults_same history faults [] = refl
faults_same history faults (k ∷ keys) = ap (λ (l : List ℕ). faults k.1 ∷ l) (faults_same history faults keys)

-- ledgers that aren't touched
pub untouched_files : (files : List History) → AreStill files files
untouched_files [] = tt
untouched_files (file ∷ files) = (record { leaves = no_call file; kept = λ _. inl refl }, untouched_files files)

pub untouched_counts : (counts : List ℕ) → AreLater counts counts
untouched_counts [] = tt
untouched_counts (count ∷ counts) = (omega arith, untouched_counts counts)

pub opened_still : (olds : List KeyFile) (news : List LedgerState) → AreOpened olds news → AreStill (map (λ k. k.file) olds) (map (λ l. l.file) news)
opened_still [] [] all = tt
opened_still [] (new ∷ news) all = absurd all
opened_still (old ∷ olds) [] all = absurd all
opened_still (old ∷ olds) (new ∷ news) all = (all.0.still, opened_still olds news all.1)

-- the first of those that were opened
pub first_still : (old : History) (news : List LedgerState) → AreStill (old ∷ []) (map (λ l. l.file) news) → IsStill old (get_or news 0 no_ledger).file
first_still old [] all = absurd all
first_still old (new ∷ news) all = all.0

-- ---- where one is refused

module _ (e : LedgerError) where
  pub refused_secrets : (olds news : List KeyFile) → OneIsRefused e olds news → map (λ k. k.secret) news ≡ map (λ k. k.secret) olds
  refused_secrets [] news all = absurd all
  refused_secrets (old ∷ olds) [] all = absurd all
  refused_secrets (old ∷ olds) (new ∷ news) (inl one) =
      ap (λ (s : Secret). s ∷ map (λ (k : KeyFile). k.secret) news) one.0.secret ∙ ap (λ (l : List KeyFile). old.secret ∷ map (λ (k : KeyFile). k.secret) l) one.1
  refused_secrets (old ∷ olds) (new ∷ news) (inr (l, opened, is, all)) =
      ap (λ (k : KeyFile). k.secret ∷ map (λ (k : KeyFile). k.secret) news) is ∙ ap (λ (x : List Secret). old.secret ∷ x) (refused_secrets olds news all)

  pub refused_still : (olds news : List KeyFile) → OneIsRefused e olds news → AreStill (map (λ k. k.file) olds) (map (λ k. k.file) news)
  refused_still [] news all = absurd all
  refused_still (old ∷ olds) [] all = absurd all
  refused_still (old ∷ olds) (new ∷ news) (inl one) =
      (one.0.still, subst (λ (l : List KeyFile). AreStill (map (λ (k : KeyFile). k.file) olds) (map (λ (k : KeyFile). k.file) l)) (sym one.1) (untouched_files (map (λ (k : KeyFile). k.file) olds)))
  refused_still (old ∷ olds) (new ∷ news) (inr (l, opened, is, all)) =
      (subst (λ (k : KeyFile). IsStill old.file k.file) (sym is) opened.still, refused_still olds news all)

  pub refused_later : (olds news : List KeyFile) → OneIsRefused e olds news → AreLater (map (λ k. k.faults) olds) (map (λ k. k.faults) news)
  refused_later [] news all = absurd all
  refused_later (old ∷ olds) [] all = absurd all
  refused_later (old ∷ olds) (new ∷ news) (inl one) =
      (one.0.later, subst (λ (l : List KeyFile). AreLater (map (λ (k : KeyFile). k.faults) olds) (map (λ (k : KeyFile). k.faults) l)) (sym one.1) (untouched_counts (map (λ (k : KeyFile). k.faults) olds)))
  refused_later (old ∷ olds) (new ∷ news) (inr (l, opened, is, all)) =
      (subst (λ (k : KeyFile). old.faults ≤ k.faults) (sym is) opened.later, refused_later olds news all)

  pub refused_foreign : e ≡ error.Foreign → (olds news : List KeyFile) → OneIsRefused e olds news → OneIsForeign olds
  refused_foreign is [] news all = absurd all
  refused_foreign is (old ∷ olds) [] all = absurd all
  refused_foreign is (old ∷ olds) (new ∷ news) (inl one) = inl (one.0.foreign is)
  refused_foreign is (old ∷ olds) (new ∷ news) (inr (l, opened, same, all)) = inr (refused_foreign is olds news all)

  pub refused_device : e ≡ error.Device → (olds news : List KeyFile) → OneIsRefused e olds news → OneOfHasRisen (map (λ k. k.faults) olds) (map (λ k. k.faults) news)
  refused_device is [] news all = absurd all
  refused_device is (old ∷ olds) [] all = absurd all
  refused_device is (old ∷ olds) (new ∷ news) (inl one) = inl (one.0.device is)
  refused_device is (old ∷ olds) (new ∷ news) (inr (l, opened, same, all)) = inr (refused_device is olds news all)

  pub refused_some : (olds news : List KeyFile) → OneIsRefused e olds news → e ≡ error.NoLeaf → ⊥
  refused_some [] news all none = all
  refused_some (old ∷ olds) [] all none = all
  refused_some (old ∷ olds) (new ∷ news) (inl one) none = one.0.some none
  refused_some (old ∷ olds) (new ∷ news) (inr (l, opened, same, all)) none = refused_some olds news all none

-- ---- each of those that were opened

pub as_many_opened : (olds : List KeyFile) (news : List LedgerState) → AreOpened olds news → length news ≡ length olds
as_many_opened [] [] all = refl
as_many_opened [] (new ∷ news) all = absurd all
as_many_opened (old ∷ olds) [] all = absurd all
as_many_opened (old ∷ olds) (new ∷ news) all = let n = as_many_opened olds news all.1 in omega arith

-- What is so of a ledger that was opened.
pub record OpenedAs (secret : Secret) (l : LedgerState) : Type 0 where
  pub key : l.key ≡ public_key_of secret
  pub usable : l.usable ≡ true
  pub settled : l.outstanding ≡ 0
  pub rests : l.file.now ≡ at_rest l.file.now.text
  pub own_file : IsFileOf l.key l.file.now.text

pub each_opened : (olds : List KeyFile) (news : List LedgerState) → AreOpened olds news → (n : ℕ) → n < length olds → (s : Secret) (l : LedgerState) → OpenedAs (get_or (map (λ k. k.secret) olds) n s) (get_or news n l)
each_opened [] news all n small s l = absurd (omega arith)
each_opened (old ∷ olds) [] all n small s l = absurd all
each_opened (old ∷ olds) (new ∷ news) all zero small s l =
    let o = all.0 in
    record { key = o.key; usable = o.usable; settled = o.settled; rests = o.rests; own_file = subst (λ (k : List ℕ). IsFileOf k new.file.now.text) (sym o.key) o.own_file }
each_opened (old ∷ olds) (new ∷ news) all (suc n) small s l = each_opened olds news all.1 n (omega arith) s l

-- no leaf of any of them is outstanding
pub all_settled : (ledgers : List LedgerState) → ((n : ℕ) → n < length ledgers → (get_or ledgers n no_ledger).outstanding ≡ 0) → AreSettled ledgers
all_settled [] each = tt
all_settled (l ∷ ledgers) each = (each 0 (omega arith), all_settled ledgers (λ n small. each (suc n) (omega (arith, small))))

pub opened_later : (olds : List KeyFile) (news : List LedgerState) → AreOpened olds news → AreLater (map (λ k. k.faults) olds) (map (λ l. l.faults) news)
opened_later [] [] all = tt
opened_later [] (new ∷ news) all = absurd all
opened_later (old ∷ olds) [] all = absurd all
opened_later (old ∷ olds) (new ∷ news) all = (all.0.later, opened_later olds news all.1)

-- ---- ledgers that are handed back

closed_secrets : (own : List OwnKey) → map (λ k. k.secret) (map closed_key own) ≡ secrets_of own
closed_secrets [] = refl
closed_secrets (k ∷ own) = ap (λ (l : List Secret). k.secret ∷ l) (closed_secrets own)

closed_files : (own : List OwnKey) → map (λ k. k.file) (map closed_key own) ≡ map (λ l. l.file) (ledgers_of own)
closed_files [] = refl
closed_files (k ∷ own) = ap (λ (l : List History). k.ledger.file ∷ l) (closed_files own)

closed_counts : (own : List OwnKey) → map (λ k. k.faults) (map closed_key own) ≡ map (λ l. l.faults) (ledgers_of own)
closed_counts [] = refl
closed_counts (k ∷ own) = ap (λ (l : List ℕ). k.ledger.faults ∷ l) (closed_counts own)

module _ {D : Type 0} (history : D → History) (faults : D → ℕ) where
  abbrev pub files_of : List (Secret × D) → List KeyFile
  files_of keys = key_files history faults keys

  pub as_many_files : (keys : List (Secret × D)) → length (files_of keys) ≡ length keys
  as_many_files [] = refl
  as_many_files (k ∷ keys) = let rest = as_many_files keys in omega (arith, rest)

  -- before none
  module _ (own : List OwnKey) (back rest : List (Secret × D)) (none : length rest ≡ 0) (closed : files_of back ≡ map closed_key own ++ files_of rest) where
    alone : files_of back ≡ map closed_key own
    alone = closed ∙ ap (λ (l : List (Secret × D)). map closed_key own ++ files_of l) (none_left rest none) ∙ append-nil (map closed_key own)

    pub back_keys : map (λ k. k.0) back ≡ secrets_of own
    back_keys = sym (secrets_same history faults back) ∙ ap (λ (l : List KeyFile). map (λ k. k.secret) l) alone ∙ closed_secrets own

    pub back_files : map (λ k. history k.1) back ≡ map (λ l. l.file) (ledgers_of own)
    back_files = sym (files_same history faults back) ∙ ap (λ (l : List KeyFile). map (λ k. k.file) l) alone ∙ closed_files own

    pub back_counts : map (λ k. faults k.1) back ≡ map (λ l. l.faults) (ledgers_of own)
    back_counts = sym (faults_same history faults back) ∙ ap (λ (l : List KeyFile). map (λ k. k.faults) l) alone ∙ closed_counts own

  -- all were opened
  module _ (keys : List (Secret × D)) (ledgers : List LedgerState) (all : AreOpened (files_of keys) ledgers) where
    pub still_opened : AreStill (map (λ k. history k.1) keys) (map (λ l. l.file) ledgers)
    still_opened = subst (λ (l : List History). AreStill l (map (λ x. x.file) ledgers)) (files_same history faults keys) (opened_still (files_of keys) ledgers all)

    pub later_opened : AreLater (map (λ k. faults k.1) keys) (map (λ l. l.faults) ledgers)
    later_opened = subst (λ (l : List ℕ). AreLater l (map (λ x. x.faults) ledgers)) (faults_same history faults keys) (opened_later (files_of keys) ledgers all)

  -- one was refused
  module _ (e : LedgerError) (keys back : List (Secret × D)) (one : OneIsRefused e (files_of keys) (files_of back)) where
    pub still_refused : AreStill (map (λ k. history k.1) keys) (map (λ k. history k.1) back)
    still_refused =
        subst (λ (l : List History). AreStill l (map (λ k. history k.1) back)) (files_same history faults keys)
        (subst (λ (l : List History). AreStill (map (λ k. k.file) (files_of keys)) l) (files_same history faults back) (refused_still e (files_of keys) (files_of back) one))

    pub later_refused : AreLater (map (λ k. faults k.1) keys) (map (λ k. faults k.1) back)
    later_refused =
        subst (λ (l : List ℕ). AreLater l (map (λ k. faults k.1) back)) (faults_same history faults keys)
        (subst (λ (l : List ℕ). AreLater (map (λ k. k.faults) (files_of keys)) l) (faults_same history faults back) (refused_later e (files_of keys) (files_of back) one))

    pub risen_refused : e ≡ error.Device → OneOfHasRisen (map (λ k. faults k.1) keys) (map (λ k. faults k.1) back)
    risen_refused is =
        subst (λ (l : List ℕ). OneOfHasRisen l (map (λ k. faults k.1) back)) (faults_same history faults keys)
        (subst (λ (l : List ℕ). OneOfHasRisen (map (λ k. k.faults) (files_of keys)) l) (faults_same history faults back) (refused_device e is (files_of keys) (files_of back) one))

    pub same_refused : map (λ k. k.0) back ≡ map (λ k. k.0) keys
    same_refused = sym (secrets_same history faults back) ∙ refused_secrets e (files_of keys) (files_of back) one ∙ secrets_same history faults keys
