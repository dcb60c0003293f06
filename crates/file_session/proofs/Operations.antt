-- Operations.
use Rattle.std.proofs.Common.{◌≡◌, ℕ, suc, ◌+◌, ◌<◌, ◌≤◌, List, [], ◌∷◌, ◌++◌, Option, Result, Ok, Err, refl, sym, ap, ◌∙◌, subst, drop, take, length, get_or, drop-cons, add-one, append-nil, OnOk, map}
use Rattle.std.proofs.lemmas.List.{drop_all, map-append, take_all, take_more}
use Rattle.std.specs.Vec.{vec_items}
use Rattle.std.specs.declared.vec.Vec.{Vec}
use Rattle.layout.specs.Types.{Bytes, Digest}
use Rattle.update_cert.specs.Change.{Change}
use Rattle.wire.specs.declared.kinds.Status.{Status}
use Rattle.wire.specs.declared.kinds.Status.TheVariants as status
use Rattle.client_releases.specs.declared.error.ClientError.{ClientError}
use Rattle.client_verify.specs.declared.step.Step.{Step}
use Rattle.client_verify.specs.declared.step.Step.TheVariants as step
use Rattle.client_verify.specs.State.{State}
use Rattle.client_steps.specs.Steps.{Asks}
use Rattle.client_steps.specs.Anywhere.{bytes_anywhere, texts_anywhere}
use Rattle.file_session.specs.declared.stop.Stop.{Stop}
use Rattle.file_session.specs.declared.stop.Stop.TheVariants as stop
use Rattle.transport.specs.declared.transport.TransportError.{TransportError}
use Rattle.file_session.specs.Replies.{payload_in, block_in, status_in, synced_in}
use Rattle.file_session.specs.Calls.{Hears, Takes, Leads}
use Rattle.file_session.specs.Order.{Next, Ready, Unsynced, Hear, Fetch, Store, Sync, Commit, Over, checking, left_to_store, storing, stored_or, syncing, laying, laid_or, committed, telling, get, commit, put as put_of, sync, texts_of}
use Rattle.file_session.specs.Went.{Answering, At, point, Begun, signs, Went, Finished, Operated}
use Rattle.file_session.proofs.Runs.{went_then, went_as, heard, fetched, took, put, laid, laid_so_far, sent, synced, synced_laid}

pub on_ok : {X E : Type 0} (r : Result X E) {P : Type 0} → P → OnOk r P
on_ok (Ok x) h = h
on_ok (Err e) h = tt

pub committed_not : (s : Status) → (s ≡ status.Ok → ⊥) → committed s ≡ Over (stop.Declined s)
committed_not status.Ok h = absurd (h refl)
committed_not other h = refl

pub laid_more : {A : Type 0} (texts : List (Vec ℕ A)) (k : ℕ) (item : Vec ℕ A) → k < length texts → item ≡ get_or texts k item → map vec_items (take k texts) ++ item.items ∷ [] ≡ map vec_items (take (k + 1) texts)
laid_more texts k item few is =
    sym (ap (map vec_items) (take_more texts k item few) ∙ map-append vec_items (take k texts) (get_or texts k item ∷ []) ∙ ap (λ x. map vec_items (take k texts) ++ x.items ∷ []) (sym is))

-- a text was stored for an operation
some_laid : (before : List Bytes) (text : Bytes) → Unsynced (before ++ text ∷ []) ≡ laid_so_far (before ++ text ∷ [])
some_laid [] text = refl
some_laid (first ∷ before) text = refl

pub laid_more_so_far : {A : Type 0} (texts : List (Vec ℕ A)) (k : ℕ) (item : Vec ℕ A) → k < length texts → item ≡ get_or texts k item → Unsynced (map vec_items (take k texts) ++ item.items ∷ []) ≡ laid_so_far (map vec_items (take (k + 1) texts))
laid_more_so_far texts k item few is = some_laid (map vec_items (take k texts)) item.items ∙ ap laid_so_far (laid_more texts k item few is)

-- all were stored
pub none_is_left : {A : Type 0} (texts : List (Vec ℕ A)) (k : ℕ) → length texts ≤ k → left_to_store (map vec_items (drop k texts)) ≡ Sync
none_is_left texts k all = ap (λ l. left_to_store (map vec_items l)) (drop_all k texts all)

unsynced : {A : Type 0} (texts : List (Vec ℕ A)) → (texts ≡ [] → ⊥) → laid_so_far (map vec_items texts) ≡ Unsynced (map vec_items texts)
unsynced [] some = absurd (some refl)
unsynced (text ∷ texts) some = refl

pub all_are_laid : {A : Type 0} (texts : List (Vec ℕ A)) (k : ℕ) → (texts ≡ [] → ⊥) → length texts ≤ k → laid_so_far (map vec_items (take k texts)) ≡ Unsynced (map vec_items texts)
all_are_laid texts k some all = ap (λ l. laid_so_far (map vec_items l)) (take_all k texts all) ∙ unsynced texts some

stored : (r : Result (Unit {0}) Stop) → syncing (Store []) r ≡ stored_or r
stored (Ok x) = refl
stored (Err e) = refl

laid_by : (texts : List Bytes) (r : Result (Unit {0}) Stop) → syncing (Ready texts) r ≡ laid_or texts r
laid_by texts (Ok x) = refl
laid_by texts (Err e) = refl

-- texts are the same wherever they lie
same_texts : {B A : Type 0} (texts : List (Vec B A)) → map vec_items (map bytes_anywhere texts) ≡ map vec_items texts
same_texts [] = refl
same_texts (x ∷ texts) = ap (λ ts. x.items ∷ ts) (same_texts texts)

pub texts_are : {A : Type 0} (texts : Vec (Vec ℕ A) A) → texts_of (texts_anywhere texts) ≡ texts_of texts
texts_are texts = same_texts texts.items

module _ {T : Type 0} {answers : Answering T} where
  -- a block was asked for, and came or is absent, and the reply under check goes on
  pub checks_on : (a : At T) (m n m' : State) (t t' : T) (digest : Digest) (block : Option Bytes) (x : Result Asks ClientError)
      → Went answers a (point m t (Fetch digest)) []
      → n ≡ m → ((y : Result Bytes TransportError) × answers t (get digest) y t' × (Ok block ≡ block_in y))
      → Leads n (Takes block x) m'
      → Went answers a (point m' t' (checking x)) []
  checks_on a m n m' t t' digest block x before same came h =
      went_then (went_then before (fetched m n t t' digest (Ok block) same came)) (took n m' t' block x h)

  pub checks_no_more : (a : At T) (m n : State) (t t' : T) (digest : Digest) (e : Stop)
      → Went answers a (point m t (Fetch digest)) []
      → n ≡ m → ((y : Result Bytes TransportError) × answers t (get digest) y t' × (Err e ≡ block_in y))
      → Went answers a (point n t' (Over e)) []
  checks_no_more a m n t t' digest e before same came = went_then before (fetched m n t t' digest (Err e) same came)

  -- a text was stored of those that are to be
  pub stores_on : {A : Type 0} (a : At T) (m : State) (t t' : T) (texts : List (Vec ℕ A)) (k : ℕ) (item : Vec ℕ A) (said : Bytes) (r : Result Bytes Stop) → k < length texts → item ≡ get_or texts k item → said ≡ item.items
      → Went answers a (point m t (left_to_store (map vec_items (drop k texts)))) []
      → ((x : Result Bytes TransportError) × answers t (put_of said) x t' × (r ≡ payload_in x))
      → Went answers a (point m t' (storing (map vec_items (drop (k + 1) texts)) r)) []
  stores_on {A} a m t t' texts k item said r few is text before came =
      let C : List (Vec ℕ A) → Type 0 = λ l. Went answers a (point m t (left_to_store (map vec_items l))) [] in
      let D : Bytes → Type 0 = λ b. (x : Result Bytes TransportError) × answers t (put_of b) x t' × (r ≡ payload_in x) in
      let front : drop k texts ≡ item ∷ drop (k + 1) texts = drop-cons texts k item few ∙ ap (λ x. x ∷ drop (suc k) texts) (sym is) ∙ ap (λ j. item ∷ drop j texts) (sym (add-one k)) in
      went_then (subst C front before) (put m m t t' item.items (map vec_items (drop (k + 1) texts)) r refl (subst D text came))

  -- a text was stored for an operation, beside those before it
  pub lays_on : {A : Type 0} (a : At T) (m : State) (t t' : T) (texts : List (Vec ℕ A)) (k : ℕ) (item : Vec ℕ A) (said : Bytes) (r : Result Bytes Stop) → said ≡ item.items
      → Went answers a (point m t (laid_so_far (map vec_items (take k texts)))) []
      → ((x : Result Bytes TransportError) × answers t (put_of said) x t' × (r ≡ payload_in x))
      → Went answers a (point m t' (laying (map vec_items (take k texts)) item.items r)) []
  lays_on a m t t' texts k item said r text before came =
      let D : Bytes → Type 0 = λ b. (x : Result Bytes TransportError) × answers t (put_of b) x t' × (r ≡ payload_in x) in
      went_then before (laid m m t t' (map vec_items (take k texts)) item.items r refl (subst D text came))

  to_next : {a : At T} {m : State} {t : T} {now next : Next} → now ≡ next → Went answers a (point m t now) [] → Went answers a (point m t next) []
  to_next {a} {m} {t} is h = let P : Next → Type 0 = λ n. Went answers a (point m t n) [] in subst P is h

  -- all were stored, and then synced
  pub stores_all : {A : Type 0} (a : At T) (m : State) (t t' : T) (texts : List (Vec ℕ A)) (k : ℕ) (r : Result (Unit {0}) Stop) → length texts ≤ k
      → Went answers a (point m t (left_to_store (map vec_items (drop k texts)))) []
      → ((x : Result Bytes TransportError) × answers t sync x t' × (r ≡ synced_in x))
      → Went answers a (point m t' (stored_or r)) []
  stores_all a m t t' texts k r all before came = to_next (stored r) (went_then (to_next (none_is_left texts k all) before) (synced m m t t' r refl came))

  pub lays_all : {A : Type 0} (a : At T) (m : State) (t t' : T) (texts : List (Vec ℕ A)) (k : ℕ) (r : Result (Unit {0}) Stop) → (texts ≡ [] → ⊥) → length texts ≤ k
      → Went answers a (point m t (laid_so_far (map vec_items (take k texts)))) []
      → ((x : Result Bytes TransportError) × answers t sync x t' × (r ≡ synced_in x))
      → Went answers a (point m t' (laid_or (map vec_items texts) r)) []
  lays_all a m t t' texts k r some all before came =
      let laid = map vec_items texts in
      to_next (laid_by laid r) (went_then (to_next (all_are_laid texts k some all) before) (synced_laid m m t t' laid r refl came))

  -- the structure was sent
  pub sends : (m : State) (t t' : T) (said text : Bytes) (r : Result Status Stop) → said ≡ text → ((x : Result Bytes TransportError) × answers t (commit said) x t' × (r ≡ status_in x))
      → Went answers (point m t (Commit text)) (point m t' (telling r)) []
  sends m t t' said text r is came =
      let C : Bytes → Type 0 = λ x. Went answers (point m t (Commit x)) (point m t' (telling r)) [] in subst C is (sent m m t t' said r refl came)

  -- its reply was handed in
  pub hears : (m m' : State) (t : T) (said text : Bytes) (x : Result Asks ClientError) → said ≡ text → Leads m (Hears said x) m' → Went answers (point m t (Hear text)) (point m' t (checking x)) []
  hears m m' t said text x is h =
      let C : Bytes → Type 0 = λ b. Went answers (point m t (Hear b)) (point m' t (checking x)) [] in subst C is (heard m m' t said x h)

  -- the texts that are to be stored are these
  pub stores : {c : At T} (a : At T) (m : State) (t : T) (x y : List Bytes) → x ≡ y → Went answers a (point m t (Store y)) [] → Went answers (point m t (Store x)) c [] → Went answers a c []
  stores a m t x y is h k = let C : List Bytes → Type 0 = λ l. Went answers a (point m t (Store l)) [] in went_then (subst C (sym is) h) k

  -- ---- parts of an operation

  pub goes_on : {a b c : At T} {P : List (List ℕ) → Type 0} → Went answers a b [] → Finished answers b c P → Finished answers a c P
  goes_on h k = record { signed = k.signed; went = went_then h k.went; lost = k.lost }

  pub ends_before : {a b : At T} (P : List (List ℕ) → Type 0) → Went answers a b [] → P [] → Finished answers a b P
  ends_before P h p = record { signed = []; went = h; lost = p }

  pub ends_signed : {a b c : At T} (P : List (List ℕ) → Type 0) (lost : List (List ℕ)) → Went answers a b (signs lost) → Went answers b c [] → P lost → Finished answers a c P
  ends_signed P lost h k p = record { signed = lost; went = went_as (went_then h k) (append-nil (signs lost)); lost = p }

  pub operates : {a b c : At T} {changes : List (Change Digest)} {laid : List Bytes} {P : List (List ℕ) → Type 0} → Went answers a b (Begun changes laid ∷ []) → Finished answers b c P → Operated answers a c changes laid P
  operates h k = record { signed = k.signed; went = went_then h k.went; lost = k.lost }

  pub operates_not : {a b : At T} {changes : List (Change Digest)} {laid : List Bytes} (P : List (List ℕ) → Type 0) → Went answers a b (Begun changes laid ∷ []) → P [] → Operated answers a b changes laid P
  operates_not P h p = record { signed = []; went = h; lost = p }

-- ---- how long a reply is under check

abbrev pub rounds : {A : Type 0} → Result (Step A) ClientError → ℕ → ℕ
rounds (Ok (step.Need digest)) left = suc left
rounds other left = 0
