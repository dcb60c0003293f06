-- The keys that are tried, one after another.
use Rattle.std.proofs.Common.{◌≡◌, ◌≢◌, ℕ, ◌+◌, Bool, true, false, cond, List, [], ◌∷◌, ◌++◌, Option, Result, Ok, Err, length, get_or, filter, reverse, refl, sym, ap, ◌∙◌, subst, arith}
use Rattle.std.specs.Prelude.{◌&&◌, nat_le}
use Rattle.std.specs.Option.{unwrap_or}
use Rattle.std.specs.List.{range_with_len}
use Rattle.std.proofs.lemmas.List.{get_or-set_other, map-id, reverse-append}
use Rattle.std.proofs.lemmas.List.FromFn.{map-range_with_len_more}
use Rattle.layout.specs.Types.{Bytes}
use Rattle.leaf_ledger.specs.Ledger.{LedgerState, free_leaves}
use Rattle.wire.specs.declared.kinds.Status.TheVariants as status
use Rattle.client_releases.specs.Releasing.{OthersStay, no_ledger}
use Rattle.client_verify.specs.State.{State, declaring_key}
use Rattle.file_session.specs.declared.stop.Stop.{Stop}
use Rattle.file_session.specs.declared.stop.Stop.TheVariants as stop
use Rattle.transport.specs.declared.transport.TransportError.{TransportError}
use Rattle.file_session.specs.Replies.{payload_in}
use Rattle.file_session.specs.Order.{Over, Resign, Update, hearing, trying, update}
use Rattle.file_session.specs.Tries.{is_another, is_to_try, keys_to_try, leaves_left}
use Rattle.file_session.specs.Went.{Answering, At, Went, point}
use Rattle.file_session.proofs.Runs.{updated, went_then}
use Rattle.file_session.proofs.Turns.{went_to}

-- ---- an answer

-- where no key is left, each stop is one for good
pub none_left : (e : Stop) → hearing [] (Err e) ≡ Over e
none_left (stop.Declined status.BadSignature) = refl
none_left other = refl

-- which keys are left matters only where the signature is declined
pub any_left : (keys : List ℕ) (r : Result Bytes Stop) → r ≢ Err (stop.Declined status.BadSignature) → hearing keys r ≡ hearing [] r
any_left keys (Ok text) not = refl
any_left keys (Err (stop.Declined status.BadSignature)) not = absurd (not refl)
any_left keys (Err other) not = refl

-- ---- which keys

-- those of the first keys that are to be tried, so many
abbrev pub tries_among : State → Option ℕ → ℕ → List ℕ
tries_among s signer k = filter (is_to_try s signer) (reverse (range_with_len 0 k))

pub tries_all : (s : State) (signer : Option ℕ) (k : ℕ) → signer ≡ declaring_key s → k ≡ length s.secrets → keys_to_try s ≡ tries_among s signer k
unfolding keys_to_try
tries_all s signer k one all =
    ap (λ (o : Option ℕ). tries_among s o (length s.secrets)) (sym one) ∙ ap (tries_among s signer) (sym all)

one_more : (n : ℕ) → range_with_len 0 (n + 1) ≡ range_with_len 0 n ++ n ∷ []
one_more n =
    sym (map-id (range_with_len 0 (n + 1))) ∙ map-range_with_len_more (λ (x : ℕ). x) 0 n n (omega arith)
    ∙ ap (λ (l : List ℕ). l ++ n ∷ []) (map-id (range_with_len 0 n))

last_first : (n : ℕ) → reverse (range_with_len 0 (n + 1)) ≡ n ∷ reverse (range_with_len 0 n)
last_first n = ap (λ (l : List ℕ). reverse l) (one_more n) ∙ reverse-append (range_with_len 0 n) (n ∷ [])

module _ (s : State) (signer : Option ℕ) (n : ℕ) where
  last_one : tries_among s signer (n + 1) ≡ cond (is_to_try s signer n) (n ∷ tries_among s signer n) (tries_among s signer n)
  last_one = ap (filter (is_to_try s signer)) (last_first n)

  pub is_tried : is_to_try s signer n ≡ true → trying (tries_among s signer (n + 1)) ≡ Resign n (tries_among s signer n)
  is_tried does = ap trying (last_one ∙ ap (λ (b : Bool). cond b (n ∷ tries_among s signer n) (tries_among s signer n)) does)

  pub is_left_out : is_to_try s signer n ≡ false → tries_among s signer (n + 1) ≡ tries_among s signer n
  is_left_out not = last_one ∙ ap (λ (b : Bool). cond b (n ∷ tries_among s signer n) (tries_among s signer n)) not

-- a key that wasn't tried yet has the leaves that it had
pub same_leaves : (s new : State) (signer : Option ℕ) (n : ℕ) → leaves_left new n ≡ leaves_left s n → is_to_try new signer n ≡ is_to_try s signer n
same_leaves s new signer n same = ap (λ (left : ℕ). is_another signer n && nat_le 2 left) same

pub others_stay : (n : ℕ) (old new : State) → OthersStay n old.devices new.devices → (m : ℕ) → m ≢ n → leaves_left new m ≡ leaves_left old m
others_stay n old new others m other =
    ap (λ (l : LedgerState). free_leaves l.file.now.text)
    (ap (λ (ls : List LedgerState). get_or ls m no_ledger) others ∙ get_or-set_other old.devices.ledgers n m _ no_ledger other)

-- none is left below the first
pub no_keys : (s : State) (signer : Option ℕ) (k : ℕ) → k ≡ 0 → trying (tries_among s signer k) ≡ Over (stop.Declined status.BadSignature)
no_keys s signer k none = ap (λ (n : ℕ). trying (tries_among s signer n)) none

-- ---- moves

module _ {T : Type 0} {answers : Answering T} where
  -- the certificate was sent
  pub updates : (m : State) (t t' : T) (said text : Bytes) (left : Option (List ℕ)) (r : Result Bytes Stop) → said ≡ text → ((x : Result Bytes TransportError) × answers t (update said) x t' × (r ≡ payload_in x))
      → Went answers (point m t (Update text left)) (point m t' (hearing (unwrap_or left (keys_to_try m)) r)) []
  updates m t t' said text left r is came =
      let C : Bytes → Type 0 = λ x. Went answers (point m t (Update x left)) (point m t' (hearing (unwrap_or left (keys_to_try m)) r)) [] in
      subst C is (updated m m t t' said left r refl came)

  module _ (s : State) (signer : Option ℕ) (n : ℕ) {a : At T} {m : State} {t : T} where
    -- a key was left out
    pub left_out : is_to_try s signer n ≡ false → Went answers a (point m t (trying (tries_among s signer (n + 1)))) [] → Went answers a (point m t (trying (tries_among s signer n))) []
    left_out not h = went_to (ap trying (is_left_out s signer n not)) h

    -- one was tried
    tried : {m' : State} {t' : T} (r : Result Bytes Stop) → is_to_try s signer n ≡ true → Went answers a (point m t (trying (tries_among s signer (n + 1)))) []
        → ((keys : List ℕ) → Went answers (point m t (Resign n keys)) (point m' t' (hearing keys r)) []) → Went answers a (point m' t' (hearing (tries_among s signer n) r)) []
    tried r does h k = went_then (went_to (is_tried s signer n does) h) (k (tries_among s signer n))

    -- and its signature was declined, too, or it wasn't
    pub tries_on : {m' : State} {t' : T} (r : Result Bytes Stop) → r ≡ Err (stop.Declined status.BadSignature) → is_to_try s signer n ≡ true → Went answers a (point m t (trying (tries_among s signer (n + 1)))) []
        → ((keys : List ℕ) → Went answers (point m t (Resign n keys)) (point m' t' (hearing keys r)) []) → Went answers a (point m' t' (trying (tries_among s signer n))) []
    tries_on r is does h k = went_to (ap (hearing (tries_among s signer n)) is) (tried r does h k)

    pub tries_no_more : {m' : State} {t' : T} (r : Result Bytes Stop) → r ≢ Err (stop.Declined status.BadSignature) → is_to_try s signer n ≡ true → Went answers a (point m t (trying (tries_among s signer (n + 1)))) []
        → ((keys : List ℕ) → Went answers (point m t (Resign n keys)) (point m' t' (hearing keys r)) []) → Went answers a (point m' t' (hearing [] r)) []
    tries_no_more r not does h k = went_to (any_left (tries_among s signer n) r not) (tried r does h k)
