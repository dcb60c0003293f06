-- The premises of a run hold of it as it was at each moment; and which premises follow from which.
use Rattle.std.proofs.Common.{Bool, true, false, ◌==◌, List, [], ◌∷◌, ◌++◌, Option, Some, None, IfSome, inl, inr, if◌then◌else◌}
use Rattle.std.specs.Prelude.{◌↔◌}
use Rattle.std.specs.List.{All, Contains, flat_map}
use Rattle.std.proofs.lemmas.List.Elements.{All-weaker}
use Rattle.layout.specs.Types.{Bytes, Digest, User}
use Rattle.update_cert.specs.Change.{Action, Make, Put, Remove, Link, Unlink, AddUser, AddMember, DropMember, SetKey, Change}
use Rattle.update_cert.specs.Cert.{Cert}
use Rattle.pending_list.specs.declared.signed.Signed.{Signed}
use Rattle.client_releases.specs.Told.{cert_in}
use Rattle.client_tree.specs.Genesis.{first_texts}
use Rattle.agreement.proofs.Members.{In, contains_in, in-append, in-left, in-right, in_contains, of_all, to_all}
use Rattle.client_runs.specs.Released.{Shown, hashed, hashed_at, released, released_by, shown_by}
use Rattle.client_runs.specs.Runs.{Event, IsRun, Keys, pinned as pinned_key}
use Rattle.client_runs.specs.UsedOnce.{LeavesOnce}
use Rattle.client_runs.proofs.Once.{leaves_once}
use Rattle.fork_consistency.specs.ForkConsistent.{HasNoUser}
use Rattle.fork_consistency.specs.OwnParts.{IsOutside, StolenPremises}
use Rattle.fork_consistency.specs.Premises.{AddsOwnKeysOf, AreKeys, AreKeysOf, GivesOwnKeyOf, IsGenuine, NoCollision, NoneForgedOf, Premises, PremisesOf, TextAddsOwnKeysOf, everybody}
use Rattle.fork_consistency.proofs.ByCertificates.{fewer_forged}

-- ---- at an earlier moment

module _ (keys : Keys) where
  pub is_before : (later older : List Event) → IsRun keys (later ++ older) → IsRun keys older
  is_before [] older is = is
  is_before (e ∷ later) older is = is_before later older is.2

  forged_before : (some : User → Type 0) (whole later older : List Event) → NoneForgedOf some keys whole (later ++ older) → NoneForgedOf some keys whole older
  forged_before some whole [] older none = none
  forged_before some whole (e ∷ later) older none = forged_before some whole later older none.1

  -- no leaf of a key carries two texts in the whole run, so that what isn't forged there isn't in a part
  forged_in : (some : User → Type 0) (whole part : List Event) → ((u : User) → LeavesOnce keys u whole) → (run : List Event) → NoneForgedOf some keys whole run → NoneForgedOf some keys part run
  forged_in some whole part once [] none = tt
  forged_in some whole part once (e ∷ older) none =
      (All-weaker (λ (t : Shown). some t.user → IsGenuine keys whole older t) (λ (t : Shown). some t.user → IsGenuine keys part older t) (λ t g one apart here. g one apart (once t.user)) (shown_by e.call) none.0, forged_in some whole part once older none.1)

  none_forged_before : (some : User → Type 0) (later older : List Event) → IsRun keys (later ++ older) → NoneForgedOf some keys (later ++ older) (later ++ older) → NoneForgedOf some keys older older
  none_forged_before some later older is none =
      forged_in some (later ++ older) older (λ u. leaves_once keys (later ++ older) u is) older (forged_before some (later ++ older) later older none)

  hashed_in : (later older : List Event) (t : Bytes) → In t (flat_map hashed_at older) → In t (flat_map hashed_at (later ++ older))
  hashed_in [] older t i = i
  hashed_in (e ∷ later) older t i = in-right t (hashed_at e) (flat_map hashed_at (later ++ older)) (hashed_in later older t i)

  hashed_before : (later older : List Event) (t : Bytes) → Contains (hashed keys older) t → Contains (hashed keys (later ++ older)) t
  hashed_before later older t has =
      let first = first_texts (pinned_key keys) in
      in_contains t (hashed keys (later ++ older))
      (elim (in-append t (flat_map hashed_at older) first (contains_in t (hashed keys older) has)) [
        | inl i ↦ in-left t (flat_map hashed_at (later ++ older)) first (hashed_in later older t i)
        | inr i ↦ in-right t (flat_map hashed_at (later ++ older)) first i
      ])

  no_collision_before : (later older : List Event) → NoCollision keys (later ++ older) → NoCollision keys older
  no_collision_before later older apart a b has_a has_b same = apart a b (hashed_before later older a has_a) (hashed_before later older b has_b) same

  released_before : (u : User) (later older : List Event) (a : Bytes) → In a (released u older) → In a (released u (later ++ older))
  released_before u [] older a i = i
  released_before u (e ∷ later) older a i = go (e.user == u) (released_before u later older a i)
    where
      go : (b : Bool) → In a (released u (later ++ older)) → In a (if b then released_by e.call e.after ++ released u (later ++ older) else released u (later ++ older))
      go true j = in-right a (released_by e.call e.after) (released u (later ++ older)) j
      go false j = j

  added_before : (some : User → Type 0) (later older : List Event) → AddsOwnKeysOf some keys (later ++ older) → AddsOwnKeysOf some keys older
  added_before some later older added =
      to_all (TextAddsOwnKeysOf some keys) (released 0 older) (λ a i. of_all (TextAddsOwnKeysOf some keys) (released 0 (later ++ older)) added a (released_before 0 later older a i))

  pub premises_before : (some : User → Type 0) (later older : List Event) → IsRun keys (later ++ older) → PremisesOf some keys (later ++ older) → PremisesOf some keys older
  premises_before some later older is p = record {
    no_forgery = none_forged_before some later older is p.no_forgery;
    no_collision = no_collision_before later older p.no_collision;
    added = added_before some later older p.added;
  }

-- ---- of fewer users

module _ (keys : Keys) (some few : User → Type 0) (among : (u : User) → few u → some u) where
  fewer_given : (a : Action Digest) → GivesOwnKeyOf some keys a → GivesOwnKeyOf few keys a
  fewer_given (AddUser u key) given = λ one. given (among u one)
  fewer_given (SetKey u key) given = λ one. given (among u one)
  fewer_given (Make new) given = tt
  fewer_given (Put new) given = tt
  fewer_given Remove given = tt
  fewer_given (Link entry) given = tt
  fewer_given (Unlink name) given = tt
  fewer_given (AddMember g u) given = tt
  fewer_given (DropMember g u) given = tt

  fewer_in_text : (text : Bytes) → TextAddsOwnKeysOf some keys text → TextAddsOwnKeysOf few keys text
  fewer_in_text text = go (cert_in 0 text)
    where
      go : (o : Option (Signed Cert)) → IfSome o (λ c. All (λ (change : Change Digest). GivesOwnKeyOf some keys change.action) c.value.changes)
          → IfSome o (λ c. All (λ (change : Change Digest). GivesOwnKeyOf few keys change.action) c.value.changes)
      go None given = tt
      go (Some c) given =
          All-weaker (λ (change : Change Digest). GivesOwnKeyOf some keys change.action) (λ (change : Change Digest). GivesOwnKeyOf few keys change.action) (λ change given. fewer_given change.action given) c.value.changes given

  fewer_added : (run : List Event) → AddsOwnKeysOf some keys run → AddsOwnKeysOf few keys run
  fewer_added run added = All-weaker (TextAddsOwnKeysOf some keys) (TextAddsOwnKeysOf few keys) fewer_in_text (released 0 run) added

  pub fewer_assumed : (run : List Event) → PremisesOf some keys run → PremisesOf few keys run
  fewer_assumed run p = record {
    no_forgery = fewer_forged some few among keys run run p.no_forgery;
    no_collision = p.no_collision;
    added = fewer_added run p.added;
  }

-- where nobody's key is stolen the premises are those of fork consistency
pub of_nobody : (stolen : User → Bool) (keys : Keys) (run : List Event) → HasNoUser stolen → StolenPremises stolen keys run ↔ Premises keys run
of_nobody stolen keys run none = (
  (λ p. fewer_assumed keys (IsOutside stolen) everybody (λ u one. none u) run p.1),
  (λ p. (none 0, fewer_assumed keys everybody (IsOutside stolen) (λ u out. tt) run p)),
)

-- and so is what is asked of keys
fewer_keys : (some few : User → Type 0) → ((u : User) → few u → some u) → (keys : Keys) → AreKeysOf some keys → AreKeysOf few keys
fewer_keys some few among keys are = record { pinned = are.pinned; apart = λ u one. are.apart u (among u one) }

pub keys_of_nobody : (stolen : User → Bool) (keys : Keys) → HasNoUser stolen → AreKeysOf (IsOutside stolen) keys ↔ AreKeys keys
keys_of_nobody stolen keys none = (fewer_keys (IsOutside stolen) everybody (λ u one. none u) keys, fewer_keys everybody (IsOutside stolen) (λ u out. tt) keys)
