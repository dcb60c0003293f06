-- A client in memory that gains keys: which those are, and what is closed then.
use Rattle.std.proofs.Common.{◌≡◌, ◌<◌, ◌+◌, ℕ, zero, suc, Bool, true, false, ◌==◌, if◌then◌else◌, List, [], ◌∷◌, ◌++◌, length, map, take, refl, sym, ap, ◌∙◌, subst, arith}
use Rattle.std.proofs.lemmas.List.{length-map, length_push, map-append}
use Rattle.layout.specs.Types.{User}
use Rattle.lms_sign.specs.Secret.{Secret}
use Rattle.client_releases.specs.declared.parts.Parts.{Parts as Held}
use Rattle.client_steps.specs.Steps.{Client, Device, HasGained, empty, first, ledgers_in, secrets_in}
use Rattle.client_runs.specs.declared.slot.Slot.TheVariants as slot
use Rattle.client_runs.specs.Runs.{owner}
use Rattle.client_runs.specs.Carried.{script_key, script_keys}
use Rattle.client_runs.specs.Slots.{AreFirst, IsOf, client_in, parts_in}

-- ---- the keys of scripts

-- those of user 0, and of another user
abbrev pub keys_where : User → Bool → List Secret
keys_where u super = if super then script_key u 0 ∷ [] else script_key u 0 ∷ script_key u 1 ∷ script_key u 2 ∷ script_key u 3 ∷ []

-- how many there are
pub counted : (u : User) (super : Bool) → length (keys_where u super) ≡ (if super then 1 else 4)
counted u true = refl
counted u false = refl

pub one_key : (u : User) → (u == 0) ≡ true → 1 ≡ length (script_keys u)
one_key u is = ap (λ (b : Bool). length (keys_where u b)) (sym is)

pub four_keys : (u : User) → (u == 0) ≡ false → 4 ≡ length (script_keys u)
four_keys u is = ap (λ (b : Bool). length (keys_where u b)) (sym is)

more : (u : User) (super : Bool) (n : ℕ) → n < length (keys_where u super) → take (n + 1) (keys_where u super) ≡ take n (keys_where u super) ++ script_key u n ∷ []
more u true zero inside = refl
more u true (suc n) inside = absurd (omega (arith, inside))
more u false zero inside = refl
more u false (suc zero) inside = refl
more u false (suc (suc zero)) inside = refl
more u false (suc (suc (suc zero))) inside = refl
more u false (suc (suc (suc (suc n)))) inside = absurd (omega (arith, inside))

few : (u : User) (super : Bool) → length (keys_where u super) < 5
few u true = omega arith
few u false = omega arith

-- a number of a key that there is
pub within : (u : User) (n : ℕ) → n < length (script_keys u) → n < 4
within u n inside = omega (arith, inside, few u (u == 0))

-- ---- the keys of a client

-- at first it has one
pub one_first : (u : User) (k : Secret) → k ≡ script_key u 0 → AreFirst (k ∷ []) (script_keys u)
one_first u k is = (omega arith, more u (u == 0) 0 (some u (u == 0)) ∙ ap (λ (x : Secret). x ∷ []) (sym is))
  where
    some : (v : User) (super : Bool) → 0 < length (keys_where v super)
    some v true = omega arith
    some v false = omega arith

-- and with the next one it has one more
pub one_more_first : (u : User) (secrets : List Secret) (k : Secret) → k ≡ script_key u (length secrets) → AreFirst secrets (script_keys u) → length secrets < length (script_keys u) → AreFirst (secrets ++ k ∷ []) (script_keys u)
one_more_first u secrets k is own inside = (
  omega (arith, length_push secrets k),
  ap (λ n. take n (script_keys u)) (length_push secrets k) ∙ more u (u == 0) (length secrets) inside
      ∙ ap (λ (l : List Secret). l ++ script_key u (length secrets) ∷ []) own.1 ∙ ap (λ (x : Secret). secrets ++ x ∷ []) (sym is),
)

-- ---- what is closed

abbrev device_of : Secret × Device → Device
device_of k = record { history = k.1.history; faults = k.1.faults }

module _ {A : Type 0} (u : User) where
  -- before anything happens
  pub at_first : (p : Held Device Device A) (k : Secret) (ledger : Device) → p.keys.items ≡ (k, ledger) ∷ [] → ledger ≡ empty → p.journal ≡ empty → client_in (slot.Closed p) ≡ first
  at_first p k ledger keys none journal = rw (keys, none, journal) refl

  pub own_first : (p : Held Device Device A) (k : Secret) (ledger : Device) → p.keys.items ≡ (k, ledger) ∷ [] → k ≡ script_key u 0 → IsOf (owner script_keys u) (slot.Closed p)
  own_first p k ledger keys is = subst (λ (l : List (Secret × Device)). AreFirst (secrets_in l) (script_keys u)) (sym keys) (one_first u k is)

  module _ (p q : Held Device Device A) (k : Secret × Device) (pushed : q.keys.items ≡ p.keys.items ++ k ∷ []) (inside : length p.keys.items < length (script_keys u)) where
    size : length (secrets_in p.keys.items) ≡ length p.keys.items
    size = length-map p.keys.items (λ (x : Secret × Device). x.0)

    pub has_gained : k.1 ≡ empty → q.journal ≡ p.journal → HasGained (owner script_keys u) (parts_in p) (parts_in q)
    has_gained none same = record {
      fewer = subst (λ n. n < length (script_keys u)) (sym (length-map p.keys.items device_of)) inside;
      ledgers =
          ap (λ (l : List (Secret × Device)). ledgers_in (λ (d : Device). d.history) (λ (d : Device). d.faults) l) pushed
          ∙ map-append device_of p.keys.items (k ∷ [])
          ∙ ap (λ (d : Device). map device_of p.keys.items ++ d ∷ []) none;
      journal = same;
    }

    pub own_more : k.0 ≡ script_key u (length p.keys.items) → IsOf (owner script_keys u) (slot.Closed p) → IsOf (owner script_keys u) (slot.Closed q)
    own_more is own =
        let secrets : secrets_in q.keys.items ≡ secrets_in p.keys.items ++ k.0 ∷ [] = ap (λ (l : List (Secret × Device)). secrets_in l) pushed ∙ map-append (λ (x : Secret × Device). x.0) p.keys.items (k ∷ []) in
        subst (λ (l : List Secret). AreFirst l (script_keys u)) (sym secrets)
        (one_more_first u (secrets_in p.keys.items) k.0 (is ∙ ap (λ n. script_key u n) (sym size)) own (subst (λ n. n < length (script_keys u)) (sym size) inside))
