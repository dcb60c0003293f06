-- What a text of a journal is read as.
use Rattle.std.proofs.Common.{◌≡◌, ℕ, Bool, List, Some, None, Result, Ok, Err, ◌==◌, true, false, if◌then◌else◌, refl, sym, ◌∙◌, ap, arith}
use Rattle.std.proofs.lemmas.Bool.{eqb-true}
use Rattle.std.proofs.lemmas.Bool.Decides.{nat_tests}
use Rattle.std.specs.Option.{option_and_then}
use Rattle.std.specs.Result.{result_ok}
use Rattle.layout.specs.Format.{Format, whole}
use Rattle.layout.specs.declared.error.ReadError.{ReadError}
use Rattle.client_releases.specs.Told.{own_in}

same_user : (a b : ℕ) → a ≡ b → (a == b) ≡ true
same_user a b same = grind (arith, nat_tests)

other_user : (a b : ℕ) → (a ≡ b → ⊥) → (a == b) ≡ false
other_user a b apart = grind (arith, nat_tests)

module _ {V : Type 0} (f : Format V) (user_of : V → ℕ) (user : ℕ) (text : List ℕ) where
  -- something of this user
  pub own_found : (v : V) → whole f text ≡ Ok v → user_of v ≡ user → own_in f user_of user text ≡ Some v
  own_found v read own = rw (read, same_user (user_of v) user own) refl

  pub own_tested : (v : V) → whole f text ≡ Ok v → (user_of v == user) ≡ true → own_in f user_of user text ≡ Some v
  own_tested v read own = rw (read, own) refl

  pub other_tested : (v : V) → whole f text ≡ Ok v → (user_of v == user) ≡ false → own_in f user_of user text ≡ None
  other_tested v read other = rw (read, other) refl

  -- something of another user
  pub own_other : (v : V) → whole f text ≡ Ok v → (user_of v ≡ user → ⊥) → own_in f user_of user text ≡ None
  own_other v read other = rw (read, other_user (user_of v) user other) refl

  -- nothing
  pub own_fault : (e : ReadError) → whole f text ≡ Err e → own_in f user_of user text ≡ None
  own_fault e read = rw read refl

  -- what is something of this user is read so
  pub own_read : (v : V) → own_in f user_of user text ≡ Some v → (whole f text ≡ Ok v) × (user_of v ≡ user)
  own_read v is = go (whole f text) refl is
    where
      tested : (b : Bool) (x : V) → (user_of x == user) ≡ b → (if b then Some x else None) ≡ Some v → (x ≡ v) × (user_of x ≡ user)
      tested true x own found = (cc, eqb-true (user_of x) user own)
      tested false x own found = absurd (cc found)

      go : (w : Result V ReadError) → whole f text ≡ w → option_and_then (λ x. if user_of x == user then Some x else None) (result_ok w) ≡ Some v → (whole f text ≡ Ok v) × (user_of v ≡ user)
      go (Err e) read found = absurd (cc found)
      go (Ok x) read found =
          let own = tested (user_of x == user) x refl found in
          (read ∙ ap (λ (y : V). Ok y) own.0, sym (ap user_of own.0) ∙ own.1)
