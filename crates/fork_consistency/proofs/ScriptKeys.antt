-- The keys of scripts are keys: user 0's has the form of one, and identifiers differ.
use Rattle.std.proofs.Common.{◌≡◌, ℕ, zero, suc, ◌<◌, ◌-◌, ◌++◌, length, inl, inr, arith}
use Rattle.std.specs.Prelude.{replicate}
use Rattle.std.specs.Int.{w32}
use Rattle.std.proofs.lemmas.Bool.{cases_lt}
use Rattle.std.proofs.lemmas.List.{get_or_append_left, length-replicate}
use Rattle.std.proofs.Math.Seq.{get_or-append_right}
use Rattle.layout.specs.Format.{IsBytes, be}
use Rattle.layout.specs.HashLaws.{hash_fits}
use Rattle.layout.specs.Types.{Bytes, User}
use Rattle.lms_sign.specs.Keys.{lms_type, ots_type, public_key_of}
use Rattle.lms_sign.specs.Secret.{Secret}
use Rattle.lms_sign.specs.Tree.{inner_node, node}
use Rattle.lms_sign.proofs.Validity.{is_key-public, length-public_key}
use Rattle.principals.specs.TableText.{key as key_form}
use Rattle.client_runs.specs.Runs.{pinned}
use Rattle.client_runs.specs.Carried.{script_key, script_keys}
use Rattle.client_runs.proofs.ScriptKeys.{scripts_apart}
use Rattle.fork_consistency.specs.Premises.{AreKeysOf}

-- ---- bytes

joined_bytes : (xs ys : Bytes) → IsBytes xs → IsBytes ys → IsBytes (xs ++ ys)
joined_bytes xs ys first second i =
    elim (cases_lt i (length xs)) [
      | inl lt ↦ rw (get_or_append_left xs ys 0 i lt) (first i)
      | inr le ↦ rw (get_or-append_right xs ys i 0 le) (second (i - length xs))
    ]

same_bytes : (n b : ℕ) → b < 256 → IsBytes (replicate n b)
same_bytes zero b small i = omega arith
same_bytes (suc n) b small zero = small
same_bytes (suc n) b small (suc i) = same_bytes n b small i

word_bytes : (n : ℕ) → IsBytes (be w32 n)
unfolding be
word_bytes n zero = omega arith
word_bytes n (suc zero) = omega arith
word_bytes n (suc (suc zero)) = omega arith
word_bytes n (suc (suc (suc zero))) = omega arith
word_bytes n (suc (suc (suc (suc i)))) = omega arith

root_bytes : (secret : Secret) → IsBytes (node secret 10 1)
unfolding node inner_node
root_bytes secret = (hash_fits _).1

-- ---- keys

key_bytes : (secret : Secret) → IsBytes secret.id → IsBytes (public_key_of secret)
unfolding public_key_of
key_bytes secret are =
    joined_bytes (lms_type ++ ots_type ++ secret.id) (node secret 10 1)
    (joined_bytes (lms_type ++ ots_type) secret.id (joined_bytes lms_type ots_type (word_bytes 6) (word_bytes 3)) are)
    (root_bytes secret)

key_fits : (secret : Secret) → length secret.id ≡ 16 → IsBytes secret.id → key_form.Fits (public_key_of secret)
key_fits secret size are = ((length-public_key secret size, key_bytes secret are), is_key-public secret size)

-- user 0's, which every client knows, has it
pub pinned_fits : key_form.Fits (pinned script_keys)
pinned_fits = key_fits (script_key 0 0) (length-replicate {A = ℕ} 16 0) (same_bytes 16 0 (omega arith))

-- and no two of a user's have one identifier
pub script_keys_are : (some : User → Type 0) → AreKeysOf some script_keys
script_keys_are some = record { pinned = pinned_fits; apart = λ u one. scripts_apart u }
