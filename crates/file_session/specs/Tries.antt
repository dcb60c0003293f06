-- By which of its keys a session has the declared certificate signed again, where the server declines its signature,
-- and how many leaves a key has to have for an operation.
use Rattle.std.specs.Prelude.{ℕ, ◌==◌, ◌&&◌, Bool, true, not, nat_le, filter, length, reverse, List, Option}
use Rattle.std.specs.List.{range_with_len}
use Rattle.std.specs.Option.{option_map_or}
use Rattle.leaf_ledger.specs.Ledger.{free_leaves}
use Rattle.client_releases.specs.Releasing.{ledger_at}
use Rattle.client_verify.specs.State.{State, declaring_key, newest_key}

-- how many leaves of a key aren't used
abbrev pub leaves_left : State → ℕ → ℕ
leaves_left s n = free_leaves (ledger_at n s.devices).file.now.text

-- An operation takes two leaves: one for its certificate, and one for its structure. With one alone it could be placed,
-- and never be signed.
abbrev pub has_leaves : State → ℕ → Bool
has_leaves s n = nat_le 2 (leaves_left s n)

-- the newest key, by which certificates are signed, has them
unfoldable pub can_declare : State → Bool
can_declare s = has_leaves s (newest_key s)

-- another key than the one that signed, if one did
abbrev pub is_another : Option ℕ → ℕ → Bool
is_another signer n = option_map_or (λ m. not (m == n)) signer true

-- a key is to be tried, where this one signed what is declared
abbrev pub is_to_try : State → Option ℕ → ℕ → Bool
is_to_try s signer n = is_another signer n && has_leaves s n

-- the keys to try once the server declined what is declared, from the last to the first: all that have leaves for an
-- operation, but the one that signed it
unfoldable pub keys_to_try : State → List ℕ
keys_to_try s = filter (is_to_try s (declaring_key s)) (reverse (range_with_len 0 (length s.secrets)))
