-- The table of principals by certificates: in each accepted view it is that of the beginning, changed by certificates
-- that user 0's client released, in order.
use Rattle.std.specs.Prelude.{◌≡◌, ◌==◌, List, [], ◌∷◌, Option, Some, IsSome, find, filter_map}
use Rattle.std.specs.List.{All, range_with_len}
use Rattle.std.specs.Option.{option_map}
use Rattle.layout.specs.Types.{Key, User, Version}
use Rattle.principals.specs.Table.{Table, genesis as first_table, key_at}
use Rattle.principals.specs.TableText.{table}
use Rattle.update_cert.specs.Cert.{Cert}
use Rattle.update_cert.specs.Tables.{table_after}
use Rattle.client_releases.specs.Told.{cert_in}
use Rattle.fork_consistency.specs.Premises.{AreKeysOf, NoCollision, NoneForgedOf}
use Rattle.client_runs.specs.Released.{released, views}
use Rattle.client_runs.specs.Runs.{Event, IsOwnKey, IsRun, Keys, pinned}

-- ---- certificates of a user

-- those that the user's client released
abbrev pub certificates : User → List Event → List Cert
certificates u run = filter_map (λ text. option_map (λ c. c.value) (cert_in u text)) (released u run)

-- the one of this number, if there is one
abbrev pub certificate : User → List Event → Version → Option Cert
certificate u run n = find (λ c. c.number == n) (certificates u run)

-- those of the numbers 1 to n, in order
abbrev pub certificates_up_to : Version → User → List Event → List Cert
certificates_up_to n u run = filter_map (certificate u run) (range_with_len 1 n)

-- one of each of these numbers was released
abbrev pub HasAllUpTo : Version → User → List Event → Type 0
HasAllUpTo n u run = All (λ k. IsSome (certificate u run k)) (range_with_len 1 n)

-- ---- tables

-- the table after the operations of these certificates, in turn
abbrev pub tables_after : List Cert → Table → Table
tables_after [] t = t
tables_after (c ∷ cs) t = tables_after cs (table_after c.user c.number c.changes t)

-- It is the table of the beginning, where user 0 has this key, after user 0's operations up to some number.
pub record IsByCertificates (key : Key) (run : List Event) (t : Table) : Type 0 where
  pub number : Version
  pub released : HasAllUpTo number 0 run
  pub table : t ≡ tables_after (certificates_up_to number 0 run) (first_table key)

-- ---- runs

-- what holds of each run in which no signature of user 0's is forged, no digest collides, and no two keys of user 0's
-- have one identifier: the keys of other users may be anybody's
abbrev pub EachHonestSuper : (Keys → List Event → Type 0) → Type 0
EachHonestSuper holds =
    (keys : Keys) (run : List Event) → IsRun keys run → AreKeysOf (λ u. u ≡ 0) keys
    → NoneForgedOf (λ u. u ≡ 0) keys run run → NoCollision keys run → holds keys run

-- the tables of accepted views are by certificates
abbrev pub AreByCertificates : Keys → List Event → Type 0
AreByCertificates keys run = All (λ x. IsByCertificates (pinned keys) run x.table) (views run)

-- they have texts
abbrev pub HaveTexts : Keys → List Event → Type 0
HaveTexts keys run = All (λ x. table.Fits x.table) (views run)

-- they list none of these users with a key but the user's own, at whatever number of user 0's
abbrev pub ListOwnKeysOf : (User → Type 0) → Keys → List Event → Type 0
ListOwnKeysOf some keys run =
    All (λ x. (u : User) (v : Version) (k : Key) → some u → key_at u v x.table ≡ Some k → IsOwnKey keys u k) (views run)
