-- Where the server has the keys of some users: what holds of the others.
use Rattle.std.specs.Prelude.{◌≡◌, ◌<◌, Bool, false, List}
use Rattle.std.specs.List.{All}
use Rattle.layout.specs.Types.{INumber, Principal, User, Version}
use Rattle.principals.specs.Table.{Table}
use Rattle.update_cert.specs.Reading.{Reading}
use Rattle.update_cert.specs.World.{is_table}
use Rattle.client_tree.specs.View.{tree}
use Rattle.agreement.specs.Runs.{View}
use Rattle.agreement.specs.Worlds.{view_in, world}
use Rattle.client_runs.specs.Released.{views}
use Rattle.client_runs.specs.Runs.{Event, IsRun, Keys, pinned}
use Rattle.fork_consistency.specs.Premises.{AreKeysOf, PremisesOf}
use Rattle.fork_consistency.specs.ByCertificates.{HasAllUpTo, certificates_up_to}
use Rattle.fork_consistency.specs.Worlds.{IsReadingOf}

-- ---- premises

-- a user outside of the set
abbrev pub IsOutside : (User → Bool) → User → Type 0
IsOutside stolen u = stolen u ≡ false

-- The keys of the users of this set may be anybody's. User 0's is never among them; of the others is what is assumed.
abbrev pub StolenPremises : (User → Bool) → Keys → List Event → Type 0
StolenPremises stolen keys run = IsOutside stolen 0 × PremisesOf (IsOutside stolen) keys run

-- ---- parts

-- The user's part of a view is that of the world of the user's own certificates, up to some number, whatever others
-- did.
pub record IsOwnPart (keys : Keys) (run : List Event) (u : User) (x : View) : Type 0 where
  pub number : Version
  pub released : HasAllUpTo number u run
  pub part : (reads : Reading) → IsReadingOf keys run reads → (users : Table) (i : INumber) → is_table u i ≡ false
      → tree reads users (view_in (pinned keys) x) u i
      ≡ world reads (pinned keys) (certificates_up_to number u run) u i

-- so is that of each user outside the set, in each accepted view
abbrev pub OwnPartsStand : (User → Bool) → Keys → List Event → Type 0
OwnPartsStand stolen keys run =
    All (λ x. (u : User) → u < 64 → stolen u ≡ false → IsOwnPart keys run u x) (views run)

-- all readings of the run give one world to a user's own certificates, up to any number
abbrev pub OnePart : Keys → List Event → Type 0
OnePart keys run =
    (u : User) (n : Version) (a b : Reading) → IsReadingOf keys run a → IsReadingOf keys run b
    → (p : Principal) (i : INumber) → p < 96
    → world a (pinned keys) (certificates_up_to n u run) p i ≡ world b (pinned keys) (certificates_up_to n u run) p i

-- over each run
abbrev pub EachRunOfOthers : ((User → Bool) → Keys → List Event → Type 0) → Type 0
EachRunOfOthers holds =
    (stolen : User → Bool) (keys : Keys) (run : List Event) → IsRun keys run → AreKeysOf (IsOutside stolen) keys
    → StolenPremises stolen keys run → holds stolen keys run
