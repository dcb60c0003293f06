-- What the server did: an event places an operation or commits one. The newest event of a list is its first.
use Rattle.std.specs.Prelude.{ℕ, zero, suc, List, [], ◌∷◌, ◌++◌, Option, Some, None, ◌==◌, find, filter_map}
use Rattle.layout.specs.Types.{User}
use Rattle.version_order.specs.Structure.{Structure}
use Rattle.update_cert.specs.Cert.{Cert}
use Rattle.pending_list.specs.declared.signed.Signed.{Signed}

pub data Event : Type 0 where
  Placed : Signed Cert → Event
  Committed : Signed Structure → Event

abbrev pub as_committed : Event → Option (Signed Structure)
as_committed (Placed c) = None
as_committed (Committed s) = Some s

-- the structures that were committed
abbrev pub committed : List Event → List (Signed Structure)
committed es = filter_map as_committed es

-- the structure that a user committed last
abbrev pub last_of : User → List Event → Option (Signed Structure)
last_of user es = find (λ s. s.value.plan.user == user) (committed es)

-- the users below this number, in order
unfoldable pub users_below : ℕ → List User
users_below zero = []
users_below (suc n) = users_below n ++ n ∷ []

abbrev pub users : List User
users = users_below 64

-- the latest structure of each user, ascending by user
abbrev pub structures : List Event → List (Signed Structure)
structures es = filter_map (λ u. last_of u es) users
