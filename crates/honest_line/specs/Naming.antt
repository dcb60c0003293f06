-- Nobody has to believe this file: an aid of proofs.
-- What the handles of user 0 name in a run: each the table of principals of the view over which it was signed.
use Rattle.std.specs.Prelude.{List, ◌∷◌, ◌==◌, filter, map}
use Rattle.layout.specs.Types.{Key}
use Rattle.principals.specs.Table.{genesis}
use Rattle.client_tree.specs.Genesis.{first_handle}
use Rattle.agreement.specs.Runs.{View, user_of}
use Rattle.client_runs.specs.Released.{views}
use Rattle.client_runs.specs.Runs.{Event, Keys, pinned}
use Rattle.honest_history.specs.Honest.{NamedTable, Naming}

-- the handle of the beginning, with the table of the beginning
abbrev pub first_named : Key → NamedTable
first_named key = record { handle = first_handle 0 key; table = genesis key }

-- the handle that is signed over a view, with the view's table
abbrev pub named_by : View → NamedTable
named_by x = record { handle = x.signed.handle; table = x.table }

-- the first, and those of user 0's accepted views
abbrev pub naming_of : Keys → List Event → Naming
naming_of keys run = first_named (pinned keys) ∷ map named_by (filter (λ x. user_of x == 0) (views run))
