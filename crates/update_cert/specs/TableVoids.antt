-- Nobody has to believe this file: an aid of private contracts.
-- Which changes of the table have no effect, said of the table alone.
use Rattle.std.specs.Prelude.{◌≡◌, ℕ, ◌+◌, Bool, true, false, ◌&&◌, not, List, [], ◌∷◌, Result, Ok, Err, is_err, if◌then◌else◌}
use Rattle.layout.specs.Types.{User, Version}
use Rattle.principals.specs.Table.{Table}
use Rattle.principals.specs.declared.error.TableError.{TableError}
use Rattle.principals.specs.declared.error.TableError.TheVariants as error
use Rattle.update_cert.specs.Change.{Change}
use Rattle.update_cert.specs.World.{is_of_table}
use Rattle.update_cert.specs.Tables.{table_effect, table_after_change}

-- the change is one of the table, and has no effect on it in the user's operation of this number
abbrev pub is_void_on : {C : Type 0} → User → Version → Change C → Table → Bool
is_void_on user number c t = is_of_table c && not (table_effect user number c t)

-- the numbers of such changes, counted from this one
unfoldable pub table_voids : {C : Type 0} → ℕ → User → Version → List (Change C) → Table → List ℕ
table_voids n user number [] t = []
table_voids n user number (c ∷ cs) t =
    if is_void_on user number c t
    then n ∷ table_voids (n + 1) user number cs (table_after_change user number c t)
    else table_voids (n + 1) user number cs (table_after_change user number c t)

-- what a change of the table told: whether it had effect, where memory didn't run out
abbrev pub ErrorTold : {E : Type 0} → TableError → Result Bool E → Type 0
ErrorTold error.Memory r = is_err r ≡ true
ErrorTold error.Listed r = r ≡ Ok false
ErrorTold error.Unlisted r = r ≡ Ok false
ErrorTold error.NotGroup r = r ≡ Ok false
ErrorTold error.NotMember r = r ≡ Ok false
ErrorTold error.Full r = r ≡ Ok false
ErrorTold error.Pinned r = r ≡ Ok false
ErrorTold error.KeysFull r = r ≡ Ok false
ErrorTold error.TooSoon r = r ≡ Ok false

abbrev pub ToldEffect : {X E : Type 0} → Result X TableError → Result Bool E → Type 0
ToldEffect (Ok x) r = r ≡ Ok true
ToldEffect (Err e) r = ErrorTold e r
