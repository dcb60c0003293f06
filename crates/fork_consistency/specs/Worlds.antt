-- Views are worlds: what an accepted view of a run tells, by any reading that the run's texts allow, is the world of
-- the view's line.
use Rattle.std.specs.Prelude.{◌≡◌, ◌<◌, ℕ, List, [], ◌∷◌, ◌++◌}
use Rattle.std.specs.List.{All, Contains}
use Rattle.layout.specs.Types.{INumber, Key, Principal}
use Rattle.principals.specs.Table.{Table}
use Rattle.principals.specs.TableText.{table}
use Rattle.update_cert.specs.Cert.{Cert}
use Rattle.update_cert.specs.Reading.{Reading, void_read}
use Rattle.tree_parts.specs.Blocks.{Agrees}
use Rattle.client_tree.specs.View.{handle_of, lost, tree}
use Rattle.agreement.specs.Lines.{line}
use Rattle.agreement.specs.Runs.{View}
use Rattle.agreement.specs.Worlds.{AllListed, IsGuarded, JudgeAsWorld, NamesTable, actor_in, table_in, view_in, world}
use Rattle.client_runs.specs.Released.{hashed, views}
use Rattle.client_runs.specs.Runs.{Event, Keys, pinned}
use Rattle.fork_consistency.specs.Handles.{told_by_texts}

-- ---- readings of a run

-- It tells what the texts of the run tell: what the i-node of each digest is of, and which digests each i-table has.
abbrev pub IsReadingOf : Keys → List Event → Reading → Type 0
IsReadingOf keys run reads = Agrees (told_by_texts (hashed keys run)) reads

-- the table of principals that user 0's handle names in this view
pub record IsUsersOf (reads : Reading) (key : Key) (x : View) (users : Table) : Type 0 where
  pub fits : table.Fits users
  pub named : NamesTable reads (handle_of (view_in key x) 0) users

-- it names one
abbrev pub HasUsers : Reading → Key → View → Type 0
HasUsers reads key x = (users : Table) × IsUsersOf reads key x users

-- ---- what a view tells

-- the tree is the world of the line
abbrev pub TreeIsWorld : Reading → Key → List View → View → Type 0
TreeIsWorld reads key accepted x =
    (users : Table) → IsUsersOf reads key x users → (p : Principal) (i : INumber) → p < 96
    → tree reads users (view_in key x) p i ≡ world reads key (line accepted x) p i

-- this is the table of that world
abbrev pub IsWorldsTable : Reading → Key → List View → View → Table → Type 0
IsWorldsTable reads key accepted x users = users ≡ table_in (world reads key (line accepted x))

-- these are the numbers of the void changes of the own operation, at its place in the line
abbrev pub AreLost : Reading → Key → List View → View → List ℕ → Type 0
AreLost reads key accepted x numbers =
    (before : List Cert) → line accepted x ≡ before ++ x.lists.own.cert ∷ []
    → numbers ≡ void_read reads (actor_in (world reads key before) x.lists.own.cert) x.lists.own.cert.changes
    (world reads key before)

-- those that the view loses are
abbrev pub LosesVoid : Reading → Key → List View → View → Type 0
LosesVoid reads key accepted x =
    (users : Table) → IsUsersOf reads key x users → AreLost reads key accepted x (lost reads users (view_in key x))

-- along each line an operation changes only its user's part, and those of groups of which the user is a member in the
-- world before it: as each operation does in each tree, by what changes do
abbrev pub AllGuarded : Reading → Key → List View → Type 0
AllGuarded reads key accepted =
    (x : View) → Contains accepted x → (before : List Cert) (c : Cert) (after : List Cert)
    → line accepted x ≡ before ++ c ∷ after → IsGuarded reads (world reads key before) c

-- The accepted views of a run are the worlds of their lines, as this reading tells it.
pub record AreWorldsBy (keys : Keys) (run : List Event) (reads : Reading) : Type 0 where
  -- user 0's handle names a table of principals
  pub users : All (HasUsers reads (pinned keys)) (views run)
  -- each operation's user is listed in the world before it
  pub listed : AllListed reads (pinned keys) (views run)
  pub guarded : AllGuarded reads (pinned keys) (views run)
  pub trees : All (TreeIsWorld reads (pinned keys) (views run)) (views run)
  pub tables : All (λ x. IsWorldsTable reads (pinned keys) (views run) x x.table) (views run)
  pub losses : All (LosesVoid reads (pinned keys) (views run)) (views run)
  -- who is a member by the view's table at an operation's table version is one in the world before the operation
  pub judged : JudgeAsWorld reads (pinned keys) (views run)

-- they are, as each reading of the run tells it
abbrev pub AreWorldsIn : Keys → List Event → Type 0
AreWorldsIn keys run = (reads : Reading) → IsReadingOf keys run reads → AreWorldsBy keys run reads

-- as each reading tells it, the user of each operation of a line is listed in the world before it
abbrev pub ListUsers : Keys → List Event → Type 0
ListUsers keys run =
    (reads : Reading) → IsReadingOf keys run reads → AllListed reads (pinned keys) (views run)

-- there is a reading of the run
abbrev pub CanBeRead : Keys → List Event → Type 0
CanBeRead keys run = (reads : Reading) × IsReadingOf keys run reads

-- all readings of the run give one world to each line of an accepted view
abbrev pub OneWorld : Keys → List Event → Type 0
OneWorld keys run =
    (a b : Reading) → IsReadingOf keys run a → IsReadingOf keys run b
    → All (λ x. (p : Principal) (i : INumber) → p < 96
    → world a (pinned keys) (line (views run) x) p i ≡ world b (pinned keys) (line (views run) x) p i)
    (views run)
