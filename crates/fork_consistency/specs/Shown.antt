-- What a client is told of its accepted view, by looks and by what it tells itself, is so in the tree of that view, and
-- in the world of the view's line.
use Rattle.std.specs.Prelude.{◌≡◌, ◌<◌, ◌==◌, List, [], ◌∷◌, Option, Some, None, Ok, IfSome, IsSomeAnd, find}
use Rattle.std.specs.Prelude.{if◌then◌else◌}
use Rattle.std.specs.List.{All}
use Rattle.std.specs.Option.{option_and_then, option_map}
use Rattle.layout.specs.Types.{Key, User}
use Rattle.principals.specs.Table.{Table}
use Rattle.principals.specs.TableText.{table}
use Rattle.update_cert.specs.Cert.{Cert}
use Rattle.update_cert.specs.Reading.{Reading}
use Rattle.update_cert.specs.World.{Directory, File, Tree, is_table}
use Rattle.pending_list.specs.declared.signed.Signed.{Signed}
use Rattle.version_order.specs.Structure.{Structure}
use Rattle.client_tree.specs.Questions.{IsKindOf, IsLeastFree}
use Rattle.client_tree.specs.View.{lost as lost_of, shown}
use Rattle.client_tree.specs.declared.questions.Question.{Question}
use Rattle.client_tree.specs.declared.questions.Question.TheVariants as question
use Rattle.reply_check.specs.Good.{with_own}
use Rattle.client_verify.specs.State.{AcceptedView}
use Rattle.client_verify.specs.declared.look.Look.TheVariants as look
use Rattle.agreement.specs.Lines.{line}
use Rattle.agreement.specs.Runs.{View, user_of}
use Rattle.agreement.specs.Worlds.{table_in, view_in, world}
use Rattle.client_steps.specs.Steps.{Call, Client, Closed, Gives, Looks, Open, Sees}
use Rattle.client_runs.specs.Released.{views}
use Rattle.client_runs.specs.Runs.{Event, Keys, client_of, pinned}
use Rattle.fork_consistency.specs.Worlds.{AreLost, HasUsers, IsReadingOf, IsUsersOf, IsWorldsTable}

-- the view that a user's client accepted last
abbrev pub last_view : User → List Event → Option View
last_view u run = find (λ x. user_of x == u) (views run)

-- ---- answers

-- The answer to a question is so in this tree. Where a block is asked for, or is refused, nothing is told; a question
-- has no other answers than its own.
abbrev pub IsTrueOf : Tree → Question → Sees → Type 0
IsTrueOf w q (look.Need digest) = Unit {0}
IsTrueOf w q (look.Broken rule) = Unit {0}
IsTrueOf w (question.At p i) (look.File bytes) = p < 96 → w p i ≡ Some (File bytes.items)
IsTrueOf w (question.At p i) (look.Dir entries) = p < 96 → w p i ≡ Some (Directory entries)
IsTrueOf w (question.At p i) look.None = p < 96 → w p i ≡ None
IsTrueOf w (question.Kind p i) (look.Kind kind) = p < 96 → IsKindOf kind (w p i)
IsTrueOf w (question.Free p first last) (look.Free found) = p < 96 → IsLeastFree (w p) first last found
IsTrueOf w q other = ⊥

-- the question that a client answers, and its answer: `look`, `kind` and `free` are asked, `give` goes on with what was
abbrev pub answered : Call → Client → Option (Question × Sees)
answered (Looks q (Ok answer)) before = Some (q, answer)
answered (Gives block (Ok answer)) (Open s) =
    option_and_then (λ v. option_map (λ l. (l.question, answer)) v.looking) s.view
answered call before = None

-- the accepted view that an open client has
abbrev pub view_told : Client → Option AcceptedView
view_told (Closed p) = None
view_told (Open s) = s.view

-- Of the client's accepted view these hold: what is answered at this step, and what the client tells after it.
pub record Tells (answers : View → Question → Sees → Type 0) (tells : View → AcceptedView → Type 0)
    (older : List Event) (e : Event) : Type 0 where
  pub answer : IfSome (answered e.call (client_of e.user older))
      (λ (q, answer). IsSomeAnd (last_view e.user older) (λ x. answers x q answer))
  pub view : IfSome (view_told e.after) (λ v. IsSomeAnd (last_view e.user (e ∷ older)) (λ x. tells x v))

-- at each step of a run
abbrev pub EachTells : (View → Question → Sees → Type 0) → (View → AcceptedView → Type 0) → List Event → Type 0
EachTells answers tells [] = Unit {0}
EachTells answers tells (e ∷ older) = Tells answers tells older e × EachTells answers tells older

-- the structures of a reply, with the new one that was signed over it in its user's place
abbrev pub AreWithOwn : View → List (Signed Structure) → Type 0
AreWithOwn x zs = (z : Signed Structure) × (z.value ≡ x.signed) × (zs ≡ with_own z x.lists.structures)

-- ---- the tree of a view

-- the answer is so in the tree of the view
abbrev pub IsTrueInView : Reading → Key → View → Question → Sees → Type 0
IsTrueInView reads key x q answer =
    (users : Table) → IsUsersOf reads key x users → IsTrueOf (shown reads users (view_in key x)) q answer

-- structures, table and lost changes are those of the view
pub record IsOfView (reads : Reading) (key : Key) (x : View) (v : AcceptedView) : Type 0 where
  pub structures : AreWithOwn x v.structures
  pub table : v.table ≡ x.table
  pub lost : (users : Table) → IsUsersOf reads key x users → v.lost ≡ lost_of reads users (view_in key x)

-- each accepted view has a tree, and what clients are told is so in those of their views
pub record HaveTrees (keys : Keys) (run : List Event) (reads : Reading) : Type 0 where
  pub users : All (HasUsers reads (pinned keys)) (views run)
  pub told : EachTells (IsTrueInView reads (pinned keys)) (IsOfView reads (pinned keys)) run

-- as each reading of the run tells them
abbrev pub ShowTrees : Keys → List Event → Type 0
ShowTrees keys run = (reads : Reading) → IsReadingOf keys run reads → HaveTrees keys run reads

-- ---- the world of its line

-- what is seen in the world of a line: at the place of the table of principals the file of its text
abbrev pub seen_in : Reading → Key → List Cert → Tree
seen_in reads key l p i = if is_table p i then Some (File (table.spell (table_in (world reads key l))))
    else world reads key l p i

-- the answer is so in the world of the view's line
abbrev pub IsTrueInWorld : Reading → Key → List View → View → Question → Sees → Type 0
IsTrueInWorld reads key accepted x q answer = IsTrueOf (seen_in reads key (line accepted x)) q answer

-- The table of principals is the one of that world, and the numbers that were lost are those of the void changes of the
-- own operation at its place.
pub record IsOfWorld (reads : Reading) (key : Key) (accepted : List View) (x : View) (v : AcceptedView) : Type 0 where
  pub structures : AreWithOwn x v.structures
  pub table : IsWorldsTable reads key accepted x v.table
  pub lost : AreLost reads key accepted x v.lost

-- what clients are told is so in the worlds of the lines of their accepted views, as each reading of the run tells them
abbrev pub ShowWorlds : Keys → List Event → Type 0
ShowWorlds keys run = (reads : Reading) → IsReadingOf keys run reads
    → EachTells (IsTrueInWorld reads (pinned keys) (views run))
    (IsOfWorld reads (pinned keys) (views run)) run
