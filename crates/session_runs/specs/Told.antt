-- What sessions tell is so in the worlds of the lines of their users' accepted views.
use Rattle.std.specs.Prelude.{◌≡◌, ◌⊎◌, ℕ, List, [], ◌∷◌, Option, Some, Ok, IsSomeAnd}
use Rattle.std.specs.List.{All, Contains, flat_map}
use Rattle.layout.specs.Types.{Bytes, Digest, Key, User, Version}
use Rattle.version_order.specs.Structure.{Structure, structure}
use Rattle.update_cert.specs.Change.{Change}
use Rattle.update_cert.specs.Reading.{Reading}
use Rattle.update_cert.specs.World.{Content, Tree}
use Rattle.pending_list.specs.declared.signed.Signed.{Signed}
use Rattle.pending_list.specs.Signed.{signed}
use Rattle.agreement.specs.Lines.{line}
use Rattle.agreement.specs.Runs.{View, user_of}
use Rattle.client_runs.specs.Released.{views}
use Rattle.client_runs.specs.Runs.{Event, Keys, pinned}
use Rattle.commands.specs.Answers.{Answer}
use Rattle.commands.specs.Asked.{Tells, Writes, outcome, told_of_lost}
use Rattle.commands.specs.declared.command.Command.{Command}
use Rattle.fork_consistency.specs.Premises.{AreKeys, Premises}
use Rattle.fork_consistency.specs.Shown.{IsOfWorld, seen_in}
use Rattle.fork_consistency.specs.Worlds.{AreLost, IsReadingOf}
use Rattle.file_session.specs.Calls.{Signs}
use Rattle.file_session.specs.Declaring.{all_declared}
use Rattle.file_session.specs.Order.{Calls, Move}
use Rattle.file_session.specs.Sessions.{Resumed}
use Rattle.file_session.specs.Went.{Answering, Begun, Event as Tale, IsSeenIn, Saw, Signed as Numbers, Unbegun}
use Rattle.file_session.specs.Went.{Unplanned, events}
use Rattle.session_runs.specs.Lives.{AreLives, Carried, Carries, Deed, IsCut, Reads, Showing, Takes}

-- the structures that a session signs, as it sends them
abbrev pub signed_by : Move → List Bytes
signed_by (Calls (Signs (Ok text) lost)) = text ∷ []
signed_by move = []

abbrev pub signed_texts : List Move → List Bytes
signed_texts moves = flat_map signed_by moves

-- the text of a structure that was signed over this view
abbrev pub IsTextOf : Bytes → View → Type 0
IsTextOf text x = (z : Signed Structure) × (z.value ≡ x.signed) × (text ≡ (signed structure).spell z)

-- an accepted view of this user's, over which one of these texts was signed
pub record IsOwn (accepted : List View) (u : User) (texts : List Bytes) (x : View) : Type 0 where
  pub among : Contains accepted x
  pub user : user_of x ≡ u
  pub signed : (text : Bytes) × Contains texts text × IsTextOf text x

-- ---- one view

-- what is read in the world of the view's line
abbrev pub seen_by : Reading → Key → List View → View → Tree
seen_by reads key accepted x = seen_in reads key (line accepted x)

-- ---- its own operation

-- an operation: by its number the one that was declared before a session, and by its changes one that the session began
pub data Operation : Type 0 where
  OfNumber : Version → Operation
  OfChanges : List (Change Digest) → Operation

-- the view's own operation is this one
abbrev pub IsOwnOperation : Operation → View → Type 0
IsOwnOperation (OfNumber number) x = x.lists.own.cert.number ≡ number
IsOwnOperation (OfChanges changes) x = x.lists.own.cert.changes ≡ changes

-- ---- a session

-- What a session that signs these texts tells, in turn, where its client signed over this view last, and this is the
-- operation that was begun last: each look was answered as it is in the world of that view's line; the own operation of
-- a newly signed view is the one that was begun, and the numbers are those of its void changes.
abbrev pub AreTold : Reading → Key → List View → User → List Bytes → Option View → Operation → List Tale → Type 0
AreTold reads key accepted u texts last begun [] = Unit {0}
AreTold reads key accepted u texts last begun (Begun changes laid ∷ es) =
    AreTold reads key accepted u texts last (OfChanges changes) es
AreTold reads key accepted u texts last begun (Unbegun ∷ es) = AreTold reads key accepted u texts last begun es
AreTold reads key accepted u texts last begun (Unplanned ∷ es) = AreTold reads key accepted u texts last begun es
AreTold reads key accepted u texts last begun (Saw s ∷ es) =
    IsSomeAnd last (λ x. IsSeenIn (seen_by reads key accepted x) s.question s.answer)
    × AreTold reads key accepted u texts last begun es
AreTold reads key accepted u texts last begun (Numbers lost ∷ es) =
    (x : View) × IsOwn accepted u texts x × IsOwnOperation begun x × AreLost reads key accepted x lost
    × AreTold reads key accepted u texts (Some x) begun es

-- from the view on that the client had, and its operation of this number
abbrev pub AreToldFrom : Reading → Key → List View → User → List Bytes → Version → List Tale → Type 0
AreToldFrom reads key accepted u texts number es =
    (last : Option View) × AreTold reads key accepted u texts last (OfNumber number) es

abbrev pub MovesTell : Reading → Key → List View → User → Version → List Move → Type 0
MovesTell reads key accepted u number moves =
    AreToldFrom reads key accepted u (signed_texts moves) number (events moves)

-- ---- a command

-- The command asks for an operation in this tree; it is the own one of a view over which the session signed, and the
-- numbers of its void changes are told.
pub record AreWritten (reads : Reading) (key : Key) (accepted : List View) (u : User) (texts : List Bytes)
    (c : Command) (tree : Tree) (answer : Answer) : Type 0 where
  pub wanted : List (Change Content)
  pub asked : outcome u c tree ≡ Writes wanted
  pub view : View
  pub own : IsOwn accepted u texts view
  pub declared : IsOwnOperation (OfChanges (all_declared wanted)) view
  pub lost : List ℕ
  pub loses : AreLost reads key accepted view lost
  pub told : answer ≡ told_of_lost lost

-- In the world of the line of a view over which the session signed, the own operation of which is a look, without
-- changes, the answer is what the command comes to; or the command asks there for an operation, it is the own one of a
-- view over which the session signed, too, and the answer tells which of its changes are void at its place.
pub record IsAnswered (reads : Reading) (key : Key) (accepted : List View) (u : User) (texts : List Bytes)
    (c : Command) (answer : Answer) : Type 0 where
  pub view : View
  pub own : IsOwn accepted u texts view
  pub looked : IsOwnOperation (OfChanges []) view
  pub comes : (outcome u c (seen_by reads key accepted view) ≡ Tells answer)
      ⊎ AreWritten reads key accepted u texts c (seen_by reads key accepted view) answer

-- a command that answered, and the operation that it finished first
pub record TellsWorlds {T : Type 0} (answers : Answering T) (reads : Reading) (key : Key) (accepted : List View)
    (u : User) (c : Carried answers) : Type 0 where
  pub told : MovesTell reads key accepted u c.before.number c.ran.moves
  pub answer : (answer : Answer) → c.result ≡ Ok answer
      → IsAnswered reads key accepted u (signed_texts c.ran.moves) c.command answer
  pub resumed : (r : Resumed) → c.resumed ≡ Some r
      → (x : View) × IsOwn accepted u (signed_texts c.ran.moves) x × IsOwnOperation (OfNumber r.number) x
      × AreLost reads key accepted x r.lost

-- A command that was told in the view that its client had: in the world of that view's line the answer is what the
-- command comes to. It is an accepted one of the user's, and what the client tells of it is so in that world.
pub record ReadsWorld {T : Type 0} (answers : Answering T) (reads : Reading) (key : Key) (accepted : List View)
    (u : User) (c : Showing answers) : Type 0 where
  pub view : View
  pub among : Contains accepted view
  pub user : user_of view ≡ u
  pub held : IsSomeAnd c.before.view (IsOfWorld reads key accepted view)
  pub answer : (answer : Answer) → c.result ≡ Ok answer
      → outcome u c.command (seen_by reads key accepted view) ≡ Tells answer

-- so is what each deed tells, also of a session that is cut short
abbrev pub IsTold : {T : Type 0} (answers : Answering T) → Reading → Key → List View → User → Deed answers → Type 0
IsTold answers reads key accepted u (Carries c) = TellsWorlds answers reads key accepted u c
IsTold answers reads key accepted u (Reads c) = ReadsWorld answers reads key accepted u c
IsTold answers reads key accepted u (IsCut c) = MovesTell reads key accepted u c.before.number c.moves
IsTold answers reads key accepted u (Takes s) = Unit {0}

-- In lives that meet the premises of fork consistency, as each reading of the run's texts tells it.
abbrev pub SessionsTellWorlds : {T : Type 0} → Answering T → Type 0
SessionsTellWorlds answers = (keys : Keys) (lives : User → List (Deed answers)) (run : List Event)
    → AreLives answers keys lives run → AreKeys keys → Premises keys run → (reads : Reading)
    → IsReadingOf keys run reads → (u : User) → All (IsTold answers reads (pinned keys) (views run) u) (lives u)
