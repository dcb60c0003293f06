-- Nobody has to believe this file: an aid of private contracts.
-- Parts of a session: the write of an operation, and what a command comes to.
use Rattle.std.specs.Prelude.{◌≡◌, ◌≤◌, ◌⊎◌, true, ℕ, length, map, List, [], ◌∷◌, ◌++◌}
use Rattle.std.specs.Prelude.{Option, Some, None, Result, Ok, Err, IfOk}
use Rattle.std.specs.Vec.{vec_items}
use Rattle.std.specs.declared.vec.Vec.{Vec}
use Rattle.layout.specs.Types.{Bytes, Digest, INumber, User}
use Rattle.update_cert.specs.Change.{Change, Make, Put, Remove, Unlink}
use Rattle.update_cert.specs.World.{Content, File, Directory, Tree}
use Rattle.update_cert.specs.declared.cert.TheConstants.{MOST_CHANGES}
use Rattle.client_verify.specs.Laid.{are_laid}
use Rattle.client_verify.specs.State.{State}
use Rattle.itable.specs.declared.inode.TheConstants.{FILE_SIZE}
use Rattle.directory.specs.Directory.{Entry}
use Rattle.directory.specs.Name.{is_name}
use Rattle.directory.specs.declared.target.Target.{Target}
use Rattle.commands.specs.Answers.{Answer, Listing, Shown, answer_of}
use Rattle.commands.specs.Asked.{At, New, Old, Outcome, Place, Tells, refuses, Writes, change_at, link_at}
use Rattle.commands.specs.Asked.{next_from, place_from, puts, row_of, walk}
use Rattle.commands.specs.Files.{name_of}
use Rattle.commands.specs.Rows.{Row}
use Rattle.commands.specs.Names.{PutsNothing}
use Rattle.commands.specs.declared.answer.Refusal.TheVariants as refusal
use Rattle.commands.specs.Paths.{Path}
use Rattle.commands.specs.declared.place.Course.{Course}
use Rattle.commands.specs.declared.command.Command.{Command}
use Rattle.commands.specs.declared.files.NewFile.{NewFile}
use Rattle.file_session.specs.declared.planning.Plan.{Plan}
use Rattle.file_session.specs.declared.planning.Plan.TheVariants as plan
use Rattle.file_session.specs.declared.putting.Spot.{Spot}
use Rattle.file_session.specs.declared.renaming.Sites.{Sites}
use Rattle.file_session.specs.declared.site.Site.{Site}
use Rattle.file_session.specs.declared.site.Site.TheVariants as site
use Rattle.file_session.specs.declared.texts.New.{New as NewContent}
use Rattle.file_session.specs.declared.texts.New.TheVariants as new
use Rattle.file_session.specs.declared.stop.Stop.{Stop}
use Rattle.file_session.specs.Declaring.{all_declared, all_texts}
use Rattle.file_session.specs.Sessions.{IsCommand, IsUncommitted, NeedsMemory}
use Rattle.file_session.specs.Went.{Answering, At as Point, Event, Begun, Saw, Signed, Unbegun, Unplanned, looks}
use Rattle.file_session.specs.Went.{signs, Went}
use Rattle.file_session.specs.Went.{Looked, Seen}

-- ---- the write

-- an operation lost these changes, and is committed; or something stopped it before its commit
abbrev pub IsEnded : {A : Type 0} → Result (Vec ℕ A) Stop → State → List (List ℕ) → Type 0
IsEnded (Ok lost) new signed = signed ≡ lost.items ∷ []
IsEnded (Err e) new signed = IsUncommitted signed new

-- the same of a look, of which nothing is told
abbrev pub IsLookEnded : {X : Type 0} → Result X Stop → State → List (List ℕ) → Type 0
IsLookEnded (Ok x) new signed = (lost : List ℕ) × (signed ≡ lost ∷ [])
IsLookEnded (Err e) new signed = IsUncommitted signed new

-- at most an operation of these changes was begun, which lost these changes where nothing was refused
abbrev pub IsWrite : List (Change Digest) → List Bytes → List Event → Result (List ℕ) Stop → State → Type 0
IsWrite changes laid [] (Ok lost) new = ⊥
IsWrite changes laid [] (Err e) new = Unit {0}
IsWrite changes laid (Begun begun texts ∷ es) (Ok lost) new =
    (begun ≡ changes) × (texts ≡ laid) × (es ≡ Signed lost ∷ [])
IsWrite changes laid (Begun begun texts ∷ es) (Err e) new =
    (begun ≡ changes) × (texts ≡ laid) × ((signed : List (List ℕ)) × (es ≡ signs signed) × IsUncommitted signed new)
IsWrite changes laid (Unbegun ∷ []) (Err e) new = Unit {0}
IsWrite changes laid (Unbegun ∷ es) result new = ⊥
IsWrite changes laid (Saw s ∷ es) result new = ⊥
IsWrite changes laid (Signed lost ∷ es) result new = ⊥
IsWrite changes laid (Unplanned ∷ es) result new = ⊥

-- the texts were stored, and then an operation of the changes made
pub record Wrote {T : Type 0} (answers : Answering T) (a b : Point T) (changes : List (Change Digest))
    (laid : List Bytes) (result : Result (List ℕ) Stop) : Type 0 where
  pub es : List Event
  pub went : Went answers a b es
  pub written : IsWrite changes laid es result b.client

-- ---- what stands somewhere

-- the entries of a directory, and the bytes of a file, if that is what stands there
abbrev pub directory_in : Option Content → Option (List Entry)
directory_in (Some (Directory entries)) = Some entries
directory_in other = None

abbrev pub file_in : Option Content → Option Bytes
file_in (Some (File bytes)) = Some bytes
file_in other = None

-- where the path leads, and its place, if there is a path
abbrev pub end_in : Tree → Option Path → Option Target
end_in tree None = None
end_in tree (Some path) = walk tree path.start path.names

abbrev pub place_at : Tree → Option Path → Option Place
place_at tree None = None
place_at tree (Some path) = place_from tree path.start path.names

-- the last of these names, and that of a path; nothing where there is none
abbrev pub last_of : List Bytes → Bytes
last_of [] = []
last_of (name ∷ []) = name
last_of (name ∷ (next ∷ names)) = last_of (next ∷ names)

abbrev pub last_name : Option Path → Bytes
last_name None = []
last_name (Some path) = last_of path.names

-- a place, of its site and its name
abbrev pub place_of_site : Bytes → Site → Place
place_of_site name (site.At t there) = At t there
place_of_site name (site.New directory) = New directory name
place_of_site name (site.Old directory t there) = Old directory name t there

-- what comes by the places of two paths, if these lead to places
abbrev pub of_sites : (Place → Place → Outcome) → Bytes → Bytes → Option Sites → Outcome
of_sites comes name other None = refuses refusal.NoPath
of_sites comes name other (Some s) = comes (place_of_site name s.site) (place_of_site other s.other)

-- what it is named by is a name, if it is named
abbrev pub HasName : Bytes → Site → Type 0
HasName name (site.At t there) = Unit {0}
HasName name (site.New directory) = is_name name ≡ true
HasName name (site.Old directory t there) = is_name name ≡ true

-- ---- what is put or made

abbrev pub content_of : NewContent → Content
content_of (new.File bytes) = File bytes.now
content_of new.Directory = Directory []

abbrev pub bytes_of : NewContent → Bytes
bytes_of (new.File bytes) = bytes.now
bytes_of new.Directory = []

-- a file has no more bytes than that
abbrev pub IsSmall : Bytes → Type 0
IsSmall bytes = length bytes ≤ FILE_SIZE

abbrev pub puts_at : Target → Content → Outcome
puts_at t new = Writes (change_at t (Put new) ∷ [])

abbrev pub makes_at : Target → Content → Outcome
makes_at t new = Writes (change_at t (Make new) ∷ [])

abbrev pub unlinks_and_removes : Target → Bytes → Target → Outcome
unlinks_and_removes directory name t = Writes (change_at directory (Unlink name) ∷ change_at t Remove ∷ [])

abbrev pub links_and_unlinks : Target → Bytes → Target → Target → Bytes → Outcome
links_and_unlinks to to_name t directory name =
    Writes (link_at to to_name t ∷ change_at directory (Unlink name) ∷ [])

-- what is listed and what is read, where this was found
abbrev pub listing : Option (List Entry) → Outcome
listing None = refuses refusal.NoPath
listing (Some entries) = Tells (Listing entries)

abbrev pub reading : Option Bytes → Outcome
reading None = refuses refusal.NoPath
reading (Some bytes) = Tells (Shown bytes)

-- ---- files of one directory

-- what a file comes to that is put under its name at a spot, and from which i-number on the next one is looked for
abbrev pub comes_at : NewFile → Option Spot → Outcome
comes_at file None = refuses refusal.NoPath
comes_at file (Some s) = puts file.content.now (place_of_site (name_of file) s.site) s.free

abbrev pub next_after : INumber → Option Spot → INumber
next_after i None = i
next_after i (Some s) = next_from i s.free

-- ---- the rows of a directory

-- by looks, after which memory was refused for the rows
pub record LacksRows {T : Type 0} (answers : Answering T) (a b : Point T) : Type 0 where
  pub seen : List Seen
  pub went : Went answers a b (looks seen ++ Unplanned ∷ [])

-- by looks, which tell what stands at each of these entries; or one of them was stopped, or memory was refused
abbrev pub RowsLooked : {T A : Type 0} → Answering T → Point T → Point T → List Entry → Result (Vec Row A) Stop → Type 0
RowsLooked answers a b entries (Ok rows) = Looked answers a b (λ tree. rows.items ≡ map (row_of tree) entries)
RowsLooked answers a b entries (Err e) = Looked answers a b (λ tree. Unit {0}) ⊎ LacksRows answers a b

-- ---- what a command comes to

-- an answer, or the changes of an operation with the texts that are stored for it
abbrev pub IsPlanOf : {A : Type 0} → Outcome → Plan A → Type 0
IsPlanOf (Tells told) (plan.Tells answer) = answer_of answer ≡ told
IsPlanOf (Writes wanted) (plan.Writes operation) =
    (operation.changes.items ≡ all_declared wanted) × (map vec_items operation.texts.items ≡ all_texts wanted)
IsPlanOf outcome plan = ⊥

-- what is to be written was laid out, and has few changes
abbrev pub CanBegin : {A : Type 0} → Plan A → Type 0
CanBegin (plan.Tells answer) = Unit {0}
CanBegin (plan.Writes operation) = (length operation.changes.items ≤ MOST_CHANGES)
    × (are_laid (map vec_items operation.texts.items) operation.changes.items ≡ true)

-- only a file is put in the place of another
abbrev pub IsOf : NewContent → Course → Type 0
IsOf (new.File bytes) course = Unit {0}
IsOf new.Directory course = PutsNothing course

-- changes are asked for
abbrev pub IsChange : Outcome → Type 0
IsChange (Tells answer) = ⊥
IsChange (Writes wanted) = Unit {0}

-- so many at most
abbrev pub HasFew : {A : Type 0} → ℕ → Plan A → Type 0
HasFew n (plan.Tells answer) = Unit {0}
HasFew n (plan.Writes operation) = length operation.changes.items ≤ n

-- by looks, from which it follows that this is asked for, and memory was refused for it
pub record CantPlan {T : Type 0} (answers : Answering T) (a b : Point T) (comes : Tree → Outcome) : Type 0 where
  pub seen : List Seen
  pub went : Went answers a b (looks seen ++ Unplanned ∷ [])
  pub needs : NeedsMemory comes seen

-- by looks, from which it follows what comes of a command; or one of them was stopped
abbrev pub LookedFor : {T X : Type 0} → Answering T → Point T → Point T → (Tree → Outcome) → Outcome → Result X Stop
    → Type 0
LookedFor answers a b comes outcome (Ok x) = Looked answers a b (λ tree. comes tree ≡ outcome)
LookedFor answers a b comes outcome (Err e) = Looked answers a b (λ tree. Unit {0}) ⊎ CantPlan answers a b comes

-- what comes of a command was looked for, and planned
pub record Planned {T A : Type 0} (answers : Answering T) (a b : Point T) (comes : Tree → Outcome)
    (result : Result (Plan A) Stop) : Type 0 where
  pub outcome : Outcome
  pub looked : LookedFor answers a b comes outcome result
  pub is_plan : IfOk result (IsPlanOf outcome)
  pub can_begin : IfOk result CanBegin

-- by operations and looks, in which a command is carried out, or by the want of leaves for its look
pub record Carried {T : Type 0} (answers : Answering T) (a b : Point T) (u : User) (c : Command)
    (result : Result Answer Stop) : Type 0 where
  pub es : List Event
  pub went : Went answers a b es
  pub some : es ≡ [] → ⊥
  pub carried : IsCommand u c es result b.client
