-- What a command asks for, and what is told of it, where it is known what is read at each i-number: at the place of the
-- table of principals, a file of its text.
use Rattle.std.specs.Prelude.{max, ℕ, zero, suc, ◌+◌, ◌-◌, ◌*◌, ◌==◌, ◌&&◌, ◌||◌, Bool, true, false, not, if◌then◌else◌}
use Rattle.std.specs.Prelude.{List, [], ◌∷◌, ◌++◌, length, map, Option, Some, None, is_some, nat_lt}
use Rattle.std.specs.List.{list_any}
use Rattle.std.specs.Str.{bytes_eq}
use Rattle.std.specs.Option.{option_and_then, option_map_or}
use Rattle.layout.specs.Types.{Bytes, INumber, Principal, User}
use Rattle.itable.specs.declared.inode.TheConstants.{FILE_SIZE}
use Rattle.directory.specs.Directory.{Entry, target_of}
use Rattle.directory.specs.declared.target.Target.{Target}
use Rattle.update_cert.specs.Change.{Action, Make, Put, Remove, Link, Unlink, AddUser, AddMember, DropMember, SetKey}
use Rattle.update_cert.specs.Change.{Change, of_table}
use Rattle.update_cert.specs.declared.cert.TheConstants.{MOST_CHANGES}
use Rattle.update_cert.specs.declared.change.TableChange.{TableChange}
use Rattle.update_cert.specs.declared.change.TableChange.TheVariants as table_change
use Rattle.update_cert.specs.World.{Content, File, Directory, Principals, Tree, entries_of}
use Rattle.commands.specs.Paths.{Path, path_of, place_of}
use Rattle.commands.specs.Files.{have_names, name_of}
use Rattle.commands.specs.Rows.{Row}
use Rattle.commands.specs.Answers.{Answer, Done, Shown, Listing, Details, Lost, Refused}
use Rattle.commands.specs.declared.files.NewFile.{NewFile}
use Rattle.commands.specs.declared.files.TheConstants.{MOST_FILES}
use Rattle.commands.specs.declared.row.Kind.{Kind}
use Rattle.commands.specs.declared.row.Kind.TheVariants as kind
use Rattle.commands.specs.declared.answer.Refusal.{Refusal}
use Rattle.commands.specs.declared.answer.Refusal.TheVariants as refusal
use Rattle.commands.specs.declared.place.Course.{Course}
use Rattle.commands.specs.declared.place.Course.TheVariants as course
use Rattle.commands.specs.declared.place.Place.{Place as Held}
use Rattle.commands.specs.declared.place.Place.TheVariants as held
use Rattle.commands.specs.declared.place.Stands.{Stands}
use Rattle.commands.specs.declared.place.Stands.TheVariants as stands
use Rattle.commands.specs.declared.command.Command.{Command}
use Rattle.commands.specs.declared.command.Command.TheVariants as command

-- ---- where a path leads

abbrev pub content_at : Tree → Target → Option Content
content_at tree t = tree t.principal t.i_number

-- what a name stands for in a directory
abbrev pub entry_at : Tree → Target → Bytes → Option Target
entry_at tree directory name = target_of (entries_of (content_at tree directory)) name

-- from here through these names in turn, if each is there
unfoldable pub walk : Tree → Target → List Bytes → Option Target
walk tree here [] = Some here
walk tree here (name ∷ names) = option_and_then (λ next. walk tree next names) (entry_at tree here name)

-- what stands at an i-number, as far as it matters to a change
abbrev pub stands_of : Option Content → Stands
stands_of None = stands.Nothing
stands_of (Some (File bytes)) = stands.File
stands_of (Some (Directory [])) = stands.EmptyDirectory
stands_of (Some (Directory (entry ∷ entries))) = stands.UsedDirectory
stands_of (Some (Principals table)) = stands.File

-- Where something is to be changed: at an i-number itself, where this stands; at a name that a directory lacks; or at a
-- name of a directory, which stands for this, where that stands.
pub data Place : Type 0 where
  At : Target → Stands → Place
  New : Target → Bytes → Place
  Old : Target → Bytes → Target → Stands → Place

-- a place in memory
abbrev pub place_held : Held → Place
place_held (held.At t there) = At t there
place_held (held.New directory name) = New directory name.now
place_held (held.Old directory name t there) = Old directory name.now t there

abbrev pub place_named : Tree → Target → Bytes → Option Target → Place
place_named tree directory name None = New directory name
place_named tree directory name (Some t) = Old directory name t (stands_of (content_at tree t))

-- the place of a name in what stands at an i-number, if that is a directory
abbrev pub place_in : Tree → Target → Bytes → Option Content → Option Place
place_in tree here name None = None
place_in tree here name (Some (File bytes)) = None
place_in tree here name (Some (Directory entries)) = Some (place_named tree here name (target_of entries name))
place_in tree here name (Some (Principals table)) = None

-- from here through all of these names but the last in turn, if each is there, to the place of the last one
unfoldable pub place_from : Tree → Target → List Bytes → Option Place
place_from tree here [] = Some (At here (stands_of (content_at tree here)))
place_from tree here (name ∷ []) = place_in tree here name (content_at tree here)
place_from tree here (name ∷ (next ∷ names)) =
    option_and_then (λ there. place_from tree there (next ∷ names)) (entry_at tree here name)

-- ---- a free i-number

-- the least of so many i-numbers from this one on at which nothing stands
unfoldable pub least_free : (INumber → Option Content) → INumber → ℕ → Option INumber
least_free content i zero = None
least_free content i (suc n) = if is_some (content i) then least_free content (i + 1) n else Some i

-- the first and the last i-number that a user makes: of a group those of the user's own range of 64
abbrev pub first_of : User → Principal → INumber
first_of user p = if nat_lt p 64 then 1 else max 1 (64 * user)

abbrev pub last_of : User → Principal → INumber
last_of user p = if nat_lt p 64 then 4095 else 64 * user + 63

-- the least of those from this one on at which nothing stands
abbrev pub free_from : User → Tree → Principal → INumber → Option INumber
free_from user tree p i = least_free (tree p) i (last_of user p + 1 - i)

-- where a principal's new file or directory is to stand, if a user makes it
abbrev pub free_for : User → Tree → Principal → Option INumber
free_for user tree p = free_from user tree p (first_of user p)

-- the i-number that is needed at a place
abbrev pub free_at : User → Tree → Place → Option INumber
free_at user tree (At t there) = None
free_at user tree (New directory name) = free_for user tree directory.principal
free_at user tree (Old directory name t there) = None

-- the same, of those from this one on
abbrev pub free_at_from : User → Tree → INumber → Place → Option INumber
free_at_from user tree i (At t there) = None
free_at_from user tree i (New directory name) = free_from user tree directory.principal i
free_at_from user tree i (Old directory name t there) = None

-- ---- what a command comes to

-- to an answer at once, or to an operation of these changes
pub data Outcome : Type 0 where
  Tells : Answer → Outcome
  Writes : List (Change Content) → Outcome

abbrev pub refuses : Refusal → Outcome
refuses why = Tells (Refused why)

abbrev pub change_at : Target → Action Content → Change Content
change_at t action = record { principal = t.principal; i_number = t.i_number; action = action }

abbrev pub link_at : Target → Bytes → Target → Change Content
link_at directory name t = change_at directory (Link (record { name = name; target = t }))

-- what is listed or read at the end of a path
abbrev pub lists : Option Content → Outcome
lists (Some (Directory entries)) = Tells (Listing entries)
lists other = refuses refusal.NoPath

abbrev pub reads : Option Content → Outcome
reads (Some (File bytes)) = Tells (Shown bytes)
reads other = refuses refusal.NoPath

-- of what kind is what stands there
abbrev pub kind_of : Option Content → Kind
kind_of None = kind.Nothing
kind_of (Some (File bytes)) = kind.File (length bytes)
kind_of (Some (Directory entries)) = kind.Directory
kind_of (Some (Principals table)) = kind.Nothing

abbrev pub row_of : Tree → Entry → Row
row_of tree e = record { entry = e; kind = kind_of (content_at tree e.target) }

abbrev pub tells_rows : Tree → Option Content → Outcome
tells_rows tree (Some (Directory entries)) = Tells (Details (map (row_of tree) entries))
tells_rows tree other = refuses refusal.NoPath

-- it is made at this i-number of the directory's principal, and linked
abbrev pub makes_named : Target → Bytes → Content → Option INumber → Outcome
makes_named directory name new None = refuses refusal.NoNumber
makes_named directory name new (Some i) =
    Writes (change_at (record { principal = directory.principal; i_number = i }) (Make new)
    ∷ link_at directory name (record { principal = directory.principal; i_number = i }) ∷ [])

abbrev pub puts : Bytes → Place → Option INumber → Outcome
puts bytes (At t stands.Nothing) free = Writes (change_at t (Make (File bytes)) ∷ [])
puts bytes (At t stands.File) free = Writes (change_at t (Put (File bytes)) ∷ [])
puts bytes (At t stands.EmptyDirectory) free = refuses refusal.NoPath
puts bytes (At t stands.UsedDirectory) free = refuses refusal.NoPath
puts bytes (New directory name) free = makes_named directory name (File bytes) free
puts bytes (Old directory name t stands.Nothing) free = refuses refusal.NoPath
puts bytes (Old directory name t stands.File) free = Writes (change_at t (Put (File bytes)) ∷ [])
puts bytes (Old directory name t stands.EmptyDirectory) free = refuses refusal.NoPath
puts bytes (Old directory name t stands.UsedDirectory) free = refuses refusal.NoPath

abbrev pub makes : Place → Option INumber → Outcome
makes (At t stands.Nothing) free = Writes (change_at t (Make (Directory [])) ∷ [])
makes (At t stands.File) free = refuses refusal.There
makes (At t stands.EmptyDirectory) free = refuses refusal.There
makes (At t stands.UsedDirectory) free = refuses refusal.There
makes (New directory name) free = makes_named directory name (Directory []) free
makes (Old directory name t there) free = refuses refusal.There

-- what a name stood for is removed with it where it is the directory's principal's
abbrev pub unlinks : Target → Bytes → Target → Outcome
unlinks directory name t =
    if t.principal == directory.principal
    then Writes (change_at directory (Unlink name) ∷ change_at t Remove ∷ [])
    else Writes (change_at directory (Unlink name) ∷ [])

abbrev pub removes : Place → Outcome
removes (At t stands.Nothing) = refuses refusal.NoPath
removes (At t stands.File) = Writes (change_at t Remove ∷ [])
removes (At t stands.EmptyDirectory) = Writes (change_at t Remove ∷ [])
removes (At t stands.UsedDirectory) = refuses refusal.NotEmpty
removes (New directory name) = refuses refusal.NoPath
removes (Old directory name t stands.Nothing) = Writes (change_at directory (Unlink name) ∷ [])
removes (Old directory name t stands.File) = unlinks directory name t
removes (Old directory name t stands.EmptyDirectory) = unlinks directory name t
removes (Old directory name t stands.UsedDirectory) = refuses refusal.NotEmpty

abbrev pub links : Target → Place → Outcome
links t (At other stands.Nothing) = refuses refusal.NoPath
links t (At other stands.File) = refuses refusal.There
links t (At other stands.EmptyDirectory) = refuses refusal.There
links t (At other stands.UsedDirectory) = refuses refusal.There
links t (New directory name) = Writes (link_at directory name t ∷ [])
links t (Old directory name other there) = refuses refusal.There

abbrev pub is_same : Target → Target → Bool
is_same t other = t.principal == other.principal && t.i_number == other.i_number

abbrev pub is_nothing : Stands → Bool
is_nothing stands.Nothing = true
is_nothing other = false

abbrev pub is_directory : Stands → Bool
is_directory stands.Nothing = false
is_directory stands.File = false
is_directory stands.EmptyDirectory = true
is_directory stands.UsedDirectory = true

-- whether a place is a name of another directory
abbrev pub is_elsewhere : Target → Place → Bool
is_elsewhere directory (At t there) = false
is_elsewhere directory (New other name) = not (is_same directory other)
is_elsewhere directory (Old other name t there) = not (is_same directory other)

-- What a name stands for gets another place as its name too. A directory gets another name in its own directory alone,
-- so that it comes to stand neither below itself nor where nothing leads to it.
abbrev pub adds_name : Place → Place → Outcome
adds_name (At t there) to = refuses refusal.NoPath
adds_name (New directory name) to = refuses refusal.NoPath
adds_name (Old directory name t there) to =
    if is_nothing there || (is_directory there && is_elsewhere directory to) then refuses refusal.NoPath else links t to

-- whether a name of a directory is that one
abbrev pub is_name_of : Target → Bytes → Target → Bytes → Bool
is_name_of directory name other other_name = is_same directory other && bytes_eq name other_name

-- Where another place is a name for the same, that name is given, and this one is taken away. While the other one is
-- there, giving it has no effect; if it is taken away meanwhile, it is given again, where the user may write there.
abbrev pub drops_name : Place → Place → Outcome
drops_name (At t there) to = refuses refusal.NoPath
drops_name (New directory name) to = refuses refusal.NoPath
drops_name (Old directory name t there) (At other stands) = refuses refusal.There
drops_name (Old directory name t there) (New other new_name) = refuses refusal.NoPath
drops_name (Old directory name t there) (Old other other_name u stands) =
    if is_same t u && not (is_name_of directory name other other_name)
    then Writes (link_at other other_name t ∷ change_at directory (Unlink name) ∷ []) else refuses refusal.There

-- by the place of another path
abbrev pub at_other : Tree → (Place → Place → Outcome) → Option Path → Place → Outcome
at_other tree comes None place = refuses refusal.NoPath
at_other tree comes (Some to) place =
    option_map_or (λ other. comes place other) (place_from tree to.start to.names) (refuses refusal.NoPath)

-- ---- several files of one directory

-- the changes of both, unless one is refused
abbrev pub both : Outcome → Outcome → Outcome
both (Tells answer) later = Tells answer
both (Writes changes) (Tells answer) = Tells answer
both (Writes changes) (Writes more) = Writes (changes ++ more)

-- from which i-number on the next one is looked for, after this one was taken at a place
abbrev pub next_from : INumber → Option INumber → INumber
next_from i None = i
next_from i (Some taken) = taken + 1

abbrev pub puts_at : User → Tree → INumber → NewFile → Place → Outcome
puts_at user tree i file place = puts file.content.now place (free_at_from user tree i place)

-- each file in turn at the place of its name in a directory, a new one at the least i-number that is free from this one
-- on and greater than those that are taken by the files before it
unfoldable pub puts_each : User → Tree → Target → INumber → List NewFile → Outcome
puts_each user tree directory i [] = Writes []
puts_each user tree directory i (file ∷ files) =
    option_map_or (λ place. both (puts_at user tree i file place)
    (puts_each user tree directory (next_from i (free_at_from user tree i place)) files))
    (place_in tree directory (name_of file) (content_at tree directory)) (refuses refusal.NoPath)

abbrev pub puts_in : User → Tree → List NewFile → Target → Option Content → Outcome
puts_in user tree files directory (Some (Directory entries)) =
    puts_each user tree directory (first_of user directory.principal) files
puts_in user tree files directory other = refuses refusal.NoPath

abbrev pub puts_named : User → Tree → List NewFile → Option Path → Outcome
puts_named user tree files None = refuses refusal.NoPath
puts_named user tree files (Some path) = option_map_or (λ t. puts_in user tree files t (content_at tree t))
    (walk tree path.start path.names) (refuses refusal.NoPath)

abbrev pub puts_all : User → Tree → List NewFile → Option Path → Outcome
puts_all user tree files path =
    if have_names files then puts_named user tree files path else refuses refusal.NoPath

-- what a course comes to, with this as what is put or made
abbrev pub outcome_of : Content → Course → Outcome
outcome_of new (course.Refuse why) = refuses why
outcome_of new (course.Put t) = Writes (change_at t (Put new) ∷ [])
outcome_of new (course.Make t) = Writes (change_at t (Make new) ∷ [])
outcome_of new (course.MakeNamed directory name i) = makes_named directory name.now new (Some i)
outcome_of new (course.Remove t) = Writes (change_at t Remove ∷ [])
outcome_of new (course.Unlink directory name) = Writes (change_at directory (Unlink name.now) ∷ [])
outcome_of new (course.UnlinkAndRemove directory name t) =
    Writes (change_at directory (Unlink name.now) ∷ change_at t Remove ∷ [])
outcome_of new (course.Link directory name t) = Writes (link_at directory name.now t ∷ [])
outcome_of new (course.LinkAndUnlink to to_name t directory name) =
    Writes (link_at to to_name.now t ∷ change_at directory (Unlink name.now) ∷ [])

-- what is done to the table of principals
abbrev pub on_table : TableChange → Action Content
on_table (table_change.AddUser who key) = AddUser who key
on_table (table_change.AddMember group who) = AddMember group who
on_table (table_change.DropMember group who) = DropMember group who
on_table (table_change.SetKey who key) = SetKey who key

abbrev pub all_on_table : List TableChange → List (Change Content)
all_on_table changes = map (λ c. of_table (on_table c)) changes

-- the one change of the table of principals that a command asks for
abbrev pub table_change_of : Command → Option TableChange
table_change_of (command.AddUser who key) = Some (table_change.AddUser who key)
table_change_of (command.SetKey who key) = Some (table_change.SetKey who key)
table_change_of (command.AddMember group who) = Some (table_change.AddMember group who)
table_change_of (command.DropMember group who) = Some (table_change.DropMember group who)
table_change_of other = None

-- by what stands at the end of the path, or by its place with the i-number that is needed there
abbrev pub at_end : Tree → (Option Content → Outcome) → Option Path → Outcome
at_end tree comes None = refuses refusal.NoPath
at_end tree comes (Some path) = option_map_or (λ t. comes (content_at tree t)) (walk tree path.start path.names)
    (refuses refusal.NoPath)

abbrev pub at_place : User → Tree → (Place → Option INumber → Outcome) → Option Path → Outcome
at_place user tree comes None = refuses refusal.NoPath
at_place user tree comes (Some path) = option_map_or (λ place. comes place (free_at user tree place))
    (place_from tree path.start path.names) (refuses refusal.NoPath)

abbrev pub at_both : User → Tree → (Place → Place → Outcome) → Option Path → Option Path → Outcome
at_both user tree comes path to = at_place user tree (λ place _. at_other tree comes to place) path

unfoldable pub outcome : User → Command → Tree → Outcome
outcome user (command.Ls path) tree = at_end tree lists (path_of path.now)
outcome user (command.Details path) tree = at_end tree (tells_rows tree) (path_of path.now)
outcome user (command.Cat path) tree = at_end tree reads (path_of path.now)
outcome user (command.Put path content) tree = at_place user tree (puts content.now) (path_of path.now)
outcome user (command.PutAll directory files) tree = puts_all user tree files.now (path_of directory.now)
outcome user (command.Mkdir path) tree = at_place user tree makes (path_of path.now)
outcome user (command.Rm path) tree = at_place user tree (λ place _. removes place) (path_of path.now)
outcome user (command.Link path target) tree =
    option_map_or (λ t. at_place user tree (λ place _. links t place) (path_of path.now)) (place_of target.now)
    (refuses refusal.NoPath)
outcome user (command.AddName path to) tree = at_both user tree adds_name (path_of path.now) (path_of to.now)
outcome user (command.DropName path to) tree = at_both user tree drops_name (path_of path.now) (path_of to.now)
outcome user (command.AddUser who key) tree = Writes (of_table (AddUser who key) ∷ [])
outcome user (command.SetKey who key) tree = Writes (of_table (SetKey who key) ∷ [])
outcome user (command.AddMember group who) tree = Writes (of_table (AddMember group who) ∷ [])
outcome user (command.DropMember group who) tree = Writes (of_table (DropMember group who) ∷ [])
outcome user (command.Admin changes) tree = Writes (all_on_table changes.now)

-- what is told of an operation, by the numbers of its changes that had no effect
abbrev pub told_of_lost : List ℕ → Answer
told_of_lost [] = Done
told_of_lost (n ∷ ns) = Lost (n ∷ ns)

-- it writes nothing, whatever stands in the tree
abbrev pub only_reads : Command → Bool
only_reads (command.Ls path) = true
only_reads (command.Details path) = true
only_reads (command.Cat path) = true
only_reads other = false

-- ---- what is told of the command alone, before anything is sent

abbrev pub has_path : Command → Bool
has_path (command.Ls path) = is_some (path_of path.now)
has_path (command.Details path) = is_some (path_of path.now)
has_path (command.Cat path) = is_some (path_of path.now)
has_path (command.Put path content) = is_some (path_of path.now)
has_path (command.PutAll directory files) = is_some (path_of directory.now) && have_names files.now
has_path (command.Mkdir path) = is_some (path_of path.now)
has_path (command.Rm path) = is_some (path_of path.now)
has_path (command.Link path target) = is_some (path_of path.now) && is_some (place_of target.now)
has_path (command.AddName path to) = is_some (path_of path.now) && is_some (path_of to.now)
has_path (command.DropName path to) = is_some (path_of path.now) && is_some (path_of to.now)
has_path (command.AddUser who key) = true
has_path (command.SetKey who key) = true
has_path (command.AddMember group who) = true
has_path (command.DropMember group who) = true
has_path (command.Admin changes) = true

-- more bytes than a file may have
abbrev pub is_large : Bytes → Bool
is_large content = nat_lt FILE_SIZE (length content)

-- the same, or more files or changes than an operation may have
abbrev pub is_too_large : Command → Bool
is_too_large (command.Put path content) = is_large content.now
is_too_large (command.PutAll directory files) =
    nat_lt MOST_FILES (length files.now) || list_any (λ file. is_large file.content.now) files.now
is_too_large (command.Admin changes) = nat_lt MOST_CHANGES (length changes.now)
is_too_large other = false

-- the path is none, or there is too much
abbrev pub early : Command → Option Refusal
early c = if not (has_path c) then Some refusal.NoPath else if is_too_large c then Some refusal.TooLarge else None
