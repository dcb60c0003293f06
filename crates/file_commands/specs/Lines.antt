-- What the words of a command line say.
use Rattle.std.specs.Prelude.{◌≡◌, ◌&&◌, ◌==◌, ℕ, Bool, nat_le, nat_lt, codes, if◌then◌else◌}
use Rattle.std.specs.Prelude.{List, [], ◌∷◌, length, Option, Some, None, Result, Ok, Err, false, is_some, option_map}
use Rattle.std.specs.List.{list_all}
use Rattle.std.specs.Option.{ok_or, option_map_or}
use Rattle.std.specs.Str.{bytes_eq}
use Rattle.std.specs.Char.{digit_value}
use Rattle.std.specs.Str.Parse.{digits_value, without_leading_plus}
use Rattle.clap.specs.Words.{Kinds, Row, Text, fault_of, first_of, matches_of, one_of, subcommand_of}
use Rattle.hex.specs.Hex.{decode_sized}
use Rattle.layout.specs.Types.{Bytes, Group, Key, User}
use Rattle.lms_sign.specs.Keys.{is_key}
use Rattle.commands.specs.declared.command.Command.TheVariants as command
use Rattle.file_commands.specs.Words.{line_app, sundr_app}
use Rattle.file_commands.specs.declared.line.Line.{Line}
use Rattle.file_commands.specs.declared.line.Wanted.{Wanted}
use Rattle.file_commands.specs.declared.line.Wanted.TheVariants as wanted
use Rattle.file_commands.specs.declared.line.NewFolder.{NewFolder}
use Rattle.file_commands.specs.declared.line.Request.{Request}
use Rattle.file_commands.specs.declared.line.Request.TheVariants as request
use Rattle.file_commands.specs.declared.line.LineError.{LineError}
use Rattle.file_commands.specs.declared.line.LineError.TheVariants as error
use Rattle.file_commands.specs.declared.reading.Unread.{Unread}
use Rattle.file_commands.specs.declared.reading.Unread.TheVariants as unread

-- what is to be done: a command with its words
pub data Order : Type 0 where
  ShowKey : Order
  ShowStatus : Order
  ShowUsers : Order
  Ls : Text → Order
  Details : Text → Order
  Cat : Text → Order
  Put : Text → Text → Order
  Get : Text → Text → Order
  -- the same of the files of a folder, and of those below it
  PutTree : Text → Text → Order
  GetTree : Text → Text → Order
  Mkdir : Text → Order
  Rm : Text → Order
  Link : Text → Text → Order
  Move : Text → Text → Order
  AddUser : User → Key → Order
  SetKey : User → Key → Order
  AddMember : Group → User → Order
  DropMember : Group → User → Order
  -- the changes that a file has, a line each
  Admin : Text → Order
  -- one more key is made, also where the one before has many leaves left
  Renew : Bool → Order
  -- the commands that come on standard input, up to the first that fails where it is so
  Batch : Bool → Order

-- What a line says. There is no order where a file's content stands in its name's place, nor for half a move, which no
-- line has.
pub record Said : Type 0 where
  pub dir : Text
  pub server : Text
  pub user : User
  pub moved : Bool
  pub order : Option Order

-- what a line asks for
pub data Asked : Type 0 where
  -- to make a folder: where, whose, and the file of user 0's public key, which every user but 0 is told
  Init : Text → User → Option Text → Asked
  -- to do what is ordered, by the files of a folder
  Work : Said → Asked

-- ---- lines in memory

abbrev pub order_of : Wanted → Option Order
order_of wanted.Key = Some ShowKey
order_of wanted.Status = Some ShowStatus
order_of wanted.Users = Some ShowUsers
order_of (wanted.Put path file) = Some (Put path.now file.now)
order_of (wanted.Get path file) = Some (Get path.now file.now)
order_of (wanted.PutTree path dir) = Some (PutTree path.now dir.now)
order_of (wanted.GetTree path dir) = Some (GetTree path.now dir.now)
order_of (wanted.Move path to) = Some (Move path.now to.now)
order_of (wanted.Admin file) = Some (Admin file.now)
order_of (wanted.Renew early) = Some (Renew early)
order_of (wanted.Batch stops) = Some (Batch stops)
order_of (wanted.Run (command.Ls path)) = Some (Ls path.now)
order_of (wanted.Run (command.Details path)) = Some (Details path.now)
order_of (wanted.Run (command.Cat path)) = Some (Cat path.now)
order_of (wanted.Run (command.Put path content)) = None
order_of (wanted.Run (command.PutAll directory files)) = None
order_of (wanted.Run (command.Mkdir path)) = Some (Mkdir path.now)
order_of (wanted.Run (command.Rm path)) = Some (Rm path.now)
order_of (wanted.Run (command.Link path target)) = Some (Link path.now target.now)
order_of (wanted.Run (command.AddName path to)) = None
order_of (wanted.Run (command.DropName path to)) = None
order_of (wanted.Run (command.AddUser user key)) = Some (AddUser user key)
order_of (wanted.Run (command.SetKey user key)) = Some (SetKey user key)
order_of (wanted.Run (command.AddMember group user)) = Some (AddMember group user)
order_of (wanted.Run (command.DropMember group user)) = Some (DropMember group user)
order_of (wanted.Run (command.Admin changes)) = None

abbrev pub said : Line → Said
said line = record {
  dir = line.dir.now;
  server = line.server.now;
  user = line.user;
  moved = line.moved;
  order = order_of line.wanted;
}

abbrev pub asked_new : NewFolder → Asked
asked_new folder = Init folder.dir.now folder.user (option_map (λ file. file.now) folder.super_key)

abbrev pub asked : Request → Asked
asked (request.Init folder) = asked_new folder
asked (request.Line line) = Work (said line)

-- an answer is f of what is read, and what hinders it is the same
abbrev pub reads : {X Y : Type 0} → (X → Y) → Result X Unread → Result Y Unread
reads f (Ok x) = Ok (f x)
reads f (Err e) = Err e

-- ---- values

infixl 10 ◌>>=◌
abbrev pub ◌>>=◌ : {X Y : Type 0} → Result X Unread → (X → Result Y Unread) → Result Y Unread
Ok x >>= f = f x
Err e >>= f = Err e

abbrev pub text_in : Text → List Row → Result Text Unread
text_in id rows = ok_or (first_of id rows) unread.Words

abbrev pub is_byte : Text → Bool
is_byte digits = nat_lt 0 (length digits) && list_all (λ d. nat_lt (digit_value d) 10) digits
    && nat_lt (digits_value 10 digits) 256

-- the number below 256 that a text of decimal digits is
abbrev pub number_of : Text → Option ℕ
number_of text =
    if is_byte (without_leading_plus text) then Some (digits_value 10 (without_leading_plus text)) else None

abbrev pub number_in : Text → List Row → Result ℕ Unread
number_in id rows = ok_or (option_map_or number_of (one_of id rows) None) unread.Words

abbrev pub user_in : Text → List Row → Result User Unread
user_in id rows = do
  number ← number_in id rows
  if nat_lt number 64 then Ok number else Err unread.Words

abbrev pub group_in : Text → List Row → Result Group Unread
group_in id rows = do
  number ← number_in id rows
  if nat_le 64 number && nat_lt number 96 then Ok number else Err unread.Words

abbrev pub checked_key : Bytes → Result Key Unread
checked_key bytes = if is_key bytes then Ok bytes else Err unread.Key

abbrev pub decoded_key : {E : Type 0} → Result Bytes E → Result Key Unread
decoded_key (Ok bytes) = checked_key bytes
decoded_key (Err e) = Err unread.Key

-- the key of 56 bytes that 112 hexadecimal digits are
abbrev pub key_of : Text → Result Key Unread
key_of text = decoded_key (decode_sized text 56)

-- the file of user 0's public key, which every user but 0 is told
abbrev pub super_key_for : User → Option Text → Result (Option Text) Unread
super_key_for user given =
    if user == 0 then (if is_some given then Err unread.SuperKeyGiven else Ok None)
    else (if is_some given then Ok given else Err unread.SuperKeyLacking)

abbrev pub is_true : Result Text Unread → Bool
is_true (Ok text) = bytes_eq text (codes "true")
is_true (Err e) = false

-- whether an option without a value is given
abbrev pub is_set : Text → List Row → Bool
is_set id rows = is_true (text_in id rows)

-- ---- commands

abbrev pub path_in : (Text → Order) → List Row → Result (Option Order) Unread
path_in order rows = do
  path ← text_in (codes "PATH") rows
  Ok (Some (order path))

-- a path, and the name of a file; or what is said of a folder
abbrev pub files_in : (Text → Text → Order) → (Text → Text → Order) → List Row → Result (Option Order) Unread
files_in order tree rows = do
  path ← text_in (codes "PATH") rows
  file ← text_in (codes "FILE") rows
  if is_set (codes "recursive") rows then Ok (Some (tree path file)) else Ok (Some (order path file))

abbrev pub list_in : List Row → Result (Option Order) Unread
list_in rows = do
  path ← text_in (codes "PATH") rows
  if is_set (codes "long") rows then Ok (Some (Details path)) else Ok (Some (Ls path))

abbrev pub move_in : List Row → Result (Option Order) Unread
move_in rows = do
  path ← text_in (codes "PATH") rows
  to ← text_in (codes "TO") rows
  Ok (Some (Move path to))

abbrev pub link_in : List Row → Result (Option Order) Unread
link_in rows = do
  path ← text_in (codes "PATH") rows
  target ← text_in (codes "TARGET") rows
  Ok (Some (Link path target))

-- a user, and a key of the user's
abbrev pub user_key_in : List Row → Result (User × Key) Unread
user_key_in rows = do
  user ← user_in (codes "U") rows
  hex ← text_in (codes "HEX") rows
  key ← key_of hex
  Ok (user, key)

abbrev pub key_change_in : (User → Key → Order) → List Row → Result (Option Order) Unread
key_change_in order rows = do
  own ← user_key_in rows
  Ok (Some (order own.0 own.1))

abbrev pub admin_in : List Row → Result (Option Order) Unread
admin_in rows = do
  file ← text_in (codes "FILE") rows
  Ok (Some (Admin file))

abbrev pub member_in : List Row → Result (Group × User) Unread
member_in rows = do
  group ← group_in (codes "G") rows
  user ← user_in (codes "U") rows
  Ok (group, user)

abbrev pub change_in : (Group → User → Order) → List Row → Result (Option Order) Unread
change_in order rows = do
  member ← member_in rows
  Ok (Some (order member.0 member.1))

abbrev pub order_in : Text → List Row → Result (Option Order) Unread
order_in name rows = if bytes_eq name (codes "key") then Ok (Some ShowKey)
    else (if bytes_eq name (codes "status") then Ok (Some ShowStatus)
    else (if bytes_eq name (codes "users") then Ok (Some ShowUsers)
    else (if bytes_eq name (codes "ls") then list_in rows
    else (if bytes_eq name (codes "cat") then path_in Cat rows
    else (if bytes_eq name (codes "put") then files_in Put (λ dir path. PutTree path dir) rows
    else (if bytes_eq name (codes "get") then files_in Get GetTree rows
    else (if bytes_eq name (codes "mkdir") then path_in Mkdir rows
    else (if bytes_eq name (codes "rm") then path_in Rm rows
    else (if bytes_eq name (codes "link") then link_in rows
    else (if bytes_eq name (codes "mv") then move_in rows
    else (if bytes_eq name (codes "adduser") then key_change_in AddUser rows
    else (if bytes_eq name (codes "setkey") then key_change_in SetKey rows
    else (if bytes_eq name (codes "addmember") then change_in AddMember rows
    else (if bytes_eq name (codes "dropmember") then change_in DropMember rows
    else (if bytes_eq name (codes "admin") then admin_in rows
    else (if bytes_eq name (codes "renew") then Ok (Some (Renew (is_set (codes "early") rows)))
    else (if bytes_eq name (codes "batch") then Ok (Some (Batch (is_set (codes "stop") rows)))
    else Err unread.Words)))))))))))))))))

abbrev pub order_met : Option (Text × List Row) → Result (Option Order) Unread
order_met None = Err unread.Words
order_met (Some p) = order_in p.0 p.1

-- ---- lines

abbrev pub line_in : List Row → Option (Text × List Row) → Result Said Unread
line_in rows sub = do
  dir ← text_in (codes "dir") rows
  server ← text_in (codes "server") rows
  user ← user_in (codes "user") rows
  order ← order_met sub
  Ok (record { dir = dir; server = server; user = user; moved = is_set (codes "moved") rows; order = order })

abbrev pub init_in : List Row → Result Asked Unread
init_in rows = do
  dir ← text_in (codes "DIR") rows
  user ← user_in (codes "USER") rows
  super_key ← super_key_for user (first_of (codes "SUPER_PUB") rows)
  Ok (Init dir user super_key)

abbrev pub work_in : List Row → Option (Text × List Row) → Result Asked Unread
work_in rows sub = do
  line ← line_in rows sub
  Ok (Work line)

abbrev pub request_in : List Row → Option (Text × List Row) → Result Asked Unread
request_in rows None = work_in rows None
request_in rows (Some p) = if bytes_eq p.0 (codes "init") then init_in p.1 else work_in rows (Some p)

-- the words are refused where clap finds a fault in them, and else the values that it finds are read
abbrev pub judged : {X : Type 0} → Kinds → Result X Unread → Result X Unread
judged [] read = read
judged (k ∷ ks) read = Err unread.Words

-- what the words say, of which the first is the program's name
abbrev pub request_of : List Text → Result Asked Unread
request_of words =
    judged (fault_of sundr_app words) (request_in (matches_of sundr_app words) (subcommand_of sundr_app words))

-- what the words of a line of a batch say, before which the program's name stands
abbrev pub command_of : List Text → Result (Option Order) Unread
command_of words = judged (fault_of line_app words) (order_met (subcommand_of line_app words))

-- the error of a line that is unread for this cause, or want of memory
abbrev pub IsErrorOf : LineError → Unread → Type 0
IsErrorOf (error.Words fault) why = why ≡ unread.Words
IsErrorOf error.Key why = why ≡ unread.Key
IsErrorOf error.SuperKeyGiven why = why ≡ unread.SuperKeyGiven
IsErrorOf error.SuperKeyLacking why = why ≡ unread.SuperKeyLacking
IsErrorOf error.Memory why = Unit {0}

-- clap's text is told where it finds a fault
abbrev pub IsFaultOf : LineError → Kinds → Type 0
IsFaultOf (error.Words fault) kinds = kinds ≡ [] → ⊥
IsFaultOf error.Key kinds = ⊥
IsFaultOf error.SuperKeyGiven kinds = ⊥
IsFaultOf error.SuperKeyLacking kinds = ⊥
IsFaultOf error.Memory kinds = Unit {0}

-- the error is this reading's, or want of memory
abbrev pub IsWhy : {X : Type 0} → LineError → Result X Unread → Type 0
IsWhy (error.Words fault) answer = answer ≡ Err unread.Words
IsWhy error.Key answer = answer ≡ Err unread.Key
IsWhy error.SuperKeyGiven answer = answer ≡ Err unread.SuperKeyGiven
IsWhy error.SuperKeyLacking answer = answer ≡ Err unread.SuperKeyLacking
IsWhy error.Memory answer = Unit {0}
