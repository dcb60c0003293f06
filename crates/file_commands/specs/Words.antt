-- The words that the program takes, as what clap reads of its command.
use Rattle.std.specs.Prelude.{ℕ, Some, codes, pos, true}
use Rattle.clap.specs.Words.{App, Rule, Text, new_app, new_rule, with_rule, with_subcommand}
use Rattle.clap.specs.declared.builder.ArgAction.TheVariants.{Set, SetTrue}
use Rattle.clap.specs.declared.builder.ValueParser.TheVariants as parser

-- a value, by its place, that may be left out
abbrev pub optional : Text → Rule
optional id = record (new_rule id) { action = Some Set }

-- a required value, by its place
abbrev pub placed : Text → Rule
placed id = record (optional id) { required = true }

-- its value has a name in help
abbrev pub valued : Rule → Rule
valued rule = record rule { value_names = 1 }

-- an option with a value
abbrev pub option : Text → Rule
option id = valued (record (optional id) { long = Some id })

-- an option without a value
abbrev pub flag : Text → Rule
flag id = record (new_rule id) { action = Some SetTrue; long = Some id }

-- the same, with a short name too
abbrev pub short_flag : ℕ → Text → Rule
short_flag short id = record (flag id) { short = Some short }

-- its value is a number from `low` to `high`
abbrev pub numbered : ℕ → ℕ → Rule → Rule
numbered low high rule = record rule { parser = Some (parser.Signed (pos low) (pos high)) }

abbrev pub of_user : Rule → Rule
of_user = numbered 0 63

abbrev pub of_group : Rule → Rule
of_group = numbered 64 95

-- ---- the commands

abbrev pub key_app : App
key_app = new_app (codes "key")

abbrev pub status_app : App
status_app = new_app (codes "status")

abbrev pub users_app : App
users_app = new_app (codes "users")

-- a command that takes a path alone
abbrev pub path_app : Text → App
path_app name = with_rule (new_app name) (placed (codes "PATH"))

-- the entries of a directory, in `-l` with what stands at each
abbrev pub ls_app : App
ls_app = with_rule (path_app (codes "ls")) (short_flag 108 (codes "long"))

-- a command that takes a path and a file, or in `-r` a folder
abbrev pub file_app : Text → App
file_app name = with_rule (with_rule (path_app name) (placed (codes "FILE"))) (short_flag 114 (codes "recursive"))

abbrev pub mv_app : App
mv_app = with_rule (path_app (codes "mv")) (placed (codes "TO"))

abbrev pub link_app : App
link_app = with_rule (path_app (codes "link")) (placed (codes "TARGET"))

-- a command that takes a user and a key
abbrev pub user_key_app : Text → App
user_key_app name = with_rule (with_rule (new_app name) (of_user (placed (codes "U")))) (placed (codes "HEX"))

-- a command that takes a group and a user
abbrev pub member_app : Text → App
member_app name = with_rule (with_rule (new_app name) (of_group (placed (codes "G")))) (of_user (placed (codes "U")))

abbrev pub folder_app : App
folder_app = with_rule (new_app (codes "init")) (placed (codes "DIR"))

-- a folder is made: where, whose, and by which file of user 0's public key
abbrev pub init_app : App
init_app = with_rule (with_rule folder_app (of_user (placed (codes "USER")))) (optional (codes "SUPER_PUB"))

-- a file of changes that user 0 makes
abbrev pub admin_app : App
admin_app = with_rule (new_app (codes "admin")) (placed (codes "FILE"))

-- one more key is made
abbrev pub renew_app : App
renew_app = with_rule (new_app (codes "renew")) (flag (codes "early"))

-- commands are read, a line each, from standard input
abbrev pub batch_app : App
batch_app = with_rule (new_app (codes "batch")) (flag (codes "stop"))

-- ---- the program

abbrev pub options_app : App
options_app =
    with_rule (with_rule (with_rule (with_rule (new_app (codes "sundr")) (option (codes "dir")))
    (option (codes "server"))) (of_user (option (codes "user")))) (flag (codes "moved"))

-- a command is required
abbrev pub requires_command : App → App
requires_command app = record app { top = record app.top { subcommand_required = true } }

-- it has a version
abbrev pub versioned : App → App
versioned app = record app { top = record app.top { has_version = true } }

infixl 10 ◌with◌
abbrev ◌with◌ : App → App → App
app with sub = with_subcommand app sub.top

-- the commands that show something
abbrev pub with_looks : App → App
with_looks app = app with key_app with status_app with users_app with ls_app with path_app (codes "cat")

-- those for files and names
abbrev pub with_files : App → App
with_files app = app with file_app (codes "put") with file_app (codes "get") with path_app (codes "mkdir")
    with path_app (codes "rm") with mv_app with link_app

-- those that change the table of principals
abbrev pub with_changes : App → App
with_changes app = app with user_key_app (codes "adduser") with user_key_app (codes "setkey")
    with member_app (codes "addmember") with member_app (codes "dropmember") with admin_app

-- the commands of a user
abbrev pub with_commands : App → App
with_commands app = with_changes (with_files (with_looks app))

abbrev pub sundr_app : App
sundr_app = with_commands (versioned (requires_command options_app) with init_app) with renew_app with batch_app

-- a line of a batch: a command without options
abbrev pub line_app : App
line_app = with_commands (requires_command (new_app (codes "sundr")))
