-- Answers: what is told of a command, the text that is printed of it, and the status with which the program ends.
use Rattle.std.specs.Prelude.{ℕ, List, ◌++◌, codes, decimal}
use Rattle.std.specs.List.{flat_map}
use Rattle.layout.specs.Types.{Bytes}
use Rattle.directory.specs.Directory.{Entry}
use Rattle.directory.specs.declared.target.Target.{Target}
use Rattle.reply_rules.specs.Number.{number_of}
use Rattle.reply_rules.specs.declared.rule.Rule.{Rule}
use Rattle.reply_rules.specs.declared.rule.Rule.TheVariants as rule
use Rattle.wire.specs.Frame.{number_of_status}
use Rattle.wire.specs.declared.kinds.Status.{Status}
use Rattle.commands.specs.Quoting.{shown_name}
use Rattle.commands.specs.Rows.{Row}
use Rattle.commands.specs.declared.row.Kind.{Kind}
use Rattle.commands.specs.declared.row.Kind.TheVariants as kind
use Rattle.commands.specs.declared.answer.Answer.{Answer as Held}
use Rattle.commands.specs.declared.answer.Answer.TheVariants as held
use Rattle.commands.specs.declared.answer.Refusal.{Refusal}
use Rattle.commands.specs.declared.answer.Refusal.TheVariants as refusal

-- what is told
pub data Answer : Type 0 where
  Done : Answer
  Shown : Bytes → Answer
  Listing : List Entry → Answer
  Details : List Row → Answer
  Lost : List ℕ → Answer
  Broken : Rule → Answer
  Declined : Status → Answer
  Refused : Refusal → Answer

-- an answer in memory
abbrev pub answer_of : {A : Type 0} → Held A → Answer
answer_of held.Done = Done
answer_of (held.Bytes bytes) = Shown bytes.items
answer_of (held.Listing directory) = Listing directory
answer_of (held.Details rows) = Details rows.items
answer_of (held.Lost numbers) = Lost numbers.items
answer_of (held.Broken broken) = Broken broken
answer_of (held.Declined status) = Declined status
answer_of (held.Refused why) = Refused why

-- ---- what is printed

abbrev pub name_of_rule : Rule → Bytes
name_of_rule rule.Form = codes "Form"
name_of_rule rule.Lists = codes "Lists"
name_of_rule rule.OwnLast = codes "OwnLast"
name_of_rule rule.OwnPending = codes "OwnPending"
name_of_rule rule.SuperSignature = codes "SuperSignature"
name_of_rule rule.Block = codes "Block"
name_of_rule rule.Content = codes "Content"
name_of_rule rule.UnknownUser = codes "UnknownUser"
name_of_rule rule.Signature = codes "Signature"
name_of_rule rule.Certificate = codes "Certificate"
name_of_rule rule.Numbers = codes "Numbers"
name_of_rule rule.Vector = codes "Vector"
name_of_rule rule.Entries = codes "Entries"
name_of_rule rule.Link = codes "Link"
name_of_rule rule.GroupRecord = codes "GroupRecord"

abbrev pub words_of : Refusal → Bytes
words_of refusal.NoPath = codes "no path"
words_of refusal.There = codes "there"
words_of refusal.NotEmpty = codes "not empty"
words_of refusal.NoNumber = codes "no number"
words_of refusal.NoLeaf = codes "no leaf"
words_of refusal.NoKey = codes "no key"
words_of refusal.TooLarge = codes "too large"
words_of refusal.Device = codes "device"
words_of refusal.Foreign = codes "foreign"
words_of refusal.Damaged = codes "damaged"
words_of refusal.Cut = codes "cut"
words_of refusal.Memory = codes "memory"

-- an entry: `NAME p:i`
abbrev pub entry_line : Entry → Bytes
entry_line e = e.name ++ codes " " ++ decimal e.target.principal ++ codes ":" ++ decimal e.target.i_number ++ codes "\n"

-- A row: `KIND SIZE p:i NAME`. What is no file has no size, which is printed as 0.
abbrev pub kind_letter : Kind → Bytes
kind_letter kind.Nothing = codes "-"
kind_letter (kind.File size) = codes "f"
kind_letter kind.Directory = codes "d"

abbrev pub size_in : Kind → ℕ
size_in kind.Nothing = 0
size_in (kind.File size) = size
size_in kind.Directory = 0

abbrev pub kind_text : Kind → Bytes
kind_text kind = kind_letter kind ++ codes " " ++ decimal (size_in kind) ++ codes " "

abbrev pub target_text : Target → Bytes
target_text t = decimal t.principal ++ codes ":" ++ decimal t.i_number ++ codes " "

abbrev pub row_text : Kind → Target → Bytes → Bytes
row_text kind t name = kind_text kind ++ target_text t ++ shown_name name ++ codes "\n"

abbrev pub row_line : Row → Bytes
row_line r = row_text r.kind r.entry.target r.entry.name

-- a number, after a blank
abbrev pub number_text : ℕ → Bytes
number_text n = codes " " ++ decimal n

abbrev pub lost_line : List ℕ → Bytes
lost_line numbers = codes "lost" ++ flat_map number_text numbers ++ codes "\n"

abbrev pub broken_line : Rule → Bytes
broken_line broken = codes "broken " ++ decimal (number_of broken) ++ codes " " ++ name_of_rule broken ++ codes "\n"

abbrev pub declined_line : Status → Bytes
declined_line status = codes "declined " ++ decimal (number_of_status status) ++ codes "\n"

abbrev pub refused_line : Refusal → Bytes
refused_line why = words_of why ++ codes "\n"

-- Each line ends with a newline. The bytes of a file are printed as they are.
abbrev pub printed : Answer → Bytes
printed Done = codes "done\n"
printed (Shown bytes) = bytes
printed (Listing entries) = flat_map entry_line entries
printed (Details rows) = flat_map row_line rows
printed (Lost numbers) = lost_line numbers
printed (Broken broken) = broken_line broken
printed (Declined status) = declined_line status
printed (Refused why) = refused_line why

-- ---- the status

abbrev pub status_of : Answer → ℕ
status_of Done = 0
status_of (Shown bytes) = 0
status_of (Listing entries) = 0
status_of (Details rows) = 0
status_of (Lost numbers) = 1
status_of (Broken broken) = 2
status_of (Declined status) = 3
status_of (Refused why) = 4
