-- The commit log as it is written: a record for each call that placed or committed. The bytes stand in docs/FORMATS.md.
use Rattle.std.specs.Prelude.{ℕ, List, [], ◌∷◌, ◌++◌, length}
use Rattle.std.specs.Int.{w32}
use Rattle.layout.specs.Types.{Bytes}
use Rattle.layout.specs.Format.{be}
use Rattle.consistency_server.specs.declared.call.CallKind.{CallKind}
use Rattle.consistency_server.specs.declared.call.CallKind.TheVariants.{Update, Commit}
use Rattle.consistency_server.specs.Answers.{Call}

abbrev pub number_of : CallKind → ℕ
number_of Update = 1
number_of Commit = 2

-- the kind, the length of the signed text, and the text
abbrev pub record_of : Call → Bytes
record_of call = (number_of call.kind ∷ be w32 (length call.text)) ++ call.text

unfoldable pub records : List Call → Bytes
records [] = []
records (call ∷ calls) = record_of call ++ records calls
