-- Nobody has to believe this file: an aid of private contracts.
-- What a look tells of an answer.
use Rattle.std.specs.Prelude.{◌≡◌, Some, None}
use Rattle.update_cert.specs.World.{File, Directory}
use Rattle.client_tree.specs.Seen.{content_seen}
use Rattle.client_tree.specs.declared.questions.Answer.{Answer}
use Rattle.client_tree.specs.declared.questions.Answer.TheVariants as answer
use Rattle.client_verify.specs.declared.look.Look.{Look}
use Rattle.client_verify.specs.declared.look.Look.TheVariants as look

-- an answer is told as it is
abbrev pub IsTold : {A : Type 0} → Answer A → Look A → Type 0
IsTold (answer.Sees s) (look.File bytes) = content_seen s ≡ Some (File bytes.items)
IsTold (answer.Sees s) (look.Dir entries) = content_seen s ≡ Some (Directory entries)
IsTold (answer.Sees s) look.None = content_seen s ≡ None
IsTold (answer.Kind kind) (look.Kind told) = kind ≡ told
IsTold (answer.Free found) (look.Free told) = found ≡ told
IsTold a other = ⊥
