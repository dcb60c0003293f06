use Rattle.itable.specs.Chunk.{chunk_number}
use Rattle.itable.proofs.HandleLaws.{same_digest}
use Rattle.itable.proofs.ListedLaws.{loaded_at, whole_loaded}
use Rattle.itable.proofs.RootLaws.{loaded_listed}
use Rattle.itable.proofs.laws.loaded_in_tables.Goals as goal

pub returns : goal.returns
returns c = record { whole = whole_loaded; listed = λ t i here. loaded_listed t (chunk_number i) (loaded_at t i here); digest = same_digest }
