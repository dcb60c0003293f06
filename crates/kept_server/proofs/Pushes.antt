-- The calls whose records aren't taken yet.
use Rattle.std.proofs.Common.{◌≡◌, List, [], ◌∷◌, ◌++◌, sym, ap, ◌∙◌}
use Rattle.std.specs.Prelude.{map}
use Rattle.std.proofs.lemmas.List.{append-nil, append_assoc, map-append}
use Rattle.record_log.specs.Records.{Record}
use Rattle.consistency_server.specs.Answers.{Call}
use Rattle.server_log.specs.KeptLog.{record_of}

-- the records are those of the last of these calls
abbrev pub AreOfLast : List Call → List Record → Type 0
AreOfLast calls records = (taken left : List Call) × (calls ≡ taken ++ left) × (records ≡ map record_of left)

pub all_taken : (calls : List Call) (records : List Record) → records ≡ [] → AreOfLast calls records
all_taken calls records none = (calls, [], sym (append-nil calls), none)

pub one_more : (calls calls' : List Call) (records records' : List Record) (x : Call) → AreOfLast calls records → calls' ≡ calls ++ x ∷ [] → records' ≡ records ++ record_of x ∷ []
    → AreOfLast calls' records'
one_more calls calls' records records' x (taken, left, split, are) grown added = (
  taken,
  left ++ x ∷ [],
  grown ∙ ap (λ l. l ++ x ∷ []) split ∙ append_assoc taken left (x ∷ []),
  added ∙ ap (λ l. l ++ record_of x ∷ []) are ∙ sym (map-append record_of left (x ∷ [])),
)
