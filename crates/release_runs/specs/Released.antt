-- The texts that a client releases in a run.
use Rattle.std.specs.Prelude.{List, [], ◌∷◌, ◌++◌, Ok}
use Rattle.layout.specs.Types.{Bytes}
use Rattle.lms_sign.specs.Signature.{leaf_of}
use Rattle.leaf_ledger.specs.Ledger.{LeafNumber}
use Rattle.client_journal.specs.Records.{signature_in}
use Rattle.release_runs.specs.Steps.{Call, Client, Closed, Declares, Open, Opens, Resigns, Signs}
use Rattle.release_runs.specs.Runs.{Event}

-- the leaf by which a released text is signed
abbrev pub leaf_in : Bytes → LeafNumber
leaf_in text = leaf_of (signature_in text)

-- the text that an opened client found in its journal, to be handed out again, if it found one
abbrev pub found_text : Bytes → List Bytes
found_text [] = []
found_text (b ∷ text) = (b ∷ text) ∷ []

abbrev pub found_by : Client → List Bytes
found_by (Closed p) = []
found_by (Open s) = found_text s.text

-- what a call releases: `declare`, `resign` and `sign` the text that they give, `open` the one that it finds
abbrev pub released_by : Call → Client → List Bytes
released_by (Opens (Ok x)) after = found_by after
released_by (Declares n c (Ok text)) after = text ∷ []
released_by (Resigns n (Ok text)) after = text ∷ []
released_by (Signs n z (Ok text)) after = text ∷ []
released_by call after = []

-- the texts that were released in a run, the latest first
abbrev pub released : List Event → List Bytes
released [] = []
released (e ∷ older) = released_by e.call e.after ++ released older
