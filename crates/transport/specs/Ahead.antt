-- Nobody has to believe this file: an aid of private contracts.
-- Requests that are likely to come next.
use Rattle.std.specs.Prelude.{List, [], ◌∷◌, ◌++◌, map, ℕ}
use Rattle.std.specs.declared.vec.Vec.{Vec}
use Rattle.layout.specs.Types.{Digest}
use Rattle.wire.specs.declared.kinds.RequestKind.TheVariants.{Put, Get, Sync}
use Rattle.transport.specs.Asked.{Asked}
use Rattle.transport.specs.declared.transport.Ahead.{Ahead}
use Rattle.transport.specs.declared.transport.Ahead.TheVariants.{Nothing, Puts, Gets}

-- a text is to be stored
abbrev pub puts : {A : Type 0} → Vec ℕ A → Asked
puts text = record { kind = Put; payload = text.items }

-- each block that was stored is to be kept
abbrev pub sync : Asked
sync = record { kind = Sync; payload = [] }

-- the block of a digest is asked for
abbrev pub gets : Digest → Asked
gets digest = record { kind = Get; payload = digest }

-- what is likely to be asked next, in this order
abbrev pub likely : {A : Type 0} → Ahead A → List Asked
likely Nothing = []
likely (Puts texts) = map puts texts.now ++ sync ∷ []
likely (Gets digests) = map gets digests.now
