-- The clients of all users, in the order of the users' numbers, and what each sends to a server.
use Rattle.std.specs.Prelude.{List, Option, Some, None, slice_index_or}
use Rattle.layout.specs.Types.{Bytes, User}
use Rattle.client_releases.specs.declared.phase.Phase.{Phase}
use Rattle.client_releases.specs.declared.phase.Phase.TheVariants as phase
use Rattle.client_steps.specs.Steps.{Client, Closed, Open, first}

-- a user's client
abbrev pub client_at : List Client → User → Client
client_at clients u = slice_index_or clients u first

-- the text of an open client in this phase that is a certificate, to be sent
abbrev pub certificate_in : Phase → Bytes → Option Bytes
certificate_in phase.Declared text = Some text
certificate_in other text = None

-- and the one that is a structure
abbrev pub structure_in : Phase → Bytes → Option Bytes
structure_in phase.Signed text = Some text
structure_in other text = None

-- the signed certificate that a client has declared, until it signs
abbrev pub certificate_of : Client → Option Bytes
certificate_of (Closed p) = None
certificate_of (Open s) = certificate_in s.phase s.text

-- the structure that it has signed, until that is committed
abbrev pub structure_of : Client → Option Bytes
structure_of (Closed p) = None
structure_of (Open s) = structure_in s.phase s.text
