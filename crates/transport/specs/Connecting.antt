-- Exchanges of a transport that connects when it is first wanted.
use Rattle.std.specs.Prelude.{◌≡◌, ◌⊎◌, ◌≤◌, ◌+◌, ℕ, min, false, [], Option, Some, None, Result, Err}
use Rattle.layout.specs.Types.{Bytes}
use Rattle.leaf_ledger.specs.Device.{last_count, HasRisen}
use Rattle.transport.specs.Asked.{Asked}
use Rattle.transport.specs.Framing.{Standing, Exchanged}
use Rattle.transport.specs.declared.transport.TransportError.{TransportError}
use Rattle.transport.specs.declared.transport.TransportError.TheVariants.{Fault, Memory}

-- how it stands
pub record Link : Type 0 where
  -- how often it was refused a connection, up to the last count
  pub refused : ℕ
  -- how its connection stands, if it has one
  pub joined : Option Standing

abbrev pub faults_of : Option Standing → ℕ
faults_of None = 0
faults_of (Some s) = s.faults

-- how often it was refused and its connection failed, up to the last count
abbrev pub link_faults : Link → ℕ
link_faults link = min (link.refused + faults_of link.joined) last_count

-- it stands so: its connection does, or it has none, and a new one of which nothing was read
abbrev pub Joins : Option Standing → Standing → Type 0
Joins joined s = (joined ≡ Some s) ⊎ ((joined ≡ None) × (s.waiting ≡ []) × (s.broken ≡ false))

-- an exchange over its connection
pub record IsCarried (asked : Asked) (result : Result Bytes TransportError) (before now : Link) : Type 0 where
  pub first : Standing
  pub last : Standing
  pub joins : Joins before.joined first
  pub exchanged : Exchanged asked result first last
  pub joined : now.joined ≡ Some last
  pub refused : now.refused ≡ before.refused

-- It has no connection, and was refused one, which is counted, or memory ran out. It still has none.
pub record IsApart (result : Result Bytes TransportError) (before now : Link) : Type 0 where
  pub apart : before.joined ≡ None
  pub still : now.joined ≡ None
  pub later : before.refused ≤ now.refused
  pub why : ((result ≡ Err Fault) × HasRisen before.refused now.refused) ⊎ (result ≡ Err Memory)

-- what an exchange did
abbrev pub Reached : Asked → Result Bytes TransportError → Link → Link → Type 0
Reached asked result before now = IsCarried asked result before now ⊎ IsApart result before now
