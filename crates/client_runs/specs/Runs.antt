-- Runs of the clients of all users: steps of any of them in any order, the latest first, with failed calls of devices,
-- crashes and restarts. Of servers and stores nothing is said: replies and blocks are any bytes.
use Rattle.std.specs.Prelude.{List, [], ◌∷◌, ◌==◌, if◌then◌else◌, map, slice_index_or}
use Rattle.std.specs.List.{Contains}
use Rattle.layout.specs.Types.{Key, User}
use Rattle.lms_sign.specs.Keys.{public_key_of}
use Rattle.lms_sign.specs.Secret.{Secret}
use Rattle.client_steps.specs.Steps.{Call, Client, IsSound, IsStep, Owner, first}

-- what all keys of each user are made of that the user may have, the first key first
abbrev pub Keys : Type 0
Keys = User → List Secret

abbrev pub public_keys : Keys → User → List Key
public_keys keys u = map public_key_of (keys u)

-- the public key of user 0's first key, which every client knows
abbrev pub pinned : Keys → Key
pinned keys = slice_index_or (public_keys keys 0) 0 []

-- this is one of the user's own public keys
abbrev pub IsOwnKey : Keys → User → Key → Type 0
IsOwnKey keys u key = Contains (public_keys keys u) key

abbrev pub owner : Keys → User → Owner
owner keys u = record { user = u; secrets = keys u; pinned = pinned keys }

-- a step of a user's client, and the client after it
pub record Event : Type 0 where
  pub user : User
  pub call : Call
  pub after : Client

-- a user's client after these steps
abbrev pub client_of : User → List Event → Client
client_of u [] = first
client_of u (e ∷ older) = if e.user == u then e.after else client_of u older

-- each is a step of its user's client as that was then
abbrev pub IsRun : Keys → List Event → Type 0
IsRun keys [] = Unit {0}
IsRun keys (e ∷ older) = IsStep (owner keys e.user) (client_of e.user older) e.call e.after × IsSound e.after
    × IsRun keys older
