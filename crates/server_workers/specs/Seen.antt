-- Nobody has to believe this file: an aid of private contracts.
-- The key that a connection remembers.
use Rattle.std.specs.Prelude.{◌==◌, ◌&&◌, Option, Some, None, is_none, if◌then◌else◌}
use Rattle.std.specs.Option.{option_and_then, option_map}
use Rattle.layout.specs.Types.{Key, User}
use Rattle.principals.specs.Table.{Table, key_of}
use Rattle.consistency_server.specs.declared.signer.Signer.{Signer}
use Rattle.server_workers.specs.declared.seen.SeenKey.{SeenKey}

-- a user, and the key that came last, where the user is listed
abbrev pub seen_of : Table → User → Option SeenKey
seen_of table user = option_map (λ k. record { user = user; key = k }) (key_of user table)

-- that of the user who is asked for, if one is
abbrev pub told_of : Option User → Table → Option SeenKey
told_of user table = option_and_then (seen_of table) user

-- the key that was seen, where it is the one by which this signer is judged: of a certificate of its user
abbrev pub seen_for : Option SeenKey → Signer → Option Key
seen_for seen s = option_and_then (λ k. if (k.user == s.user) && is_none s.version then Some k.key else None) seen

-- the user of a certificate
abbrev pub certifier : Option Signer → Option User
certifier signer = option_and_then (λ s. if is_none s.version then Some s.user else None) signer

-- what was seen last
abbrev pub later_seen : Option SeenKey → Option SeenKey → Option SeenKey
later_seen None before = before
later_seen (Some later) before = Some later
