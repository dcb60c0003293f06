-- The table of principals: who is a user, since when and by which keys, and who is a member of which group.
use Rattle.std.specs.Prelude.{◌≡◌, ◌⊎◌, Bool, not, List, [], ◌∷◌, ◌++◌, length, Option, Some, None, Result, Ok, Err, ◌==◌, ◌&&◌, ◌||◌, nat_lt, nat_le, find, map, if◌then◌else◌}
use Rattle.std.specs.List.{list_any}
use Rattle.std.specs.Option.{option_map, option_and_then}
use Rattle.std.specs.Ordering.{nat_cmp}
use Rattle.layout.specs.Ascending.{with_row}
use Rattle.layout.specs.Types.{Group, Key, Principal, User, Version}
use Rattle.principals.specs.declared.error.TableError.{TableError}
use Rattle.principals.specs.declared.error.TableError.TheVariants.{Listed, Unlisted, NotGroup, NotMember, Full, Memory, Pinned, KeysFull, TooSoon}
use Rattle.principals.specs.declared.table.Renewal.{Renewal}
use Rattle.principals.specs.declared.table.Row.{Row}

-- a user, listed at a number of user 0's with a key; and the keys that came later, in the order of their numbers
pub record Listing : Type 0 where
  pub user : User
  pub since : Version
  pub key : Key
  pub later : List Renewal

-- the users, ascending, and the rows of the members, in the order of writing
pub record Table : Type 0 where
  pub users : List Listing
  pub rows : List Row

-- the table of the beginning: user 0, since 0, with the key that every client knows; nobody is a member of a group
abbrev pub genesis : Key → Table
genesis key = record { users = record { user = 0; since = 0; key = key; later = [] } ∷ []; rows = [] }

-- ---- users

-- the listing of a user
abbrev pub listing_of : User → Table → Option Listing
listing_of user table = find (λ l. l.user == user) table.users

-- the last of a first key and of those that came later
abbrev pub last_key : Key → List Renewal → Key
last_key key [] = key
last_key key (r ∷ rs) = last_key r.key rs

-- and since when it is
abbrev pub last_since : Version → List Renewal → Version
last_since since [] = since
last_since since (r ∷ rs) = last_since r.since rs

-- the key that came last
abbrev pub key_of : User → Table → Option Key
key_of user table = option_map (λ l. last_key l.key l.later) (listing_of user table)

-- the last of these keys that came at this number of user 0's or before; the one before them where none did
abbrev pub key_by : Version → Option Key → List Renewal → Option Key
key_by version before [] = before
key_by version before (r ∷ rs) = key_by version (if nat_le r.since version then Some r.key else before) rs

-- the key of a listing at this number
abbrev pub listed_key_at : Version → Listing → Option Key
listed_key_at version l = key_by version (if nat_le l.since version then Some l.key else None) l.later

-- the user's key at this number of user 0's
abbrev pub key_at : User → Version → Table → Option Key
key_at user version table = option_and_then (listed_key_at version) (listing_of user table)

-- the number of user 0's that listed the user
abbrev pub since : User → Table → Option Version
since user table = option_map (λ l. l.since) (listing_of user table)

-- the user is listed since this number of user 0's or before
abbrev pub is_listed : Table → User → Version → Bool
is_listed table user number = list_any (λ l. (l.user == user) && nat_le l.since number) table.users

-- ---- members

abbrev pub is_row_of : Group → User → Row → Bool
is_row_of group user r = (r.group == group) && (r.user == user)

-- the row counts at this number of user 0's
abbrev pub counts_at : Version → Row → Bool
counts_at version r = nat_le r.begins version && ((r.until == 0) || nat_lt version r.until)

-- the user is a member of the group at this number of user 0's
abbrev pub is_member : Table → Group → User → Version → Bool
is_member table group user version = list_any (λ r. is_row_of group user r && counts_at version r) table.rows

-- ---- changes, each of an operation of user 0's with this number

-- the user is listed, since whenever
abbrev pub lists_user : Table → User → Bool
lists_user table user = list_any (λ l. l.user == user) table.users

-- the row of a member whose membership hasn't ended
abbrev pub is_open : Group → User → Row → Bool
is_open group user r = is_row_of group user r && (r.until == 0)

-- the user is a member of the group after all of user 0's operations
abbrev pub is_member_now : Table → Group → User → Bool
is_member_now table group user = list_any (is_open group user) table.rows

-- the user of a listing, by which they ascend
abbrev pub user_of : Listing → User
user_of l = l.user

-- the user stands among the others, in its place
abbrev pub user_added : Version → User → Key → Table → Table
user_added number user key table =
    record {
      users = with_row nat_cmp user_of table.users (record { user = user; since = number; key = key; later = [] });
      rows = table.rows;
    }

-- a listing with one more key
abbrev pub with_later : Renewal → Listing → Listing
with_later r l = record { user = l.user; since = l.since; key = l.key; later = l.later ++ r ∷ [] }

-- the user's listing with one more key; others stay
abbrev pub with_key : Version → User → Key → Listing → Listing
with_key number user key l = if l.user == user then with_later (record { since = number; key = key }) l else l

abbrev pub key_set : Version → User → Key → Table → Table
key_set number user key table = record { users = map (with_key number user key) table.users; rows = table.rows }

abbrev pub member_added : Version → Group → User → Table → Table
member_added number group user table =
    record {
      users = table.users;
      rows = table.rows ++ record { group = group; user = user; begins = number; until = 0 } ∷ [];
    }

-- an open row of the group and the user ends; others stay
abbrev pub ended : Version → Group → User → Row → Row
ended number group user r = if is_open group user r
    then record { group = r.group; user = r.user; begins = r.begins; until = number } else r

abbrev pub member_dropped : Version → Group → User → Table → Table
member_dropped number group user table = record { users = table.users; rows = map (ended number group user) table.rows }

-- ---- why a change is refused, the least of several errors

abbrev pub is_group : Principal → Bool
is_group principal = nat_le 64 principal

abbrev pub user_refused : Table → User → Option TableError
user_refused table user = if lists_user table user then Some Listed else None

-- why a listing takes no further key at this number: it has 16, or its last one came no earlier
abbrev pub listing_refused : Version → Listing → Option TableError
listing_refused number l =
    if nat_le 15 (length l.later) then Some KeysFull
    else if nat_le number (last_since l.since l.later) then Some TooSoon
    else None

abbrev pub key_refused : Table → User → Version → Option TableError
key_refused table user number =
    if not (lists_user table user) then Some Unlisted
    else if user == 0 then Some Pinned
    else option_and_then (listing_refused number) (listing_of user table)

abbrev pub member_refused : Table → Principal → User → Option TableError
member_refused table group user =
    if is_group group && is_member_now table group user then Some Listed
    else if not (lists_user table user) then Some Unlisted
    else if not (is_group group) then Some NotGroup
    else if nat_le 65535 (length table.rows) then Some Full
    else None

abbrev pub drop_refused : Table → Principal → User → Option TableError
drop_refused table group user =
    if not (lists_user table user) then Some Unlisted
    else if not (is_group group) then Some NotGroup
    else if not (is_member_now table group user) then Some NotMember
    else None

-- what a call answers: why it is refused, and where it isn't, at most that memory ran out
abbrev pub Told : {X : Type 0} → Option TableError → Result X TableError → Type 0
Told refused (Ok x) = refused ≡ None
Told refused (Err e) = (refused ≡ Some e) ⊎ ((refused ≡ None) × (e ≡ Memory))
