-- The text of the table of principals: a tag and the users after their count, and the rows of the members after theirs.
-- The tag is `SPT1` while each user has one key, and `SPT2` from then on. The bytes stand in docs/FORMATS.md.
use Rattle.std.specs.Prelude.{◌≡◌, ◌==◌, ◌-◌, ◌≤◌, ℕ, suc, Bool, true, false, not, ◌&&◌, ◌||◌, List, [], ◌∷◌, ◌++◌, length, Option, Some, None, Ok, Err, is_some, codes, nat_le, nat_lt, if◌then◌else◌}
use Rattle.std.specs.Int.{w8, w16, w32}
use Rattle.std.specs.List.{All, list_any, slice_get}
use Rattle.std.specs.Option.{option_map_or}
use Rattle.std.specs.Ordering.{nat_cmp}
use Rattle.layout.specs.Format.{Answer, Format, Rows, RowAfter, ◌>>=◌, tagged, uint_in, raw, pair, followed, guarded, headed, mapped, sized, rows_from, listed, listed_from}
use Rattle.layout.specs.Ranges.{user, group, version}
use Rattle.layout.specs.Ascending.{above}
use Rattle.layout.specs.Types.{Bytes, Group, Key, User, Version}
use Rattle.layout.specs.declared.error.ReadError.TheVariants.{Order, Range}
use Rattle.lms_sign.specs.Keys.{is_key}
use Rattle.principals.specs.declared.table.Renewal.{Renewal}
use Rattle.principals.specs.declared.table.Row.{Row}
use Rattle.principals.specs.Table.{Table, Listing, last_since, lists_user, is_member_now, user_of, with_later}

-- ---- forms of formats

-- the values of one format among those of another type
abbrev pub within : {A B : Type 0} → (A → B) → (B → A) → Format A → Format B
within to from f = record {
  spell = λ y. f.spell (from y);
  onto = λ old y. f.onto old (from y);
  read = λ bytes. f.read bytes >>= λ x. Ok (to x.0, x.1);
  Fits = λ y. f.Fits (from y) × (to (from y) ≡ y);
}

abbrev pub Either : Bool → Type 0 → Type 0 → Type 0
Either true A B = A
Either false A B = B

-- what is read after a tag, and what is read where it isn't there
abbrev pub tag_or : {A : Type 0} → Answer (Unit {0}) → (Bytes → Answer A) → Answer A → Answer A
tag_or (Ok t) there other = there t.1
tag_or (Err e) there other = other

-- a value after the one tag where it passes a test, and after the other where it doesn't
abbrev pub by_tag : {A : Type 0} → (A → Bool) → Bytes → Format A → Bytes → Format A → Format A
by_tag test tag f other g = record {
  spell = λ x. if test x then (headed tag f).spell x else (headed other g).spell x;
  onto = λ old x. if test x then (headed tag f).onto old x else (headed other g).onto old x;
  read = λ bytes. tag_or ((tagged tag).read bytes) f.read ((headed other g).read bytes);
  Fits = λ x. Either (test x) (f.Fits x) (g.Fits x);
}

-- ---- users

abbrev pub key : Format Key
key = guarded (raw 56) is_key Range

-- user 0 comes first
abbrev pub who : Option Listing → Format User
who None = guarded user (λ u. u == 0) Range
who (Some before) = guarded user (above nat_cmp user_of (Some before)) Order

-- and is listed at 0; each other one is listed by an operation of user 0's
abbrev pub listed_at : Option Listing → Format Version
listed_at None = uint_in w32 0 0
listed_at (Some before) = uint_in w32 1 4294967295

-- a key, after the number at which it came
abbrev pub dated : Format Version → Format Renewal
dated since = mapped (λ (since, key). record { since = since; key = key }) (λ r. (r.since, r.key)) (pair since key)

-- a user with its first key alone
abbrev pub with_first : User → Renewal → Listing
with_first user first = record { user = user; since = first.since; key = first.key; later = [] }

-- where each user has one key: a user, the number and the key
abbrev pub listing : RowAfter Listing
listing before =
    within (λ (user, first). with_first user first) (λ l. (l.user, record { since = l.since; key = l.key }))
    (pair (who before) (dated (listed_at before)))

abbrev pub single : Format (List Listing)
single = listed (uint_in w8 1 255) listing

-- the listing so far says what the next key may be: each came later than the one before
abbrev pub renewals : Rows Listing Renewal
renewals = record {
  row = λ l. dated (guarded (uint_in w32 1 4294967295) (nat_lt (last_since l.since l.later)) Order);
  next = λ l r. with_later r l;
}

-- so many keys of a user: the first one, and those that came later
abbrev pub keys_after : Option Listing → User → ℕ → Format (Renewal × List Renewal)
keys_after before user n =
    followed (dated (listed_at before)) (λ first. rows_from renewals (with_first user first) (n - 1))

-- how many they are: a number that passes a test
abbrev pub key_count : (ℕ → Bool) → Format ℕ
key_count may = guarded (uint_in w8 1 16) may Range

abbrev pub keys : Option Listing → (ℕ → Bool) → User → Format (Renewal × List Renewal)
keys before may user = sized (key_count may) (λ k. suc (length k.1)) (keys_after before user)

abbrev pub keys_of : Listing → Renewal × List Renewal
keys_of l = (record { since = l.since; key = l.key }, l.later)

-- a user, and its keys after their count
abbrev pub listing_by : Option Listing → (ℕ → Bool) → Format Listing
listing_by before may =
    mapped (λ (user, (first, later)). record { user = user; since = first.since; key = first.key; later = later })
    (λ l. (l.user, keys_of l)) (followed (who before) (keys before may))

-- the user has more than one key
abbrev pub is_renewed : Listing → Bool
is_renewed l = nat_le 1 (length l.later)

abbrev pub are_renewed : List Listing → Bool
are_renewed users = list_any is_renewed users

-- how many users are to come, and those that came
pub record Users : Type 0 where
  pub left : ℕ
  pub came : List Listing

abbrev pub last_user : List Listing → Option Listing
last_user users = slice_get users (length users - 1)

-- user 0 has one key
abbrev pub may_have : Option Listing → ℕ → Bool
may_have before n = is_some before || (n == 1)

-- and the last user has more than one, where nobody else has
abbrev pub may_come : Users → ℕ → Bool
may_come s n = may_have (last_user s.came) n && (are_renewed s.came || (not (s.left == 1) || nat_le 2 n))

abbrev pub user_rows : Rows Users Listing
user_rows = record {
  row = λ s. listing_by (last_user s.came) (may_come s);
  next = λ s l. record { left = s.left - 1; came = s.came ++ l ∷ [] };
}

abbrev pub none_of : ℕ → Users
none_of n = record { left = n; came = [] }

abbrev pub several : Format (List Listing)
several = sized (uint_in w8 1 255) length (λ n. rows_from user_rows (none_of n) n)

abbrev pub users : Format (List Listing)
users = by_tag are_renewed (codes "SPT2") several (codes "SPT1") single

-- ---- rows of members

-- where the last row begins, 0 where there is none
abbrev pub last_begins : Table → Version
last_begins table = option_map_or (λ r. r.begins) (slice_get table.rows (length table.rows - 1)) 0

-- what may end a row of the group and the user: nothing as yet, where no row of theirs is open, or no number before it
abbrev pub may_end : Table → Group → User → Version → Version → Bool
may_end table group user begins until = if until == 0 then not (is_member_now table group user) else nat_le begins until

abbrev pub listed_user : Table → Format User
listed_user table = guarded user (lists_user table) Range

abbrev pub begins_row : Table → Format Version
begins_row table = guarded version (nat_le (last_begins table)) Order

abbrev pub ends_row : Table → Group → User → Version → Format Version
ends_row table g u begins = guarded (uint_in w32 0 4294967295) (may_end table g u begins) Range

abbrev pub row : Table → Format Row
row table =
    mapped (λ (group, (user, (begins, until))). record { group = group; user = user; begins = begins; until = until })
    (λ r. (r.group, (r.user, (r.begins, r.until))))
    (followed group (λ g. followed (listed_user table)
    (λ u. followed (begins_row table) (λ begins. ends_row table g u begins))))

-- a row as it is written, whatever stands before it
abbrev pub plain_row : Format Row
plain_row =
    mapped (λ (group, (user, (begins, until))). record { group = group; user = user; begins = begins; until = until })
    (λ r. (r.group, (r.user, (r.begins, r.until))))
    (pair group (pair user (pair version (uint_in w32 0 4294967295))))

abbrev pub with_next : Table → Row → Table
with_next table r = record { users = table.users; rows = table.rows ++ r ∷ [] }

-- the table so far says what the next row may be
abbrev pub member_rows : Rows Table Row
member_rows = record { row = row; next = with_next }

-- ---- the table

abbrev pub without_rows : List Listing → Table
without_rows users = record { users = users; rows = [] }

abbrev pub rows_of : List Listing → Format (List Row)
rows_of users = listed_from (uint_in w16 0 65535) member_rows (without_rows users)

abbrev pub table : Format Table
table =
    mapped (λ (users, rows). record { users = users; rows = rows }) (λ t. (t.users, t.rows)) (followed users rows_of)

-- no row begins after this number
abbrev pub NoneAfter : Version → Table → Type 0
NoneAfter number table = All (λ r. r.begins ≤ number) table.rows
