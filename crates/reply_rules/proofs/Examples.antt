-- The parts of the rules on small lists of users 0, 1 and 2: each holds of a good reply, and not of a copy that differs
-- in a place or a few.
--
-- User 0 and then user 1 committed their first operations, and user 2's first one was placed before user 1's and is
-- pending still. After top, which is user 1's structure, user 0's second operation is pending, and the own one, user
-- 1's second.
use Rattle.std.proofs.Common.{◌≡◌, ℕ, true, false, List, [], ◌∷◌, Some, refl}
use Rattle.std.specs.Str.{bytes_eq}
use Rattle.std.proofs.lemmas.Slice.Eq.{bytes_eq-Decides}
use Rattle.version_order.specs.declared.vector.Component.{Component}
use Rattle.version_order.specs.declared.plan.Entry.{Entry}
use Rattle.version_order.specs.declared.structure.GroupRecord.{GroupRecord}
use Rattle.version_order.specs.Plan.{Plan, entry_of, digest_of_plan}
use Rattle.version_order.specs.Structure.{Structure}
use Rattle.layout.specs.Types.{Digest}
use Rattle.update_cert.specs.Change.{Change, Remove}
use Rattle.update_cert.specs.Cert.{Cert}
use Rattle.pending_list.specs.declared.signed.Signed.{Signed}
use Rattle.pending_list.specs.Reply.{PendingItem, outranks}
use Rattle.principals.specs.declared.table.Row.{Row}
use Rattle.principals.specs.Table.{Listing, Table}
use Rattle.reply_rules.specs.Lists.{Lists}
use Rattle.pending_list.specs.Groups.{groups_below, table_version, raised_groups}
use Rattle.reply_rules.specs.Rules.{unknown_user, structures_numbered, pending_numbered, pending_next, counts_at, all_in_order, own_above, vectors_follow, top_known, top_waiting, shows_earlier, rest_of, rest_known, rest_waiting, rest_others, within, above_show, own_only, own_all, version_within, table_within, of_member, records_once, newest, versions_once, versions_within, versions_complete}

-- ---- what the lists are made of

-- a vector of users 0, 1 and 2
abbrev versions : ℕ → ℕ → ℕ → List Component
versions a b c = record { principal = 0; version = a } ∷ record { principal = 1; version = b } ∷ record { principal = 2; version = c } ∷ []

abbrev plan_of : ℕ → ℕ → List Component → List Entry → Plan
plan_of u n v es = record { user = u; number = n; certificate = []; vector = v; entries = es }

abbrev shown_as : Plan → Signed Structure
shown_as p = record { value = record { plan = p; handle = []; groups = [] }; signature = [] }

-- a certificate without changes
abbrev plain_cert : ℕ → ℕ → Cert
plain_cert u n = record { user = u; number = n; last = []; changes = [] }

abbrev pending_as : Plan → PendingItem
pending_as p = record { cert = plain_cert p.user p.number; signature = []; plan = p }

abbrev listed_since : ℕ → ℕ → Listing
listed_since u n = record { user = u; since = n; key = []; later = [] }

-- an entry of an operation that nobody made
abbrev invented : Entry
invented = record { user = 3; number = 1; plan = [] }

-- ---- the good reply

-- user 0's first plan, user 2's, and user 1's, which is top's
abbrev zero_1 : Plan
zero_1 = plan_of 0 1 (record { principal = 0; version = 1 } ∷ []) []

abbrev two_1 : Plan
two_1 = plan_of 2 1 (record { principal = 0; version = 1 } ∷ record { principal = 2; version = 1 } ∷ []) []

abbrev one_1 : Plan
one_1 = plan_of 1 1 (versions 1 1 1) (entry_of two_1 ∷ [])

-- the plans above: user 0's second, placed before top was committed, and user 1's second, which is the own one
abbrev zero_2 : Plan
zero_2 = plan_of 0 2 (versions 2 1 1) (entry_of one_1 ∷ entry_of two_1 ∷ [])

abbrev one_2 : Plan
one_2 = plan_of 1 2 (versions 2 2 1) (entry_of zero_2 ∷ entry_of two_1 ∷ [])

-- the reply with these plans in the place of top's, of user 0's second and of the own one
abbrev with : Plan → Plan → Plan → Lists
with top other own = record { structures = shown_as zero_1 ∷ shown_as top ∷ []; others = pending_as two_1 ∷ pending_as other ∷ []; own = pending_as own }

abbrev good : Lists
good = with one_1 zero_2 one_2

-- ---- digests: those of one plan are equal, and plans of other users or numbers aren't compared by them

same_digest : (p : Plan) → bytes_eq (digest_of_plan p) (digest_of_plan p) ≡ true
same_digest p = (bytes_eq-Decides (digest_of_plan p) (digest_of_plan p)).1 refl

-- ---- unknown user

abbrev table_with : ℕ → Table
table_with since = record { users = listed_since 0 0 ∷ listed_since 1 1 ∷ listed_since 2 since ∷ []; rows = [] }

known : unknown_user (table_with 1) good ≡ true
unfolding unknown_user
known = refl

-- user 2's plan has user 0's version 1
unknown : unknown_user (table_with 2) good ≡ false
unfolding unknown_user
unknown = refl

-- ---- numbers

structures_number : structures_numbered good ≡ true
structures_number = refl

structures_misnumber : structures_numbered (with (plan_of 1 2 (versions 1 1 1) []) zero_2 one_2) ≡ false
structures_misnumber = refl

pending_number : pending_numbered good ≡ true
pending_number = refl

pending_misnumber : pending_numbered (with one_1 zero_2 (plan_of 1 3 (versions 2 2 1) [])) ≡ false
pending_misnumber = refl

next_numbers : pending_next good ≡ true
next_numbers = refl

skipped_number : pending_next (with one_1 (plan_of 0 3 (versions 3 1 1) []) one_2) ≡ false
skipped_number = refl

-- top counts user 2's pending operation
counted : counts_at good 2 ≡ true
unfolding outranks
counted = refl

uncounted : counts_at (with (plan_of 1 1 (versions 1 1 0) []) zero_2 one_2) 2 ≡ false
unfolding outranks
uncounted = refl

-- ---- vector

ordered : all_in_order good ≡ true
ordered = refl

-- user 2's version falls
unordered : all_in_order (with one_1 (plan_of 0 2 (versions 3 1 0) []) one_2) ≡ false
unordered = refl

above_top : own_above good ≡ true
unfolding outranks
above_top = refl

beside_top : own_above (with one_1 zero_2 (plan_of 1 2 (versions 0 2 1) [])) ≡ false
unfolding outranks
beside_top = refl

following : vectors_follow (table_with 1) good ≡ true
unfolding groups_below outranks
following = refl

-- the own vector has one more for user 1 than top's, but not than user 0's second
not_following : vectors_follow (table_with 1) (with one_1 zero_2 (plan_of 1 2 (versions 1 2 1) [])) ≡ false
unfolding groups_below outranks
not_following = refl

-- ---- entries

top_shows_known : top_known good ≡ true
unfolding outranks
top_shows_known = rw (same_digest two_1) refl

top_shows_invented : top_known (with (plan_of 1 1 (versions 1 1 1) (entry_of two_1 ∷ invented ∷ [])) zero_2 one_2) ≡ false
unfolding outranks
top_shows_invented = rw (same_digest two_1) refl

top_shows_waiting : top_waiting good ≡ true
unfolding outranks
top_shows_waiting = rw (same_digest two_1) refl

top_hides_waiting : top_waiting (with (plan_of 1 1 (versions 1 1 1) []) zero_2 one_2) ≡ false
unfolding outranks
top_hides_waiting = refl

-- the own plan shows user 0's second
earlier_shown : shows_earlier (zero_2 ∷ []) one_2 ≡ true
earlier_shown = rw (same_digest zero_2) refl

earlier_hidden : shows_earlier (zero_2 ∷ []) (plan_of 1 2 (versions 2 2 1) (entry_of two_1 ∷ [])) ≡ false
earlier_hidden = refl

-- the rest of user 0's second is top's own entry, and top's one
rest_is_known : rest_known good [] zero_2 ≡ true
unfolding outranks
rest_is_known = rw (same_digest one_1, same_digest two_1) refl

rest_is_invented : rest_known good [] (plan_of 0 2 (versions 2 1 1) (entry_of one_1 ∷ entry_of two_1 ∷ invented ∷ [])) ≡ false
unfolding outranks
rest_is_invented = rw (same_digest one_1, same_digest two_1) refl

rest_shows_waiting : rest_waiting good [] zero_2 ≡ true
unfolding outranks
rest_shows_waiting = rw (same_digest two_1) refl

rest_hides_waiting : rest_waiting good [] (plan_of 0 2 (versions 2 1 1) (entry_of one_1 ∷ [])) ≡ false
unfolding outranks
rest_hides_waiting = refl

rest_is_of_others : rest_others [] zero_2 ≡ true
rest_is_of_others = refl

rest_has_own_user : rest_others [] (plan_of 0 2 (versions 2 1 1) (entry_of zero_1 ∷ entry_of one_1 ∷ entry_of two_1 ∷ [])) ≡ false
rest_has_own_user = refl

-- the rest of the own plan lies within that of user 0's second
rest_is_within : within (rest_of (zero_2 ∷ []) one_2) (Some (rest_of [] zero_2)) ≡ true
rest_is_within = rw (same_digest zero_2, same_digest two_1) refl

rest_grows : within (rest_of (zero_2 ∷ []) one_2) (Some (rest_of [] (plan_of 0 2 (versions 2 1 1) (entry_of one_1 ∷ [])))) ≡ false
rest_grows = rw (same_digest zero_2) refl

each_above_shows : above_show good ≡ true
unfolding outranks
each_above_shows = rw (same_digest zero_2, same_digest one_1, same_digest two_1) refl

own_shows_only : own_only good ≡ true
own_shows_only = rw (same_digest zero_2, same_digest two_1) refl

own_shows_top : own_only (with one_1 zero_2 (plan_of 1 2 (versions 2 2 1) (entry_of zero_2 ∷ entry_of one_1 ∷ entry_of two_1 ∷ []))) ≡ false
own_shows_top = rw (same_digest zero_2) refl

own_shows_all : own_all good ≡ true
own_shows_all = rw (same_digest zero_2, same_digest two_1) refl

own_hides_one : own_all (with one_1 zero_2 (plan_of 1 2 (versions 2 2 1) (entry_of zero_2 ∷ []))) ≡ false
own_hides_one = refl

-- ---- group records
--
-- Users 1 and 2 are members of group 64 since user 0's first operation. User 1's first operation raised it, and its
-- structure has the record. User 2's first one, placed before it, raised it too, and so does user 1's second.

abbrev member_since : ℕ → ℕ → Row
member_since u n = record { group = 64; user = u; begins = n; until = 0 }

abbrev table_of_members : List Row → Table
table_of_members rows = record { users = listed_since 0 0 ∷ listed_since 1 1 ∷ listed_since 2 1 ∷ []; rows = rows }

abbrev members : Table
members = table_of_members (member_since 1 1 ∷ member_since 2 1 ∷ [])

-- a vector of users 0, 1 and 2 and of group 64
abbrev versions_of : ℕ → ℕ → ℕ → ℕ → List Component
versions_of a b c g =
    record { principal = 0; version = a } ∷ record { principal = 1; version = b } ∷ record { principal = 2; version = c } ∷ record { principal = 64; version = g } ∷ []

abbrev record_of : ℕ → ℕ → GroupRecord
record_of version table = record { group = 64; version = version; table = table; handle = [] }

abbrev shown_with : Plan → List GroupRecord → Signed Structure
shown_with p rs = record { value = record { plan = p; handle = []; groups = rs }; signature = [] }

-- a change of group 64
abbrev of_group : Change Digest
of_group = record { principal = 64; i_number = 64; action = Remove }

abbrev raising_as : Plan → PendingItem
raising_as p = record { cert = record { user = p.user; number = p.number; last = []; changes = of_group ∷ [] }; signature = []; plan = p }

abbrev one_1_raised : Plan
one_1_raised = plan_of 1 1 (versions_of 1 1 1 2) []

-- the pending plans of users 2 and 1 that raise the group, with these versions of it
abbrev two_raising : ℕ → Plan
two_raising g = plan_of 2 2 (versions_of 1 1 2 g) []

abbrev one_raising : ℕ → Plan
one_raising g = plan_of 1 2 (versions_of 1 2 2 g) []

-- the reply with these records of user 1's structure, and these versions of the group in the plan of user 2 and the own one
abbrev grouped : List GroupRecord → ℕ → ℕ → Lists
grouped rs other own = record { structures = shown_as zero_1 ∷ shown_with one_1_raised rs ∷ []; others = raising_as (two_raising other) ∷ []; own = raising_as (one_raising own) }

abbrev good_groups : Lists
good_groups = grouped (record_of 2 1 ∷ []) 3 4

-- user 0's own operation is judged by the table before it
own_table_version : table_version zero_2 ≡ 1
own_table_version = refl

other_table_version : table_version one_2 ≡ 2
other_table_version = refl

members_raise : raised_groups members (raising_as (one_raising 4)) ≡ 64 ∷ []
unfolding groups_below
members_raise = refl

-- user 1 isn't a member yet at user 0's first operation
strangers_raise_none : raised_groups (table_of_members (member_since 1 2 ∷ [])) (raising_as (one_raising 4)) ≡ []
unfolding groups_below
strangers_raise_none = refl

-- nor is it any more
dropped_raise_none : raised_groups (table_of_members (record { group = 64; user = 1; begins = 1; until = 1 } ∷ [])) (raising_as (one_raising 4)) ≡ []
unfolding groups_below
dropped_raise_none = refl

no_change_raises_none : raised_groups members (pending_as (one_raising 4)) ≡ []
unfolding groups_below
no_change_raises_none = refl

version_is_within : version_within one_1_raised (record_of 2 1) ≡ true
version_is_within = refl

version_is_ahead : version_within one_1_raised (record_of 3 1) ≡ false
version_is_ahead = refl

table_is_within : table_within one_1_raised (record_of 2 1) ≡ true
table_is_within = refl

table_is_ahead : table_within one_1_raised (record_of 2 2) ≡ false
table_is_ahead = refl

member_wrote : of_member members one_1_raised (record_of 2 1) ≡ true
member_wrote = refl

stranger_wrote : of_member members one_1_raised (record_of 2 0) ≡ false
stranger_wrote = refl

records_differ : records_once (shown_with two_1 (record_of 1 1 ∷ []) ∷ shown_with one_1_raised (record_of 2 1 ∷ []) ∷ []) ≡ true
records_differ = refl

records_meet : records_once (shown_with two_1 (record_of 2 1 ∷ []) ∷ shown_with one_1_raised (record_of 2 1 ∷ []) ∷ []) ≡ false
records_meet = refl

newest_record : newest 64 good_groups.structures ≡ 2
newest_record = refl

each_version_once : versions_once members good_groups 64 ≡ true
unfolding groups_below
each_version_once = refl

version_twice : versions_once members (grouped (record_of 2 1 ∷ []) 4 4) 64 ≡ false
unfolding groups_below
version_twice = refl

versions_up_to_own : versions_within members good_groups 64 ≡ true
unfolding groups_below
versions_up_to_own = refl

version_beyond_own : versions_within members (grouped (record_of 2 1 ∷ []) 5 4) 64 ≡ false
unfolding groups_below
version_beyond_own = refl

no_version_missing : versions_complete members good_groups 64 ≡ true
unfolding groups_below
no_version_missing = refl

-- without the record version 2 is wanted too
version_missing : versions_complete members (grouped [] 3 4) 64 ≡ false
unfolding groups_below
version_missing = refl
