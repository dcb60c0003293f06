-- The rules that speak of the lists of a reply and of the table of principals alone. Each part of a rule is a test of
-- its own.
--
-- An item is a structure or a pending operation, and has a plan. Top is the structure of greatest depth, of equal ones
-- the least user's; without structures its vector and entries are empty and its depth is 0. Above is what has a greater
-- depth than top. The rules stand in docs/RULES.md.
use Rattle.std.specs.Prelude.{ℕ, zero, suc, ◌+◌, List, [], ◌∷◌, ◌++◌, Option, Some, None, Bool, true, false, ◌&&◌, ◌||◌, not, map, filter, if◌then◌else◌, ◌==◌, nat_lt, nat_le}
use Rattle.std.specs.List.{list_all, list_any}
use Rattle.std.specs.Option.{option_map_or}
use Rattle.std.specs.Str.{bytes_eq}
use Rattle.layout.specs.Types.{Digest, Group, User, Version}
use Rattle.version_order.specs.declared.vector.Component.{Component}
use Rattle.version_order.specs.declared.plan.Entry.{Entry}
use Rattle.version_order.specs.Vector.{version_of, raised_all, is_below}
use Rattle.version_order.specs.Vector as vector_spec
use Rattle.version_order.specs.declared.structure.GroupRecord.{GroupRecord}
use Rattle.version_order.specs.Plan.{Plan, entry_of}
use Rattle.version_order.specs.Structure.{Structure}
use Rattle.update_cert.specs.Cert as cert_spec
use Rattle.pending_list.specs.declared.signed.Signed.{Signed}
use Rattle.pending_list.specs.Reply.{PendingItem, Reply}
use Rattle.pending_list.specs.Reply as lists_spec
use Rattle.principals.specs.Table.{Table, is_listed, is_member}
use Rattle.reply_rules.specs.Lists.{Lists, items, shown, pending, structure_of, number_of}
use Rattle.pending_list.specs.Groups.{groups, raised_groups, raises}

-- ---- top and above

-- the plan of top
abbrev pub top_plan : Lists → Option Plan
top_plan x = lists_spec.top_plan x.structures

abbrev pub top_vector : Lists → List Component
top_vector x = lists_spec.top_vector x.structures

abbrev pub top_entries : Lists → List Entry
top_entries x = option_map_or (λ p. p.entries) (top_plan x) []

abbrev pub depth : Plan → ℕ
depth p = vector_spec.depth p.vector

-- the plan is of greater depth than top
abbrev pub is_above : Lists → Plan → Bool
is_above x p = lists_spec.is_above x.structures p

-- the plans above, in order
abbrev pub above : Lists → List Plan
above x = filter (is_above x) (pending x)

-- the pending plans that aren't above, in order
abbrev pub waiting : Lists → List Plan
waiting x = filter (λ p. not (is_above x p)) (pending x)

-- the same items, with their certificates
abbrev pub items_above : Lists → List PendingItem
items_above x = filter (λ i. is_above x i.plan) (items x)

abbrev pub items_waiting : Lists → List PendingItem
items_waiting x = filter (λ i. not (is_above x i.plan)) (items x)

-- ---- lists: both lists are in their order, and no user is pending twice

-- each number is above the one before
abbrev pub ascends_after : Option ℕ → List ℕ → Bool
ascends_after before [] = true
ascends_after None (n ∷ ns) = ascends_after (Some n) ns
ascends_after (Some m) (n ∷ ns) = nat_lt m n && ascends_after (Some n) ns

abbrev pub ascends : List ℕ → Bool
ascends ns = ascends_after None ns

-- no number stands in the list twice
abbrev pub each_once : List ℕ → Bool
each_once [] = true
each_once (n ∷ ns) = list_all (λ m. not (n == m)) ns && each_once ns

abbrev pub structures_ascend : Reply → Bool
structures_ascend r = ascends (map (λ z. z.value.plan.user) r.structures)

abbrev pub pending_ascends : Reply → Bool
pending_ascends r = ascends (map (λ i. depth i.plan) r.pending)

abbrev pub pending_once : Reply → Bool
pending_once r = each_once (map (λ i. i.plan.user) r.pending)

-- the plan has its certificate's user and number
abbrev pub is_planned : PendingItem → Bool
is_planned i = (i.plan.user == i.cert.user) && (i.plan.number == i.cert.number)

unfoldable pub lists : Reply → Bool
lists r = structures_ascend r && (pending_ascends r && (pending_once r && list_all is_planned r.pending))

-- ---- unknown user: each item's user is listed since its plan's version of user 0 or before

abbrev pub is_known : Table → Plan → Bool
is_known t p = is_listed t p.user (version_of 0 p.vector)

unfoldable pub unknown_user : Table → Lists → Bool
unknown_user t x = list_all (is_known t) (shown x) && list_all (is_known t) (pending x)

-- ---- numbers

-- the number is the plan's own version of its user
abbrev pub is_numbered : Plan → Bool
is_numbered p = version_of p.user p.vector == p.number

abbrev pub structures_numbered : Lists → Bool
structures_numbered x = list_all is_numbered (shown x)

abbrev pub pending_numbered : Lists → Bool
pending_numbered x = list_all is_numbered (pending x)

-- the number is one more than that of the user's structure
abbrev pub is_next : Lists → Plan → Bool
is_next x p = p.number == number_of p.user x + 1

abbrev pub pending_next : Lists → Bool
pending_next x = list_all (is_next x) (pending x)

-- a pending plan of the user isn't above
abbrev pub waits : Lists → User → Bool
waits x u = list_any (λ p. p.user == u) (waiting x)

-- how many operations of the user top has seen: that of its structure, and one that is pending and not above
abbrev pub count_seen : User → Lists → ℕ
count_seen u x = number_of u x + (if waits x u then 1 else 0)

abbrev pub counts_at : Lists → User → Bool
counts_at x u = version_of u (top_vector x) == count_seen u x

-- the test holds of each number below n
unfoldable pub every_below : ℕ → (ℕ → Bool) → Bool
every_below zero t = true
every_below (suc n) t = every_below n t && t n

abbrev pub top_counts : Lists → Bool
top_counts x = every_below 64 (counts_at x)

unfoldable pub numbers : Lists → Bool
numbers x = structures_numbered x && (pending_numbered x && (pending_next x && top_counts x))

-- ---- vector

-- the depths differ, and no component falls from the lesser to the greater
abbrev pub in_order : Plan → Plan → Bool
in_order p q =
    (nat_lt (depth p) (depth q) && is_below p.vector q.vector)
    || (nat_lt (depth q) (depth p) && is_below q.vector p.vector)

-- the test holds of any two
abbrev pub any_two : (Plan → Plan → Bool) → List Plan → Bool
any_two t [] = true
any_two t (p ∷ ps) = list_all (t p) ps && any_two t ps

abbrev pub all_in_order : Lists → Bool
all_in_order x = any_two in_order (shown x ++ pending x)

abbrev pub own_above : Lists → Bool
own_above x = is_above x x.own.plan

abbrev pub same_version : Component → Component → Bool
same_version a b = (a.principal == b.principal) && (a.version == b.version)

abbrev pub same_vector : List Component → List Component → Bool
same_vector [] [] = true
same_vector [] (b ∷ bs) = false
same_vector (a ∷ as') [] = false
same_vector (a ∷ as') (b ∷ bs) = same_version a b && same_vector as' bs

-- the vector of an operation that follows one of this vector
abbrev pub next_vector : Table → PendingItem → List Component → List Component
next_vector t i v = raised_all (raised_groups t i) (vector_spec.raised i.plan.user v)

-- each has the vector that follows from the one before it
abbrev pub each_has_next_vector : Table → List Component → List PendingItem → Bool
each_has_next_vector t v [] = true
each_has_next_vector t v (i ∷ is) =
    same_vector i.plan.vector (next_vector t i v) && each_has_next_vector t i.plan.vector is

abbrev pub vectors_follow : Table → Lists → Bool
vectors_follow t x = each_has_next_vector t (top_vector x) (items_above x)

unfoldable pub vector : Table → Lists → Bool
vector t x = all_in_order x && (own_above x && vectors_follow t x)

-- ---- entries

abbrev pub same_entry : Entry → Entry → Bool
same_entry a b = (a.user == b.user) && ((a.number == b.number) && bytes_eq a.plan b.plan)

-- the entry is one of these
abbrev pub lists_entry : List Entry → Entry → Bool
lists_entry es e = list_any (same_entry e) es

-- the entries that later plans have of these
abbrev pub entries_of : List Plan → List Entry
entries_of ps = map entry_of ps

-- each entry of top is of its user's structure or pending plan
abbrev pub top_known : Lists → Bool
top_known x =
    list_all (λ e. lists_entry (entries_of (shown x)) e || lists_entry (entries_of (pending x)) e) (top_entries x)

-- each pending plan that isn't above is an entry of top
abbrev pub top_waiting : Lists → Bool
top_waiting x = list_all (lists_entry (top_entries x)) (entries_of (waiting x))

-- what is left of these entries without the known ones
abbrev pub left_of : List Entry → List Entry → List Entry
left_of known es = filter (λ e. not (lists_entry known e)) es

-- the rest of a plan's entries: those that aren't of the plans above before it
abbrev pub rest_of : List Plan → Plan → List Entry
rest_of before p = left_of (entries_of before) p.entries

-- it has an entry of each plan above before it
abbrev pub shows_earlier : List Plan → Plan → Bool
shows_earlier before p = list_all (lists_entry p.entries) (entries_of before)

-- the entry of top itself
abbrev pub own_entry_of_top : Lists → List Entry
own_entry_of_top x = option_map_or (λ p. entry_of p ∷ []) (top_plan x) []

-- the rest is of top's entries and top's own
abbrev pub rest_known : Lists → List Plan → Plan → Bool
rest_known x before p =
    list_all (λ e. lists_entry (top_entries x) e || lists_entry (own_entry_of_top x) e) (rest_of before p)

-- the rest has each pending plan that isn't above
abbrev pub rest_waiting : Lists → List Plan → Plan → Bool
rest_waiting x before p = list_all (lists_entry (rest_of before p)) (entries_of (waiting x))

-- the rest has none of the plan's own user
abbrev pub rest_others : List Plan → Plan → Bool
rest_others before p = list_all (λ e. not (e.user == p.user)) (rest_of before p)

-- the rest lies within that of the plan above before it, where there is one
abbrev pub within : List Entry → Option (List Entry) → Bool
within es None = true
within es (Some fs) = list_all (lists_entry fs) es

abbrev pub shows : Lists → List Plan → Option (List Entry) → Plan → Bool
shows x before rest p =
    shows_earlier before p
    && (rest_known x before p && (rest_waiting x before p && (rest_others before p && within (rest_of before p) rest)))

-- each plan above, with those before it and the rest of the last one of them, shows what it has to
abbrev pub all_show : Lists → List Plan → Option (List Entry) → List Plan → Bool
all_show x before rest [] = true
all_show x before rest (p ∷ ps) = shows x before rest p && all_show x (before ++ p ∷ []) (Some (rest_of before p)) ps

abbrev pub above_show : Lists → Bool
above_show x = all_show x [] None (above x)

-- the own plan's entries are those of the other pending items, and all of them
abbrev pub other_entries : Lists → List Entry
other_entries x = entries_of (map (λ i. i.plan) x.others)

abbrev pub own_only : Lists → Bool
own_only x = list_all (lists_entry (other_entries x)) x.own.plan.entries

abbrev pub own_all : Lists → Bool
own_all x = list_all (lists_entry x.own.plan.entries) (other_entries x)

unfoldable pub entries : Lists → Bool
entries x = top_known x && (top_waiting x && (above_show x && (own_only x && own_all x)))

-- ---- link

-- a plan names its certificate
abbrev pub names_certificate : PendingItem → Bool
names_certificate i = bytes_eq i.plan.certificate (cert_spec.digest_of i.cert)

-- the digest of a user's structure, zeros where there is none
abbrev pub last_digest : User → Lists → Digest
last_digest u x = lists_spec.digest_of_last (structure_of u x)

-- a certificate names its user's structure
abbrev pub names_last : Lists → PendingItem → Bool
names_last x i = bytes_eq i.cert.last (last_digest i.cert.user x)

unfoldable pub link : Lists → Bool
link x = list_all (λ i. names_certificate i && names_last x i) (items x)

-- ---- group records

-- a record's version is at most its structure's version of the group
abbrev pub version_within : Plan → GroupRecord → Bool
version_within p r = nat_le r.version (version_of r.group p.vector)

-- its table version is at most its structure's version of user 0
abbrev pub table_within : Plan → GroupRecord → Bool
table_within p r = nat_le r.table (version_of 0 p.vector)

-- its structure's user is a member of the group at that table version
abbrev pub of_member : Table → Plan → GroupRecord → Bool
of_member t p r = is_member t r.group p.user r.table

abbrev pub record_holds : Table → Plan → GroupRecord → Bool
record_holds t p r = version_within p r && (table_within p r && of_member t p r)

abbrev pub records_hold : Table → Lists → Bool
records_hold t x = list_all (λ z. list_all (record_holds t z.value.plan) z.value.groups) x.structures

-- no record of the one structure is of a group and a version of the other's
abbrev pub differ : Signed Structure → Signed Structure → Bool
differ y z =
    list_all (λ r. list_all (λ s. not ((r.group == s.group) && (r.version == s.version))) z.value.groups) y.value.groups

-- no two structures have records of one group with one version
abbrev pub records_once : List (Signed Structure) → Bool
records_once [] = true
records_once (z ∷ zs) = list_all (differ z) zs && records_once zs

-- the greater number
abbrev pub greater : ℕ → ℕ → ℕ
greater m n = if nat_lt m n then n else m

abbrev pub newest_in : Group → List GroupRecord → Version
newest_in g [] = 0
newest_in g (r ∷ rs) = if r.group == g then greater r.version (newest_in g rs) else newest_in g rs

-- the greatest version of a group in a record, 0 without one
abbrev pub newest : Group → List (Signed Structure) → Version
newest g [] = 0
newest g (z ∷ zs) = greater (newest_in g z.value.groups) (newest g zs)

-- the versions of a group beyond this one, of those of these pending items that raise it
abbrev pub versions_beyond : Table → Group → Version → List PendingItem → List Version
versions_beyond t g r is =
    map (λ i. version_of g i.plan.vector) (filter (λ i. raises t g i && nat_lt r (version_of g i.plan.vector)) is)

-- the versions of a group beyond its newest record, of the pending items that raise it
abbrev pub new_versions : Table → Lists → Group → List Version
new_versions t x g = versions_beyond t g (newest g x.structures) (items x)

-- the own plan's version of a group
abbrev pub own_version : Lists → Group → Version
own_version x g = version_of g x.own.plan.vector

-- each number from m on to n is one of these
abbrev pub has_all : ℕ → ℕ → List ℕ → Bool
has_all m zero ns = true
has_all m (suc n) ns = nat_lt (suc n) m || (list_any (λ k. k == suc n) ns && has_all m n ns)

-- no new version comes twice
abbrev pub versions_once : Table → Lists → Group → Bool
versions_once t x g = each_once (new_versions t x g)

-- none is greater than the own plan's
abbrev pub versions_within : Table → Lists → Group → Bool
versions_within t x g = list_all (λ v. nat_le v (own_version x g)) (new_versions t x g)

-- and none up to the own plan's is missing
abbrev pub versions_complete : Table → Lists → Group → Bool
versions_complete t x g = has_all (newest g x.structures + 1) (own_version x g) (new_versions t x g)

abbrev pub group_complete : Table → Lists → Group → Bool
group_complete t x g = versions_once t x g && (versions_within t x g && versions_complete t x g)

unfoldable pub group_records : Table → Lists → Bool
group_records t x = records_hold t x && (records_once x.structures && list_all (group_complete t x) groups)
