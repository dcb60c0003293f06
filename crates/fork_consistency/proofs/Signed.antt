-- Accepted views are signed, by the rules on signatures and on records.
use Rattle.std.proofs.Common.{◌≡◌, ◌<◌, ◌≤◌, Bool, true, false, ◌==◌, ◌&&◌, ◌||◌, not, List, [], ◌∷◌, Option, Some, None, IsSomeAnd, refl, subst, inl, inr, if◌then◌else◌}
use Rattle.std.specs.Prelude.{◌⊎◌}
use Rattle.std.specs.List.{list_all}
use Rattle.std.specs.Option.{option_map_or}
use Rattle.std.proofs.lemmas.Bool.{and_parts, eqb-true, le-ltb, lt-ltb}
use Rattle.layout.specs.Types.{Bytes, Group, Key, User, Version}
use Rattle.lms_sign.specs.Signature.{valid}
use Rattle.principals.specs.Table.{Table, is_member, key_at}
use Rattle.version_order.specs.declared.structure.GroupRecord.{GroupRecord}
use Rattle.version_order.specs.Structure.{Structure, structure}
use Rattle.version_order.specs.Vector.{version_of}
use Rattle.update_cert.specs.Cert.{cert}
use Rattle.pending_list.specs.declared.signed.Signed.{Signed}
use Rattle.pending_list.specs.Groups.{groups}
use Rattle.pending_list.specs.Reply.{PendingItem}
use Rattle.client_tree.specs.View.{newest, structure_of}
use Rattle.reply_rules.specs.declared.rule.Rule.{Rule}
use Rattle.reply_rules.specs.declared.rule.Rule.TheVariants as rule
use Rattle.reply_rules.specs.Broken.{broken, later_rules}
use Rattle.reply_rules.specs.Lists.{Lists, items}
use Rattle.reply_rules.specs.Rules.{entries, group_complete, group_records, link, numbers, of_member, record_holds, records_hold, records_once, table_within, unknown_user, vector, version_within}
use Rattle.reply_check.specs.FirstBroken.{verifies}
use Rattle.agreement.specs.Runs.{View}
use Rattle.agreement.proofs.Members.{In, contains_in, in-append, in_contains, to_all}
use Rattle.agreement.proofs.Tests.{all_in, first_holds}
use Rattle.client_runs.specs.Released.{accepted_by, tried_view, views}
use Rattle.client_runs.specs.Runs.{Event, IsRun, Keys, client_of, owner, pinned as pinned_key}
use Rattle.fork_consistency.proofs.Causes.{changes_are_caused}
use Rattle.fork_consistency.proofs.Holds.{IsTriedOver, known_in}
use Rattle.fork_consistency.proofs.Judging.{cert_by_super, cert_verified, structure_by_super, structure_verified, unbroken, unbroken_by}
use Rattle.fork_consistency.proofs.Moves.{holds_at}
use Rattle.client_runs.proofs.Replies.{of_lists}
use Rattle.fork_consistency.proofs.Views.{over_here}
use Rattle.fork_consistency.proofs.AllWhole.{newest_in}
use Rattle.fork_consistency.proofs.Lists.{found_in}
use Rattle.fork_consistency.specs.Signed.{AreSigned, ChangesAreCaused, ChangesHaveCauses, GroupPartsStand, GroupsStandOnSigned, IsSigned, IsSignedBy, IsSignedByItsUser, StandsOnFirstOfGroup, StandsOnFirstOfUser, StandsOnMembers, StandsOnOwn, UserPartsStand, UsersStandOnSigned}

-- what the rules try of a signature
signed_by : (pinned : Key) (t : Table) (u : User) (v : Version) (text signature : Bytes) → verifies t u v text signature ≡ true → (not (u == 0) || valid pinned text signature) ≡ true → IsSignedBy pinned t u v text signature
signed_by pinned t u v text signature by_table by_super = go (u == 0) by_table by_super
  where
    listed : (k : Option Key) → option_map_or (λ k. valid k text signature) k false ≡ true → IsSomeAnd k (λ k. valid k text signature ≡ true)
    listed None e = absurd (cc e)
    listed (Some k) e = e

    go : (b : Bool) → (b || option_map_or (λ k. valid k text signature) (key_at u v t) false) ≡ true → (not b || valid pinned text signature) ≡ true → IsSomeAnd (if b then Some pinned else key_at u v t) (λ k. valid k text signature ≡ true)
    go true e f = f
    go false e f = listed (key_at u v t) e

-- what they try of records
of_members : (t : Table) (x : Lists) → broken t x ≡ None → (z : Signed Structure) (r : GroupRecord) → In z x.structures → In r z.value.groups → is_member t r.group z.value.plan.user r.table ≡ true
unfolding group_records
of_members t x unbroken z r i j =
    let one = first_holds rule.UnknownUser (unknown_user t x) (later_rules t x) unbroken in
    let four : List (Rule × Bool) = (rule.GroupRecord, group_records t x) ∷ [] in
    let three : List (Rule × Bool) = (rule.Link, link x) ∷ four in
    let two : List (Rule × Bool) = (rule.Entries, entries x) ∷ three in
    let a = first_holds rule.Numbers (numbers x) ((rule.Vector, vector t x) ∷ two) one.1 in
    let b = first_holds rule.Vector (vector t x) two a.1 in
    let c = first_holds rule.Entries (entries x) three b.1 in
    let d = first_holds rule.Link (link x) four c.1 in
    let e = first_holds rule.GroupRecord (records_hold t x && (records_once x.structures && list_all (group_complete t x) groups)) [] d.1 in
    let hold = (and_parts (records_hold t x) (records_once x.structures && list_all (group_complete t x) groups) e.0).0 in
    let of_z = all_in (λ (y : Signed Structure). list_all (record_holds t y.value.plan) y.value.groups) x.structures hold z i in
    let of_r = all_in (record_holds t z.value.plan) z.value.groups of_z r j in
    let rest = (and_parts (version_within z.value.plan r) (table_within z.value.plan r && of_member t z.value.plan r) of_r).1 in
    (and_parts (table_within z.value.plan r) (of_member t z.value.plan r) rest).1

-- ---- what parts stand on

module _ (pinned : Key) (x : View)
    (structures_signed : (z : Signed Structure) → In z x.lists.structures → IsSignedByItsUser pinned x.table z) where
  user_stands : (u : User) → u < 64 → (o : Option (Signed Structure)) → structure_of u x.lists.structures ≡ o → StandsOnOwn pinned x u ⊎ StandsOnFirstOfUser pinned x u
  user_stands u low None at = inr (at, rw (lt-ltb u 64 low, at) refl)
  user_stands u low (Some z) at =
      let f = found_in (λ (z : Signed Structure). z.value.plan.user == u) x.lists.structures z at in
      let user = eqb-true z.value.plan.user u f.1 in
      inl (
        z,
        record {
          there = in_contains z x.lists.structures f.0;
          user = user;
          signed = structures_signed z f.0;
        },
        rw (lt-ltb u 64 low, at) refl,
      )

  group_stands : ((z : Signed Structure) (r : GroupRecord) → In z x.lists.structures → In r z.value.groups → is_member x.table r.group z.value.plan.user r.table ≡ true)
      → (g : Group) → 64 ≤ g → (o : Option GroupRecord) → newest g x.lists.structures ≡ o → StandsOnMembers pinned x g ⊎ StandsOnFirstOfGroup pinned x g
  group_stands members g high None at = inr (at, rw (le-ltb g 64 high, at) refl)
  group_stands members g high (Some r) at =
      let (z, i, j, group) = newest_in g x.lists.structures r at in
      inl (
        r,
        record {
          newest = at;
          group = group;
          within = z;
          there = in_contains z x.lists.structures i;
          listed = in_contains r z.value.groups j;
          signed = structures_signed z i;
          member = subst (λ (h : Group). is_member x.table h z.value.plan.user r.table ≡ true) group (members z r i j);
        },
        rw (le-ltb g 64 high, at) refl,
      )

-- a view with all that it stands on
record IsSignedView (pinned : Key) (x : View) : Type 0 where
  signed : IsSigned pinned x
  users : UserPartsStand pinned x
  groups : GroupPartsStand pinned x
  causes : ChangesAreCaused pinned x

module _ (keys : Keys) where
  view_is : (older : List Event) (is : IsRun keys older) (u : User) (x : View) → IsTriedOver (owner keys u) (holds_at keys u older is).story older x → IsSignedView (pinned_key keys) x
  view_is older is u x over =
      let r = of_lists x.lists in
      let rules = unbroken (known_in (owner keys u) (holds_at keys u older is).story) r over.good.judged.unbroken in
      let by = unbroken_by x.table x.lists over.good.by_table in
      let structures_signed = λ (z : Signed Structure) (i : In z x.lists.structures).
      signed_by (pinned_key keys) x.table z.value.plan.user (version_of 0 z.value.plan.vector) (structure.spell z.value) z.signature (structure_verified x.table x.lists by.structures z i) (structure_by_super (pinned_key keys) r rules.by_super z i) in
      let certificates_signed = λ (k : PendingItem) (i : In k (items x.lists)).
      signed_by (pinned_key keys) x.table k.cert.user (version_of 0 k.plan.vector) (cert.spell k.cert) k.signature (cert_verified x.table x.lists by.certs k i) (cert_by_super (pinned_key keys) r rules.by_super k i) in
      record {
        signed = record {
          structures = λ z has. structures_signed z (contains_in z x.lists.structures has);
          certificates = λ k has. certificates_signed k (contains_in k (items x.lists) has);
          records = λ z g has_z has_g. of_members x.table x.lists by.rules z g (contains_in z x.lists.structures has_z) (contains_in g z.value.groups has_g);
        };
        users = λ u low. user_stands (pinned_key keys) x structures_signed u low (structure_of u x.lists.structures) refl;
        groups = λ g high. group_stands (pinned_key keys) x structures_signed (of_members x.table x.lists by.rules) g high (newest g x.lists.structures) refl;
        causes = changes_are_caused (pinned_key keys) x certificates_signed;
      }

  each_signed : (run : List Event) → IsRun keys run → (x : View) → In x (views run) → IsSignedView (pinned_key keys) x
  each_signed [] is x i = absurd i
  each_signed (e ∷ older) is x i =
      elim (in-append x (accepted_by e.call (client_of e.user older) e.after (tried_view e.user older)) (views older) i) [
        | inl here ↦ view_is older is.2 e.user x (over_here keys e older is x here)
        | inr there ↦ each_signed older is.2 x there
      ]

  pub are_signed : (run : List Event) → IsRun keys run → AreSigned keys run
  are_signed run is = to_all (IsSigned (pinned_key keys)) (views run) (λ x i. (each_signed run is x i).signed)

  pub users_stand : (run : List Event) → IsRun keys run → UsersStandOnSigned keys run
  users_stand run is = to_all (UserPartsStand (pinned_key keys)) (views run) (λ x i. (each_signed run is x i).users)

  pub groups_stand : (run : List Event) → IsRun keys run → GroupsStandOnSigned keys run
  groups_stand run is = to_all (GroupPartsStand (pinned_key keys)) (views run) (λ x i. (each_signed run is x i).groups)

  pub changes_have_causes : (run : List Event) → IsRun keys run → ChangesHaveCauses keys run
  changes_have_causes run is = to_all (ChangesAreCaused (pinned_key keys)) (views run) (λ x i. (each_signed run is x i).causes)
