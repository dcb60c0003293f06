-- What holds of each accepted view by its rules alone, whoever has whose keys.
use Rattle.std.specs.Prelude.{◌≡◌, ◌⊎◌, ◌<◌, ◌≤◌, ◌==◌, true, List, Option, Some, None, IsSomeAnd, if◌then◌else◌}
use Rattle.std.specs.List.{All, Contains}
use Rattle.layout.specs.Types.{Bytes, Digest, Group, INumber, Key, Principal, User, Version}
use Rattle.lms_sign.specs.Signature.{valid}
use Rattle.principals.specs.Table.{Table, is_member, key_at}
use Rattle.version_order.specs.declared.structure.GroupRecord.{GroupRecord}
use Rattle.version_order.specs.Structure.{Structure, structure}
use Rattle.version_order.specs.Vector.{version_of}
use Rattle.update_cert.specs.Cert.{cert}
use Rattle.update_cert.specs.Change.{Change}
use Rattle.update_cert.specs.Reading.{Reading}
use Rattle.update_cert.specs.World.{permitted}
use Rattle.pending_list.specs.Reply.{PendingItem}
use Rattle.pending_list.specs.declared.signed.Signed.{Signed}
use Rattle.reply_rules.specs.Lists.{items}
use Rattle.client_tree.specs.Genesis.{first_handle}
use Rattle.client_tree.specs.View.{actor_of, handle_of, named, newest, structure_of, tree}
use Rattle.agreement.specs.Runs.{View}
use Rattle.agreement.specs.Worlds.{view_in}
use Rattle.client_runs.specs.Released.{views}
use Rattle.client_runs.specs.Runs.{Event, IsRun, Keys, pinned}

-- the key of a user at a number of user 0's: of user 0 the one that every client knows, of another the one that the
-- table lists
abbrev pub key_by : Key → Table → User → Version → Option Key
key_by pinned t u version = if u == 0 then Some pinned else key_at u version t

-- the text is signed under the user's key at this number of user 0's
abbrev pub IsSignedBy : Key → Table → User → Version → Bytes → Bytes → Type 0
IsSignedBy pinned t u version text signature =
    IsSomeAnd (key_by pinned t u version) (λ k. valid k text signature ≡ true)

-- the structure is signed under its user's key at its plan's version of user 0
abbrev pub IsSignedByItsUser : Key → Table → Signed Structure → Type 0
IsSignedByItsUser pinned t z =
    IsSignedBy pinned t z.value.plan.user (version_of 0 z.value.plan.vector) (structure.spell z.value) z.signature

-- and so is the certificate of a pending operation
abbrev pub IsCertSignedByItsUser : Key → Table → PendingItem → Type 0
IsCertSignedByItsUser pinned t i =
    IsSignedBy pinned t i.cert.user (version_of 0 i.plan.vector) (cert.spell i.cert) i.signature

-- ---- on which handles parts stand

-- The structure of the view is this user's, and signed under the user's key.
pub record IsUsersStructure (pinned : Key) (x : View) (u : User) (z : Signed Structure) : Type 0 where
  pub there : Contains x.lists.structures z
  pub user : z.value.plan.user ≡ u
  pub signed : IsSignedByItsUser pinned x.table z

-- the user's part stands on the handle of such a structure
abbrev pub StandsOnOwn : Key → View → User → Type 0
StandsOnOwn pinned x u =
    (z : Signed Structure) × IsUsersStructure pinned x u z × (handle_of (view_in pinned x) u ≡ z.value.handle)

-- the view has no structure of the user, whose part stands on the handle of the beginning
abbrev pub StandsOnFirstOfUser : Key → View → User → Type 0
StandsOnFirstOfUser pinned x u =
    (structure_of u x.lists.structures ≡ None) × (handle_of (view_in pinned x) u ≡ first_handle u pinned)

-- so each user's part stands on what was signed under the user's key, or on the beginning
abbrev pub UserPartsStand : Key → View → Type 0
UserPartsStand pinned x = (u : User) → u < 64 → StandsOnOwn pinned x u ⊎ StandsOnFirstOfUser pinned x u

-- The record is the group's newest in the view. It stands in a structure that is signed under the key of its user, who
-- was a member at the record's table version.
pub record IsMembersRecord (pinned : Key) (x : View) (g : Group) (r : GroupRecord) : Type 0 where
  pub newest : newest g x.lists.structures ≡ Some r
  pub group : r.group ≡ g
  pub within : Signed Structure
  pub there : Contains x.lists.structures within
  pub listed : Contains within.value.groups r
  pub signed : IsSignedByItsUser pinned x.table within
  pub member : is_member x.table g within.value.plan.user r.table ≡ true

-- the group's part stands on the handle of such a record
abbrev pub StandsOnMembers : Key → View → Group → Type 0
StandsOnMembers pinned x g =
    (r : GroupRecord) × IsMembersRecord pinned x g r × (handle_of (view_in pinned x) g ≡ r.handle)

-- the view has no record of the group, whose part stands on the handle of the beginning
abbrev pub StandsOnFirstOfGroup : Key → View → Group → Type 0
StandsOnFirstOfGroup pinned x g =
    (newest g x.lists.structures ≡ None) × (handle_of (view_in pinned x) g ≡ first_handle g pinned)

-- so each group's part stands on what was signed under the key of a user who was a member at the record's table
-- version, or on the beginning
abbrev pub GroupPartsStand : Key → View → Type 0
GroupPartsStand pinned x = (g : Group) → 64 ≤ g → StandsOnMembers pinned x g ⊎ StandsOnFirstOfGroup pinned x g

-- ---- what pending changes rest on

-- A pending change of this place stands in a certificate that is signed under its user's key, and this user may change
-- that part, where membership is judged at the operation's table version.
pub record HasCause (pinned : Key) (x : View) (p : Principal) (i : INumber) : Type 0 where
  pub pending : PendingItem
  pub there : Contains (items x.lists) pending
  pub signed : IsCertSignedByItsUser pinned x.table pending
  pub change : Change Digest
  pub listed : Contains pending.cert.changes change
  pub principal : change.principal ≡ p
  pub place : change.i_number ≡ i
  pub may : permitted (actor_of x.table pending) change ≡ true

-- At each place of the view's tree stands what the handles name there, or it has such a cause: by whatever reading, and
-- whatever table of principals user 0's handle names.
abbrev pub ChangesAreCaused : Key → View → Type 0
ChangesAreCaused pinned x =
    (reads : Reading) (users : Table) (p : Principal) (i : INumber)
    → (tree reads users (view_in pinned x) p i ≡ named reads users (view_in pinned x) p i) ⊎ HasCause pinned x p i

-- ---- accepted views

pub record IsSigned (pinned : Key) (x : View) : Type 0 where
  -- each structure is signed under its user's key,
  pub structures : (z : Signed Structure) → Contains x.lists.structures z → IsSignedByItsUser pinned x.table z
  -- and so is the certificate of each pending operation;
  pub certificates : (i : PendingItem) → Contains (items x.lists) i → IsCertSignedByItsUser pinned x.table i
  -- the record of a group is of a user who was a member at its table version.
  pub records : (z : Signed Structure) (r : GroupRecord) → Contains x.lists.structures z → Contains z.value.groups r
      → is_member x.table r.group z.value.plan.user r.table ≡ true

-- so it is with each accepted view of a run: with its structures, certificates and records,
abbrev pub AreSigned : Keys → List Event → Type 0
AreSigned keys run = All (IsSigned (pinned keys)) (views run)

-- with the handles on which the parts of users stand, and those of groups,
abbrev pub UsersStandOnSigned : Keys → List Event → Type 0
UsersStandOnSigned keys run = All (UserPartsStand (pinned keys)) (views run)

abbrev pub GroupsStandOnSigned : Keys → List Event → Type 0
GroupsStandOnSigned keys run = All (GroupPartsStand (pinned keys)) (views run)

-- and with what its tree has beside what these handles name
abbrev pub ChangesHaveCauses : Keys → List Event → Type 0
ChangesHaveCauses keys run = All (ChangesAreCaused (pinned keys)) (views run)

-- over each run, without any premise
abbrev pub EachRunAtAll : (Keys → List Event → Type 0) → Type 0
EachRunAtAll holds = (keys : Keys) (run : List Event) → IsRun keys run → holds keys run
