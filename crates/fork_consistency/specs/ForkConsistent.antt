-- Fork consistency: whatever the server answered, each accepted view of the run is the world of its line of operations,
-- a user's line only grows, and views that have a structure in common agree up to it.
use Rattle.std.specs.Prelude.{◌≡◌, Bool, false, List, ◌∷◌, ◌++◌, reverse}
use Rattle.std.specs.List.{All, Contains}
use Rattle.layout.specs.Types.{User}
use Rattle.agreement.specs.Lines.{Agree, AgreeByPlans, AreNumbered, EndWithOwn, IsBeginning, line}
use Rattle.agreement.specs.Runs.{AreAccepted, View, user_of}
use Rattle.client_runs.specs.declared.world.Answer.{Answer}
use Rattle.client_runs.specs.declared.world.WorldStep.{WorldStep}
use Rattle.fork_consistency.specs.Premises.{AreReleased, Premises}
use Rattle.client_runs.specs.Carried.{Keep, script_keys}
use Rattle.client_runs.specs.Released.{views}
use Rattle.client_runs.specs.Runs.{Event, IsRun, Keys}
use Rattle.client_runs.specs.UsedOnce.{CertificatesOnce, LeavesOnce, StructuresOnce}
use Rattle.fork_consistency.specs.ByCertificates.{AreByCertificates, ListOwnKeysOf}
use Rattle.fork_consistency.specs.LaidFiles.{NameLaidFiles}
use Rattle.fork_consistency.specs.OwnParts.{IsOutside, OnePart, OwnPartsStand, StolenPremises}
use Rattle.fork_consistency.specs.SameEvents.{AreTold}
use Rattle.fork_consistency.specs.Shown.{ShowTrees, ShowWorlds}
use Rattle.fork_consistency.specs.Signed.{AreSigned, ChangesHaveCauses, GroupsStandOnSigned, UsersStandOnSigned}
use Rattle.fork_consistency.specs.Worlds.{AreWorldsIn, CanBeRead, ListUsers, OneWorld}

-- the line of a view is a beginning of that of each view that its user accepts later
abbrev pub OnlyGrow : List View → Type 0
OnlyGrow accepted =
    (later older : List View) (x y : View) → accepted ≡ later ++ y ∷ older → Contains older x → user_of x ≡ user_of y
    → IsBeginning (line accepted x) (line accepted y)

-- the line of a view stays as it was when the view was accepted
abbrev pub LinesStay : List Event → Type 0
LinesStay run =
    (later older : List Event) → run ≡ later ++ older
    → All (λ x. line (views run) x ≡ line (views older) x) (views older)

-- Each accepted view of a run of clients with these keys is the plain file tree of its line of operations.
pub record HaveLines (keys : Keys) (run : List Event) : Type 0 where
  -- What a client is told of its view, by looks and by what it tells itself, is so in the world of the view's line, as
  -- each reading of the run's texts tells it.
  pub shown : ShowWorlds keys run
  -- The texts can be read, and leave no choice of the world of a line.
  pub readings : CanBeRead keys run
  pub one_world : OneWorld keys run
  -- What an operation makes or puts is, by each reading, the file that its user's client was handed for it, or, of what
  -- is made, the empty directory.
  pub laid : NameLaidFiles keys run
  -- In a line each user's numbers are 1, 2, 3 and so on. It ends with the own operation. Each operation was released by
  -- its user, who is listed before it.
  pub numbered : AreNumbered (views run)
  pub ended : EndWithOwn (views run)
  pub released : AreReleased run
  pub listed : ListUsers keys run
  -- A user's line only grows, and the line of a view stays as it is.
  pub growing : OnlyGrow (views run)
  pub staying : LinesStay run
  -- Views that have a plan in common, committed or pending, have one line up to its operation; and so have those with a
  -- structure in common.
  pub planned : AgreeByPlans (views run)
  pub agreed : Agree (views run)

-- What holds of the accepted views of a run: that they have lines, and beside that what judges them.
pub record AreForkConsistent (keys : Keys) (run : List Event) : Type 0 where
  pub lines : HaveLines keys run
  -- Each view is of a reply that breaks no rule: each structure in it was signed over an earlier view, the own one is
  -- the last, and versions, entries and records are as they should be;
  pub accepted : AreAccepted (views run)
  -- and structures and certificates are signed under the keys that the view's table lists. So are the handles on which
  -- parts stand, and what the tree has beside what these name.
  pub signed : AreSigned keys run
  pub users : UsersStandOnSigned keys run
  pub groups : GroupsStandOnSigned keys run
  pub causes : ChangesHaveCauses keys run
  -- As each reading of the run's texts tells it, all that is read of a view, its table and what it loses are those of
  -- the world of the line. That an operation changes only the user's part, and those of groups of which the user is a
  -- member then, is so of each world, by what changes do; that a client judges by it is said of trees, losses and
  -- members.
  pub worlds : AreWorldsIn keys run
  -- The table of principals is that of the beginning, changed by user 0's certificates 1, 2, 3 and so on, up to some
  -- number.
  pub tables : AreByCertificates keys run

-- ---- where keys are stolen

-- What holds of the accepted views where the server has the keys of the users of a set.
pub record StandWhereStolen (stolen : User → Bool) (keys : Keys) (run : List Event) : Type 0 where
  -- The table of principals is still by user 0's certificates, and lists each user outside the set with its own keys;
  pub tables : AreByCertificates keys run
  pub keys_are : ListOwnKeysOf (IsOutside stolen) keys run
  -- the part of such a user is by the user's own certificates, up to some number, as each reading of the run's texts
  -- tells it; they can be read, and leave no choice of what these certificates make of it;
  pub parts : OwnPartsStand stolen keys run
  pub readings : CanBeRead keys run
  pub one_part : OnePart keys run
  -- each answer of a look is so in the tree of the view, and what a client tells of its view is that of the view;
  pub shown : ShowTrees keys run
  -- and what a view stands on is signed under the keys that its table lists:
  pub signed : AreSigned keys run
  -- each user's part stands on a handle in a structure signed under the user's key, or on that of the beginning;
  pub users : UsersStandOnSigned keys run
  -- each group's part stands on the handle of its newest record, in a structure signed under the key of a user who was
  -- a member at the record's table version, or on that of the beginning;
  pub groups : GroupsStandOnSigned keys run
  -- and where the tree differs from what these handles name, a pending certificate is the cause, signed under the key
  -- of a user who may make the change.
  pub causes : ChangesHaveCauses keys run

-- ---- at each moment

-- what holds of the run as it was at each moment
abbrev pub AtEachMoment : (List Event → Type 0) → List Event → Type 0
AtEachMoment holds run = (later older : List Event) → run ≡ later ++ older → holds older

-- no user is in the set
abbrev pub HasNoUser : (User → Bool) → Type 0
HasNoUser stolen = (u : User) → stolen u ≡ false

-- ---- steps that are carried out

-- The steps with their answers are a run of clients, in which each refusal names the first broken rule, and leave no
-- choice of its calls and of what these release; that is used once; under the premises the accepted views are fork
-- consistent, as they were at each moment, by what was released then; and so is what holds where keys are stolen. That
-- user 0's key has the form of a key, and that no two keys of a user have one identifier, is no premise: of the keys of
-- scripts it is proved.
-- `consistent` and `where_stolen` follow from the fields of each moment, of which the last is the whole run.
pub record IsForkConsistent {A : Type 0} (steps : List (WorldStep A)) (answers : List (Answer A)) : Type 0 where
  pub events : List Event
  pub is_run : IsRun script_keys events
  pub kept : Keep (reverse steps) (reverse answers) events
  pub told : AreTold script_keys (reverse steps) (reverse answers) events
  pub leaves : (u : User) → LeavesOnce script_keys u events
  pub certificates : (u : User) → CertificatesOnce script_keys u events
  pub structures : (u : User) → StructuresOnce script_keys u events
  pub consistent : Premises script_keys events → AreForkConsistent script_keys events
  pub consistent_at_each_moment : Premises script_keys events → AtEachMoment (AreForkConsistent script_keys) events
  pub where_stolen : (stolen : User → Bool) → StolenPremises stolen script_keys events
      → StandWhereStolen stolen script_keys events
  pub where_stolen_at_each_moment : (stolen : User → Bool) → StolenPremises stolen script_keys events
      → AtEachMoment (StandWhereStolen stolen script_keys) events
