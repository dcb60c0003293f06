-- Runs of accepted views, of all users, the latest first, and what makes an accepted view.
-- The rules stand in docs/RULES.md.
use Rattle.std.specs.Prelude.{◌≡◌, ◌==◌, true, List, [], ◌∷◌, ◌++◌, Option, None, find, map}
use Rattle.std.specs.List.{All, Contains, flat_map}
use Rattle.std.specs.Option.{option_map}
use Rattle.layout.specs.Types.{Bytes, User, Version}
use Rattle.itable.specs.File.{NoneCollide}
use Rattle.principals.specs.Table.{Table}
use Rattle.version_order.specs.Plan.{plan}
use Rattle.version_order.specs.Structure.{Structure}
use Rattle.update_cert.specs.Cert.{cert}
use Rattle.pending_list.specs.Reply.{Reply, reply}
use Rattle.reply_rules.specs.Lists.{Lists, items, pending, shown, structure_of}
use Rattle.reply_rules.specs.Rules.{lists}
use Rattle.reply_rules.specs.Broken.{broken}

-- An accepted view: the lists of the reply, the table of principals by which they were judged, and the structure that
-- was signed over them.
pub record View : Type 0 where
  pub lists : Lists
  pub table : Table
  pub signed : Structure

-- whose view it is, and the number of the own operation
abbrev pub user_of : View → User
user_of x = x.lists.own.plan.user

abbrev pub number_of : View → Version
number_of x = x.lists.own.plan.number

abbrev pub reply_of : View → Reply
reply_of x = record { structures = x.lists.structures; pending = items x.lists }

-- the structure that a user signed last
abbrev pub last_signed : User → List View → Option Structure
last_signed u run = option_map (λ x. x.signed) (find (λ x. user_of x == u) run)

-- the structures of a view, without their signatures
abbrev pub structures : View → List Structure
structures x = map (λ z. z.value) x.lists.structures

-- What a view meets that is accepted after these.
pub record Accepted (older : List View) (x : View) : Type 0 where
  -- the reply was read from bytes
  pub read : reply.Fits (reply_of x)
  -- it breaks no rule: not the one on lists, nor that the own structure is the one that was signed last, nor one by the
  -- table
  pub lists : lists (reply_of x) ≡ true
  pub own_last : option_map (λ z. z.value) (structure_of (user_of x) x.lists) ≡ last_signed (user_of x) older
  pub rules : broken x.table x.lists ≡ None
  -- the structure is signed over the own plan
  pub signed : x.signed.plan ≡ x.lists.own.plan
  -- each structure was released: it is the one that was signed over an earlier view
  pub released : All (Contains (map (λ y. y.signed) older)) (structures x)

-- each view is accepted after those before it
abbrev pub AreAccepted : List View → Type 0
AreAccepted [] = Unit {0}
AreAccepted (x ∷ older) = Accepted older x × AreAccepted older

-- the texts of which plans, entries and certificates have digests
abbrev pub texts_of : View → List Bytes
texts_of x = map (λ p. plan.spell p) (shown x.lists ++ pending x.lists) ++ map (λ i. cert.spell i.cert) (items x.lists)

-- no two plans or certificates of the run have one digest
abbrev pub NoViewCollision : List View → Type 0
NoViewCollision run = NoneCollide (flat_map texts_of run) (flat_map texts_of run)

-- what holds of each run without collisions
abbrev pub EachAccepted : (List View → Type 0) → Type 0
EachAccepted holds = (run : List View) → AreAccepted run → NoViewCollision run → holds run
