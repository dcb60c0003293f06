-- Nobody has to believe this file: an aid of contracts that are no promise.
-- What the own operation makes, or what is told of the tree, comes to by the blocks that are held.
use Rattle.std.specs.Prelude.{◌≡◌, ◌≤◌, ◌<◌, ℕ, List, ◌∷◌, ◌++◌, Some, None, true, map}
use Rattle.std.specs.List.{flat_map}
use Rattle.std.specs.Vec.{vec_items}
use Rattle.version_order.specs.Plan.{Plan}
use Rattle.layout.specs.Types.{Group, Key}
use Rattle.version_order.specs.Vector.{version_of}
use Rattle.pending_list.specs.Groups.{raises}
use Rattle.tree_parts.specs.Blocks.{Blocks}
use Rattle.tree_parts.specs.Spot.{lacks}
use Rattle.reply_rules.specs.Lists.{Lists}
use Rattle.client_tree.specs.View.{View, handle_in}
use Rattle.client_tree.specs.Principals.{IsOfNamed}
use Rattle.reply_check.specs.FirstBroken.{ByTable, IsRead, lists_break, view_over}
use Rattle.client_tree.specs.Questions.{IsAnsweredBy, IsAskedBy}
use Rattle.client_tree.specs.declared.questions.Question.{Question}
use Rattle.client_tree.specs.Tree.{IsLost, IsOutcome, IsWanted, Stored}
use Rattle.reply_check.specs.Good.{record_over}
use Rattle.reply_check.specs.declared.reaching.Written.{Written}
use Rattle.reply_check.specs.declared.reaching.Written.TheVariants as written
use Rattle.reply_check.specs.declared.reaching.Made.{Made}
use Rattle.reply_check.specs.declared.reaching.Reached.{Reached}
use Rattle.reply_check.specs.declared.reaching.Reached.TheVariants as reached
use Rattle.reply_check.specs.declared.reaching.Shown.{Shown}
use Rattle.reply_check.specs.declared.reaching.Shown.TheVariants as shown

-- a group's part, where the plan has a version of the group
abbrev pub IsRaisedIn : Plan → Stored → Type 0
IsRaisedIn plan s = (64 ≤ s.principal) × (s.principal < 96) × (0 < version_of s.principal plan.vector)

-- each group that the own operation raises has a version in its plan
abbrev pub CountsRaised : View → Type 0
CountsRaised x = (g : Group) → raises x.table g x.own ≡ true → 0 < version_of g x.own.plan.vector

-- what is made of the own part and of these of groups
abbrev pub IsMade : {A : Type 0} → Plan → Stored → List Stored → Made A → Type 0
IsMade plan own groups m =
    (m.handle ≡ own.handle) × (m.records.items ≡ map (record_over plan) groups) × (map vec_items m.texts.items ≡ own.texts ++ flat_map (λ g. g.texts) groups)

abbrev pub IsWritten : {A : Type 0} → Blocks → View → List ℕ → Written A → Type 0
IsWritten blocks x void (written.Lacks a) = IsWanted blocks x a.digest a.spot × (lacks blocks a.digest a.spot ≡ true)
IsWritten blocks x void (written.Parts m) =
    (own : Stored) × (groups : List Stored) × IsMade x.own.plan own groups m × IsOutcome blocks x (own ∷ groups) × IsLost blocks x void m.lost.items

abbrev pub IsReached : {A : Type 0} → Blocks → Key → Lists → Reached A → Type 0
IsReached blocks key x (reached.Lacks a) = IsOfNamed blocks (handle_in key x.structures 0) a.digest a.spot × (lacks blocks a.digest a.spot ≡ true)
IsReached blocks key x (reached.Breaks rule) = ByTable blocks key x (Some rule)
IsReached blocks key x (reached.BreaksNone t w) = IsRead blocks key x t.table t.voids × ByTable blocks key x None × IsWritten blocks (view_over key t.table x) t.voids w

abbrev pub IsAnswer : {A : Type 0} → Blocks → View → Question → Shown A → Type 0
IsAnswer blocks x q (shown.Lacks a) = IsAskedBy blocks x q a.digest a.spot × (lacks blocks a.digest a.spot ≡ true)
IsAnswer blocks x q (shown.Tells answer) = IsAnsweredBy blocks x q answer
