-- Nobody has to believe this file: an aid of private contracts.
-- The pending items in two: those that aren't above come before those that are.
use Rattle.std.specs.Prelude.{◌≡◌, ℕ, zero, suc, List, [], ◌∷◌, ◌++◌, Option, if◌then◌else◌}
use Rattle.version_order.specs.Structure.{Structure}
use Rattle.pending_list.specs.declared.signed.Signed.{Signed}
use Rattle.pending_list.specs.Reply.{PendingItem, is_deeper}
use Rattle.pending_list.specs.Reply as reply_spec
use Rattle.reply_rules.specs.Lists.{Lists, items}
use Rattle.reply_rules.specs.Rules.{items_waiting, items_above}

-- how many items come before the first that is of greater depth than this
abbrev pub place_above : ℕ → List PendingItem → ℕ
place_above d [] = zero
place_above d (i ∷ is) = if is_deeper i.plan d then zero else suc (place_above d is)

-- these are the pending items of the lists, those of them that aren't above and those that are, and top
pub record IsSplit (x : Lists) (pending waiting above : List PendingItem) (top : Option (Signed Structure)) : Type 0 where
  pub all : pending ≡ items x
  pub before : waiting ≡ items_waiting x
  pub after : above ≡ items_above x
  pub joined : pending ≡ waiting ++ above
  pub deepest : top ≡ reply_spec.top x.structures
