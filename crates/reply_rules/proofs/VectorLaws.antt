-- Laws of the rule on vectors, one item after another.
use Rattle.std.proofs.Common.{◌≡◌, ℕ, ◌+◌, ◌<◌, ◌&&◌, List, length, drop, ap}
use Rattle.std.specs.Prelude.{slice_index_or}
use Rattle.version_order.specs.declared.vector.Component.{Component}
use Rattle.version_order.specs.Vector.{raised, raised_all}
use Rattle.pending_list.specs.Reply.{PendingItem}
use Rattle.principals.specs.Table.{Table}
use Rattle.reply_rules.specs.Rules.{each_has_next_vector, same_vector, next_vector}
use Rattle.reply_rules.proofs.Tests.{dropped}

-- one item after a vector, and then those after it
pub next_follows : (t : Table) (v : List Component) (is : List PendingItem) (k : ℕ) (i : PendingItem) → k < length is → i ≡ slice_index_or is k i
    → each_has_next_vector t v (drop k is) ≡ (same_vector i.plan.vector (next_vector t i v) && each_has_next_vector t i.plan.vector (drop (k + 1) is))
next_follows t v is k i inside at = ap (each_has_next_vector t v) (dropped is k i inside at)

pub next_raised : (v : List Component) (gs : List ℕ) (k g : ℕ) → k < length gs → g ≡ slice_index_or gs k g → raised_all (drop k gs) v ≡ raised_all (drop (k + 1) gs) (raised g v)
next_raised v gs k g inside at = ap (λ (hs : List ℕ). raised_all hs v) (dropped gs k g inside at)
