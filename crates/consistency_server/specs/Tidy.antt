-- Nobody has to believe this file: an aid of private contracts.
-- What holds of the lists that are kept, after whatever events.
use Rattle.std.specs.Prelude.{ℕ, ◌<◌, None, map, nat_eq}
use Rattle.std.specs.List.{All, IsDistinct}
use Rattle.std.specs.Ordering.{nat_cmp}
use Rattle.layout.specs.Ascending.{Ascends}
use Rattle.pending_list.specs.Reply.{user_of}
use Rattle.consistency_server.specs.State.{State, Placement}

-- whose operation it is
abbrev pub placed_by : Placement → ℕ
placed_by w = w.item.plan.user

-- structures ascend by user, no user has two operations that are pending, and all are users
pub record IsTidy (state : State) : Type 0 where
  pub ascending : Ascends nat_cmp user_of None state.structures
  pub of_users : All (λ s. user_of s < 64) state.structures
  pub apart : IsDistinct nat_eq (map placed_by state.pending)
  pub by_users : All (λ w. placed_by w < 64) state.pending
