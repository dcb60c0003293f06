-- What clients sign over accepted replies is what honest clients sign.
use Rattle.std.specs.Prelude.{◌≡◌, List, map}
use Rattle.pending_list.specs.Groups.{raised_groups}
use Rattle.client_tree.specs.Tree.{Stored}
use Rattle.reply_check.specs.Good.{record_over}
use Rattle.client_verify.specs.State.{Ready, State, next_structure}
use Rattle.honest_history.specs.Honest.{Names, Naming, SignsOver}

-- An accepted reply is ready, as a client makes it, with a record of each group's part that the own operation may
-- change.
pub record HasRecords (r : Ready) : Type 0 where
  pub parts : List Stored
  pub principals : map (λ s. s.principal) parts ≡ raised_groups r.table r.lists.own
  pub records : r.records ≡ map (record_over r.lists.own.plan) parts

-- the structure over it is one that an honest client signs, where user 0's handle is one that names the table
abbrev pub EachSignsOver : Type 0
EachSignsOver =
    (naming : Naming) (s : State) (r : Ready) → HasRecords r
    → (r.lists.own.plan.user ≡ 0 → Names naming r.handle r.table)
    → SignsOver naming r.table s.last r.lists (next_structure s r)
