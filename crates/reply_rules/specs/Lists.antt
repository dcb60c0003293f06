-- The lists of a reply in which something is pending: the structures, the pending items of others, and the own item,
-- which is the last.
use Rattle.std.specs.Prelude.{List, [], ◌∷◌, ◌++◌, Option, Some, None, ◌==◌, map, find}
use Rattle.std.specs.Option.{option_map, option_map_or}
use Rattle.layout.specs.Types.{User, Version}
use Rattle.version_order.specs.Plan.{Plan}
use Rattle.version_order.specs.Structure.{Structure}
use Rattle.pending_list.specs.declared.signed.Signed.{Signed}
use Rattle.pending_list.specs.Reply.{PendingItem, Reply}

pub record Lists : Type 0 where
  pub structures : List (Signed Structure)
  pub others : List PendingItem
  pub own : PendingItem

-- a list as its last item and those before it
abbrev pub split_last : {A : Type 0} → List A → Option (List A × A)
split_last [] = None
split_last (x ∷ xs) = Some (option_map_or (λ s. x ∷ s.0) (split_last xs) [], option_map_or (λ s. s.1) (split_last xs) x)

-- the lists of a reply, where something is pending
abbrev pub lists_of : Reply → Option Lists
lists_of r = option_map (λ s. record { structures = r.structures; others = s.0; own = s.1 }) (split_last r.pending)

-- the pending items, in order
abbrev pub items : Lists → List PendingItem
items x = x.others ++ x.own ∷ []

-- the plans of the structures
abbrev pub shown : Lists → List Plan
shown x = map (λ z. z.value.plan) x.structures

-- the plans that are pending
abbrev pub pending : Lists → List Plan
pending x = map (λ i. i.plan) (items x)

-- the structure of a user
abbrev pub structure_of : User → Lists → Option (Signed Structure)
structure_of u x = find (λ z. z.value.plan.user == u) x.structures

-- the number of a user's structure, 0 where there is none
abbrev pub number_of : User → Lists → Version
number_of u x = option_map_or (λ z. z.value.plan.number) (structure_of u x) 0
