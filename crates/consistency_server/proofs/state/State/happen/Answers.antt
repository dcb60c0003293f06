-- What holds of the lists goes on holding.
use Rattle.std.proofs.Common.{◌++◌, ◌∷◌, [], Result, Ok, Err, sym, ap, subst, ◌∙◌, List}
use Rattle.std.specs.Prelude.{OnOk, filter, not}
use Rattle.std.specs.Ordering.{nat_cmp}
use Rattle.layout.specs.Ascending.{with_row}
use Rattle.version_order.specs.declared.vector.Component.{Component}
use Rattle.version_order.specs.Structure.{Structure}
use Rattle.pending_list.specs.declared.signed.Signed.{Signed}
use Rattle.pending_list.specs.Reply.{user_of}
use Rattle.principals.specs.Table.{Table}
use Rattle.consistency_server.specs.State.{State, Placement, commits}
use Rattle.consistency_server.specs.Judged.{Admits, changed, table_or}
use Rattle.consistency_server.proofs.Tidy.{tidy_placed, tidy_committed}
use Rattle.consistency_server.proofs.state.State.happen.Goals as goal

pub invariant_of-self-in-Places : goal.invariant_of-self-in-Places
invariant_of-self-in-Places g c =
    let s : State = record { table = c.self.inside.table; vector = c.self.inside.vector; structures = c.self.inside.structures.items; pending = c.self.inside.pending.items } in
    let admits = subst (λ (t : State). Admits t c.args.event) (sym c.self.view_is) c.requires in
    rw c.put_in.ensures (tidy_placed s c.in-Places.table c.keep.new.kept c.in-Places.vector c.in-Places.placement c.log_with_room-logged.new.structures.items c.place.new.pending.items c.self.invariant (subst (Admits s) c.in-Places.is admits) c.log_with_room-logged.ensures.structures
    (c.place.ensures ∙ ap (λ (ps : List Placement). ps ++ c.in-Places.placement ∷ []) c.log_with_room-logged.ensures.pending))

in_any : {X E : Type 0} (r : Result X E) (P : Type 0) → P → OnOk r P
in_any (Ok x) P p = p
in_any (Err e) P p = tt

pub returns-in-Places-clause-state : goal.returns-in-Places-clause-state
returns-in-Places-clause-state g c =
    let w : Placement = c.in-Places.placement in
    let ss : List (Signed Structure) = c.self.inside.structures.items in
    let table : Table = table_or c.in-Places.table c.self.inside.table in
    let pending = c.place.ensures ∙ ap (λ (ps : List Placement). ps ++ w ∷ []) c.log_with_room-logged.ensures.pending in
    in_any c.log_with_room-logged.result _
    (ap (λ (t : Table). record { table = t; vector = c.put_in.new.place; structures = c.log_with_room-logged.new.structures.items; pending = c.place.new.pending.items }) c.keep.ensures
    ∙ ap (λ (v : List Component). record { table = table; vector = v; structures = c.log_with_room-logged.new.structures.items; pending = c.place.new.pending.items }) c.put_in.ensures
    ∙ ap (λ (rows : List (Signed Structure)). record { table = table; vector = c.in-Places.vector; structures = rows; pending = c.place.new.pending.items }) c.log_with_room-logged.ensures.structures
    ∙ ap (λ (ps : List Placement). record { table = table; vector = c.in-Places.vector; structures = ss; pending = ps }) pending
    ∙ ap (changed (record { table = c.self.inside.table; vector = c.self.inside.vector; structures = ss; pending = c.self.inside.pending.items })) (sym c.in-Places.is)
    ∙ ap (λ (s : State). changed s c.args.event) c.self.view_is)

pub invariant_of-self-in-Commits : goal.invariant_of-self-in-Commits
invariant_of-self-in-Commits g c =
    let s : State = record { table = c.self.inside.table; vector = c.self.inside.vector; structures = c.self.inside.structures.items; pending = c.self.inside.pending.items } in
    let admits = subst (λ (t : State). Admits t c.args.event) (sym c.self.view_is) c.requires in
    tidy_committed s c.in-Commits.structure c.commit.new.structures.items c.commit.new.pending.items c.self.invariant (subst (Admits s) c.in-Commits.is admits)
    (c.commit.ensures.structures ∙ ap (λ ss. with_row nat_cmp user_of ss c.in-Commits.structure) c.log_with_room-logged.ensures.structures)
    (c.commit.ensures.pending ∙ ap (filter (λ w. not (commits c.in-Commits.structure w))) c.log_with_room-logged.ensures.pending)
