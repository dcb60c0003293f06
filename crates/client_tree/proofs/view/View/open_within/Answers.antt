use Rattle.std.proofs.Common.{◌≡◌, ℕ, ◌++◌, [], ◌∷◌, refl, sym, subst}
use Rattle.std.specs.Prelude.{IfErr, IfOk, OnOk, filter}
use Rattle.principals.specs.Table.{Table}
use Rattle.update_cert.specs.Reading.{void_of_read}
use Rattle.tree_parts.specs.Asked.{HasAskedFor, IsAskedFor, Lacks}
use Rattle.tree_parts.specs.declared.applying.Applied.{Applied}
use Rattle.pending_list.specs.Reply.{PendingItem}
use Rattle.client_tree.specs.View.{actor_of, comes_after, handle_of, tree_before}
use Rattle.client_tree.specs.Opened.{IsPartAfter}
use Rattle.client_tree.proofs.OpenedLaws.{all_opening, lacks_item, part_before}
use Rattle.client_tree.proofs.view.View.open_within.Goals as goal

pub apply_item-requires : goal.apply_item-requires
apply_item-requires g c = record { read = c.in_ok-earlier.ensures.read }

pub returns-clause-after : goal.returns-clause-after
returns-clause-after g c =
    let held = g.B.Blocks.held c.args.blocks.now in
    let x = c.args.self.now in
    let p = c.args.principal in
    let h = handle_of x p in
    let scope = c.args.scope.now in
    let before = c.in_ok-earlier.earlier in
    let done = filter (comes_after x p) x.others in
    let first = subst (λ (t : Table). IsPartAfter held scope t done p h before) (sym c.table.ensures) c.in_ok-earlier.ensures.after in
    subst (λ (i : PendingItem). IfOk c.apply_item.result (λ (made : Applied _). IsPartAfter held scope x.table (done ++ i ∷ []) p h made.part)) c.own.ensures
    (subst (λ (t : Table). IfOk c.apply_item.result (λ (made : Applied _). IsPartAfter held scope t (done ++ c.own.result.now ∷ []) p h made.part)) c.table.ensures (c.apply_item.ensures.after p h done first))

pub returns-clause-voids : goal.returns-clause-voids
returns-clause-voids g c = λ reads agrees users all.
    let held = g.B.Blocks.held c.args.blocks.now in
    let x = c.args.self.now in
    let p = c.args.principal in
    let tree = tree_before reads users x in
    let before = c.in_ok-earlier.earlier in
    let earlier = subst (λ scope. IsPartAfter held scope x.table (filter (comes_after x p) x.others) p (handle_of x p) before) all c.in_ok-earlier.ensures.after in
    subst (λ (q : ℕ). IfOk c.apply_item.result (λ (made : Applied _). made.voids ≡ void_of_read reads (actor_of x.table x.own) q x.own.cert.changes tree)) earlier.principal
    (subst (λ (i : PendingItem). IfOk c.apply_item.result (λ (made : Applied _). made.voids ≡ void_of_read reads (actor_of x.table i) before.table.principal i.cert.changes tree)) c.own.ensures
    (subst (λ (t : Table). IfOk c.apply_item.result (λ (made : Applied _). made.voids ≡ void_of_read reads (actor_of t c.own.result.now) before.table.principal c.own.result.now.cert.changes tree)) c.table.ensures
    (c.apply_item.ensures.voids reads agrees tree all (part_before held reads users x p before earlier agrees))))

pub returns-clause-missing : goal.returns-clause-missing
returns-clause-missing g c =
    let held = g.B.Blocks.held c.args.blocks.now in
    let x = c.args.self.now in
    let p = c.args.principal in
    let scope = c.args.scope.now in
    let part = c.in_ok-earlier.earlier in
    let missing : IfErr c.apply_item.result (Lacks held (IsAskedFor held scope (actor_of x.table x.own) x.own.cert.changes part)) =
    subst (λ (i : PendingItem). IfErr c.apply_item.result (Lacks held (IsAskedFor held scope (actor_of x.table i) i.cert.changes part))) c.own.ensures
    (subst (λ (t : Table). IfErr c.apply_item.result (Lacks held (IsAskedFor held scope (actor_of t c.own.result.now) c.own.result.now.cert.changes part))) c.table.ensures c.apply_item.ensures.missing) in
    lacks_item held x scope p part (filter (comes_after x p) x.others) [] x.own c.apply_item.result refl c.in_ok-earlier.ensures.after missing

pub returns-clause-taken : goal.returns-clause-taken
returns-clause-taken g c =
    let held = g.B.Blocks.held c.args.blocks.now in
    let x = c.args.self.now in
    let p = c.args.principal in
    let scope = c.args.scope.now in
    let before = c.in_ok-earlier.earlier in
    let asked : OnOk c.apply_item.result (HasAskedFor held scope (actor_of x.table x.own) x.own.cert.changes before) =
    subst (λ (i : PendingItem). OnOk c.apply_item.result (HasAskedFor held scope (actor_of x.table i) i.cert.changes before)) c.own.ensures
    (subst (λ (t : Table). OnOk c.apply_item.result (HasAskedFor held scope (actor_of t c.own.result.now) c.own.result.now.cert.changes before)) c.table.ensures c.apply_item.ensures.taken) in
    all_opening held x scope p before c.apply_item.result c.in_ok-earlier.ensures.after c.in_ok-earlier.ensures.read asked c.in_ok-earlier.ensures.taken
