use Rattle.std.proofs.Common.{◌≡◌, ℕ, ap, subst, ◌∙◌}
use Rattle.layout.specs.Types.{Handle}
use Rattle.principals.specs.Table.{Table}
use Rattle.tree_parts.specs.Asked.{Lacks}
use Rattle.tree_parts.proofs.SomeReading.{some_reading}
use Rattle.client_tree.specs.View.{View, handle_in}
use Rattle.client_tree.specs.Principals.{IsNamed, IsOfNamed, IsPending}
use Rattle.client_tree.proofs.OpenedLaws.{handed_on}
use Rattle.client_tree.proofs.NamedLaws.{one_named, one_pending, pending_then}
use Rattle.client_tree.proofs.named.table_of.Goals as goal

pub returns-in_err-named-clause-missing : goal.returns-in_err-named-clause-missing
returns-in_err-named-clause-missing g c =
    let held = g.B.Blocks.held c.args.blocks.now in
    let key = c.args.key.now in
    let zs = c.args.structures.now in
    let e = c.in_err-named.field-0.0 in
    let handle : c.in_ok-handle.handle ≡ handle_in key zs 0 = c.in_ok-handle.ensures ∙ ap (λ (p : ℕ). handle_in key zs p) (c.from-superuser.ensures ∙ c.superuser.ensures) in
    handed_on c.from_residual-in_err-named.result e (Lacks held (IsOfNamed held (handle_in key zs 0))) c.from_residual-in_err-named.ensures.1
    (subst (λ (h : Handle). Lacks held (IsOfNamed held h) e) handle c.in_err-named.ensures.missing)

pub returns-clause-table : goal.returns-clause-table
returns-clause-table g c =
    let held = g.B.Blocks.held c.args.blocks.now in
    let key = c.args.key.now in
    let zs = c.args.structures.now in
    let new = c.apply_table.new.table in
    let handle : c.in_ok-handle.handle ≡ handle_in key zs 0 = c.in_ok-handle.ensures ∙ ap (λ (p : ℕ). handle_in key zs p) (c.from-superuser.ensures ∙ c.superuser.ensures) in
    let users = c.in_ok-named.named in
    let x : View = record { key = key; table = new; structures = zs; others = c.args.others.now; own = c.args.own.now } in
    let then = pending_then users x c.in_ok-table.table new c.in_ok-voids.voids c.cert.result.now c.cert.ensures.same c.in_ok-table.ensures c.in_ok-voids.ensures.table c.in_ok-voids.ensures.voids in (
      users,
      subst (λ (h : Handle). IsNamed held h users) handle c.in_ok-named.ensures.named,
      record { after = λ reads. (then reads).0; void = λ reads. (then reads).1 },
    )

pub returns-clause-only : goal.returns-clause-only
returns-clause-only g c = λ users other numbers names is.
    let held = g.B.Blocks.held c.args.blocks.now in
    let key = c.args.key.now in
    let zs = c.args.structures.now in
    let new = c.apply_table.new.table in
    let handle : c.in_ok-handle.handle ≡ handle_in key zs 0 = c.in_ok-handle.ensures ∙ ap (λ (p : ℕ). handle_in key zs p) (c.from-superuser.ensures ∙ c.superuser.ensures) in
    let named = c.in_ok-named.named in
    let x : View = record { key = key; table = other; structures = zs; others = c.args.others.now; own = c.args.own.now } in
    let same : users ≡ named = one_named held (handle_in key zs 0) users named names (subst (λ (h : Handle). IsNamed held h named) handle c.in_ok-named.ensures.named) in
    let reads = (some_reading held).0 in
    one_pending named x new c.in_ok-voids.voids numbers reads
    (pending_then named x c.in_ok-table.table new c.in_ok-voids.voids c.cert.result.now c.cert.ensures.same c.in_ok-table.ensures c.in_ok-voids.ensures.table c.in_ok-voids.ensures.voids reads)
    (subst (λ (t : Table). IsPending t x numbers) same is)
