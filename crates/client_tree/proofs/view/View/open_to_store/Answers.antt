use Rattle.std.proofs.Common.{◌≡◌, rules}
use Rattle.client_tree.specs.Opened.{IsNeeded, items_on}
use Rattle.tree_parts.specs.Asked.{Lacks}
use Rattle.tree_parts.specs.declared.scope.Scope.TheVariants as scopes
use Rattle.client_tree.proofs.OpenedLaws.{handed_on, needed_at, needed_opening, of_chunk, opened_loaded}
use Rattle.client_tree.proofs.view.View.open_to_store.Goals as goal

pub returns-in_err-opened-clause-missing : goal.returns-in_err-opened-clause-missing
returns-in_err-opened-clause-missing g c =
    let held = g.B.Blocks.held c.args.blocks.now in
    let x = c.args.self.now in
    let p = c.args.principal in
    let e = c.in_err-opened.field-0.0 in
    handed_on c.from_residual.result e (Lacks held (IsNeeded held x p)) c.from_residual.ensures.1 (needed_opening held x p e c.requires.touched c.in_err-opened.ensures.missing)

pub load-requires : goal.load-requires
load-requires g c = record { read = c.in_ok-opened.ensures.opened.read }

pub returns-in_err-load-clause-missing : goal.returns-in_err-load-clause-missing
returns-in_err-load-clause-missing g c =
    let held = g.B.Blocks.held c.args.blocks.now in
    let x = c.args.self.now in
    let p = c.args.principal in
    let e = c.in_err-load.field-0.0 in
    let first : p ≡ 0 = search rules in
    handed_on c.from_residual-in_err-load.result e (Lacks held (IsNeeded held x p)) c.from_residual-in_err-load.ensures.1
    (needed_at held x p c.table.result e c.requires.touched first c.table.ensures (of_chunk held x scopes.All p c.table.result (items_on x p) c.in_ok-opened.opened.part e c.in_ok-opened.ensures.opened.after c.in_err-load.ensures.missing))

pub returns-clause-opened : goal.returns-clause-opened
returns-clause-opened g c =
    let load = c.in_ok-load.ensures in
    opened_loaded (g.B.Blocks.held c.args.blocks.now) c.args.self.now c.args.principal c.in_ok-opened.opened.part c.load.new.self load.principal load.handle load.read load.slots c.in_ok-opened.ensures.opened
