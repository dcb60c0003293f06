use Rattle.std.proofs.Common.{inl}
use Rattle.client_tree.specs.View.{handle_of}
use Rattle.client_tree.specs.Opened.{IsOpening, IsOpeningAt, items_on}
use Rattle.tree_parts.specs.Asked.{Lacks}
use Rattle.tree_parts.specs.declared.scope.Scope.TheVariants as scopes
use Rattle.client_tree.proofs.OpenedLaws.{after_loaded, chunk_at, chunk_taken, handed_on, of_chunk, opened_at, wider}
use Rattle.client_tree.proofs.view.View.open_at.Goals as goal

pub returns-in_err-opened-clause-missing : goal.returns-in_err-opened-clause-missing
returns-in_err-opened-clause-missing g c =
    let held = g.B.Blocks.held c.args.blocks.now in
    let x = c.args.self.now in
    let p = c.args.principal in
    let i = c.args.i_number in
    let e = c.in_err-opened.field-0.0 in
    handed_on c.from_residual.result e (Lacks held (IsOpeningAt held x p i)) c.from_residual.ensures.1
    (wider held (IsOpening held x (scopes.At i) p) (IsOpeningAt held x p i) e (λ digest s asked. inl asked) c.in_err-opened.ensures.missing)

pub returns-in_err-load-clause-missing : goal.returns-in_err-load-clause-missing
returns-in_err-load-clause-missing g c =
    let held = g.B.Blocks.held c.args.blocks.now in
    let x = c.args.self.now in
    let p = c.args.principal in
    let i = c.args.i_number in
    let e = c.in_err-load.field-0.0 in
    handed_on c.from_residual-in_err-load.result e (Lacks held (IsOpeningAt held x p i)) c.from_residual-in_err-load.ensures.1
    (chunk_at held x p i e (of_chunk held x (scopes.At i) p i (items_on x p) c.in_ok-opened.opened.part e c.in_ok-opened.ensures.after c.in_err-load.ensures.missing))

pub load-requires : goal.load-requires
load-requires g c = record { read = c.in_ok-opened.ensures.read }

pub returns-clause-opened : goal.returns-clause-opened
returns-clause-opened g c =
    let held = g.B.Blocks.held c.args.blocks.now in
    let x = c.args.self.now in
    let p = c.args.principal in
    let i = c.args.i_number in
    let load = c.in_ok-load.ensures in
    let old = c.in_ok-opened.opened.part in
    let after = c.in_ok-opened.ensures.after in
    opened_at held x p i c.load.new.self (after_loaded held (scopes.At i) x.table (items_on x p) p (handle_of x p) old c.load.new.self load.principal load.handle load.slots after) load.read c.in_ok-opened.ensures.taken
    (chunk_taken held x (scopes.At i) p i (items_on x p) old after load.taken)
