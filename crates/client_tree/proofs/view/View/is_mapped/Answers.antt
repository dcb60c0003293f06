use Rattle.std.proofs.Common.{◌≡◌, [], false, sym, ◌∙◌}
use Rattle.update_cert.specs.World.{is_table}
use Rattle.tree_parts.specs.Asked.{Lacks}
use Rattle.tree_parts.specs.declared.error.ApplyError.{ApplyError}
use Rattle.tree_parts.specs.declared.scope.Scope.TheVariants as scopes
use Rattle.client_tree.specs.View.{handle_of}
use Rattle.client_tree.specs.Opened.{IsOpeningAt, is_touched}
use Rattle.client_tree.proofs.OpenedLaws.{after_loaded, chunk_at, chunk_taken, handed_on, of_chunk, untouched_opened}
use Rattle.client_tree.proofs.QuestionLaws.{slot_mapped, table_mapped}
use Rattle.client_tree.proofs.view.View.is_mapped.Goals as goal

-- ---- the table of principals stands there

pub returns-then-is_table-clause-mapped : goal.returns-then-is_table-clause-mapped
returns-then-is_table-clause-mapped g c = λ reads agrees users. table_mapped reads users c.args.self.now c.args.principal c.args.i_number (sym c.is_table.ensures ∙ c.if-is_table.true)

-- ---- an operation has a change there

pub returns-in_err-opened-clause-missing : goal.returns-in_err-opened-clause-missing
returns-in_err-opened-clause-missing g c =
    let held = g.B.Blocks.held c.args.blocks.now in
    let x = c.args.self.now in
    let p = c.args.principal in
    let i = c.args.i_number in
    let place : is_table p i ≡ false = sym c.is_table.ensures ∙ c.if-is_table.false in
    handed_on c.from_residual.result c.in_err-opened.field-0.0 (λ (e : ApplyError). (is_table p i ≡ false) × Lacks held (IsOpeningAt held x p i) e) c.from_residual.ensures.1 (place, c.in_err-opened.ensures.missing)

pub returns-then-is_touched-clause-mapped : goal.returns-then-is_touched-clause-mapped
returns-then-is_touched-clause-mapped g c = λ reads agrees users.
    let place : is_table c.args.principal c.args.i_number ≡ false = sym c.is_table.ensures ∙ c.if-is_table.false in
    slot_mapped (g.B.Blocks.held c.args.blocks.now) reads users c.args.self.now c.args.principal c.args.i_number c.in_ok-opened.opened c.stands.result c.in_ok-opened.ensures.opened agrees place c.in_ok-opened.ensures.loaded c.stands.ensures

pub returns-then-is_touched-clause-taken : goal.returns-then-is_touched-clause-taken
returns-then-is_touched-clause-taken g c = λ place. c.in_ok-opened.ensures.opened.taken

-- ---- none has

pub returns-in_err-load-clause-missing : goal.returns-in_err-load-clause-missing
returns-in_err-load-clause-missing g c =
    let held = g.B.Blocks.held c.args.blocks.now in
    let x = c.args.self.now in
    let p = c.args.principal in
    let i = c.args.i_number in
    let e = c.in_err-load.field-0.0 in
    let place : is_table p i ≡ false = sym c.is_table.ensures ∙ c.if-is_table.false in
    handed_on c.from_residual-in_err-load.result e (λ (e : ApplyError). (is_table p i ≡ false) × Lacks held (IsOpeningAt held x p i) e) c.from_residual-in_err-load.ensures.1
    (place, chunk_at held x p i e (of_chunk held x (scopes.At i) p i [] c.args.before.now e (c.requires.before (scopes.At i)) c.in_err-load.ensures.missing))

pub load-requires : goal.load-requires
load-requires g c = record { read = c.requires.read }

pub returns-clause-before : goal.returns-clause-before
returns-clause-before g c = λ scope.
    let load = c.in_ok-load.ensures in
    after_loaded (g.B.Blocks.held c.args.blocks.now) scope c.args.self.now.table [] c.args.principal (handle_of c.args.self.now c.args.principal) c.args.before.now c.load.new.self load.principal load.handle load.slots (c.requires.before scope)

pub returns-clause-mapped : goal.returns-clause-mapped
returns-clause-mapped g c = λ reads agrees users.
    let held = g.B.Blocks.held c.args.blocks.now in
    let x = c.args.self.now in
    let p = c.args.principal in
    let i = c.args.i_number in
    let old = c.args.before.now in
    let load = c.in_ok-load.ensures in
    let place : is_table p i ≡ false = sym c.is_table.ensures ∙ c.if-is_table.false in
    let none : is_touched x (scopes.At i) p ≡ false = sym c.is_touched.ensures ∙ c.if-is_touched.false in
    let first = c.requires.before (scopes.At i) in
    let after = after_loaded held (scopes.At i) x.table [] p (handle_of x p) old c.load.new.self load.principal load.handle load.slots first in
    let opened = untouched_opened held x p i c.load.new.self none after load.read (chunk_taken held x (scopes.At i) p i [] old first load.taken) in
    slot_mapped held reads users x p i c.load.new.self c.stands-2.result opened agrees place load.loaded c.stands-2.ensures

pub returns-clause-taken : goal.returns-clause-taken
returns-clause-taken g c = λ place.
    let held = g.B.Blocks.held c.args.blocks.now in
    let x = c.args.self.now in
    let p = c.args.principal in
    let i = c.args.i_number in
    let old = c.args.before.now in
    let load = c.in_ok-load.ensures in
    let none : is_touched x (scopes.At i) p ≡ false = sym c.is_touched.ensures ∙ c.if-is_touched.false in
    let first = c.requires.before (scopes.At i) in
    let after = after_loaded held (scopes.At i) x.table [] p (handle_of x p) old c.load.new.self load.principal load.handle load.slots first in
    (untouched_opened held x p i c.load.new.self none after load.read (chunk_taken held x (scopes.At i) p i [] old first load.taken)).taken
