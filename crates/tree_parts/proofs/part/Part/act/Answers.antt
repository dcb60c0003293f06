use Rattle.std.proofs.Common.{◌≡◌, true, false, refl, sym, ap, subst, ◌∙◌}
use Rattle.layout.specs.Types.{Digest}
use Rattle.update_cert.specs.Change.{Action, Remove, action_of}
use Rattle.tree_parts.specs.Asked.{needs_entries, needs_inode}
use Rattle.tree_parts.specs.Acts.{Acts, change_at}
use Rattle.tree_parts.proofs.AskedLaws.{each_for, has_for, has_removed}
use Rattle.tree_parts.proofs.part.Part.act.Goals as goal

pub returns-in_ok-make-in-Make-clause-acts : goal.returns-in_ok-make-in-Make-clause-acts
returns-in_ok-make-in-Make-clause-acts g c = λ reads agrees actor of.
    let old = c.args.self.now in
    subst (λ (a : Action Digest). Acts reads actor (change_at old c.args.i_number a) old c.make.new.self c.in_ok-make-in-Make.field-0) (sym (ap action_of c.in-Make.is)) (c.in_ok-make-in-Make.ensures.acts reads actor of)

pub returns-in-Unlink-clause-missing : goal.returns-in-Unlink-clause-missing
returns-in-Unlink-clause-missing g c =
    let part = c.args.self.now in
    let i = c.args.i_number in
    let entries : needs_entries (action_of c.args.action.now) ≡ true = ap (λ a. needs_entries (action_of a)) c.in-Unlink.is in
    let inode : needs_inode part.table.principal i (action_of c.args.action.now) ≡ true = ap (λ a. needs_inode part.table.principal i (action_of a)) c.in-Unlink.is in
    each_for (g.B.Blocks.held c.args.blocks.now) part (change_at part i (action_of c.args.action.now)) i true c.unlink.result refl entries (λ failed. inode) c.unlink.ensures.missing

-- ---- nothing of it is missing

pub returns-in_ok-make-in-Make-clause-taken : goal.returns-in_ok-make-in-Make-clause-taken
returns-in_ok-make-in-Make-clause-taken g c = λ place needs.
    let inode : needs_inode c.args.self.now.table.principal c.args.i_number (action_of c.args.action.now) ≡ false = ap (λ a. needs_inode c.args.self.now.table.principal c.args.i_number (action_of a)) c.in-Make.is in
    let clash : true ≡ false = sym needs ∙ inode in
    absurd cc

pub returns-in-Put-clause-taken : goal.returns-in-Put-clause-taken
returns-in-Put-clause-taken g c = λ place.
    let part = c.args.self.now in
    let entries : needs_entries (action_of c.args.action.now) ≡ false = ap (λ a. needs_entries (action_of a)) c.in-Put.is in
    has_for (g.B.Blocks.held c.args.blocks.now) part (change_at part c.args.i_number (action_of c.args.action.now)) false c.put.result entries (c.put.ensures.taken place)

pub returns-in-Remove-clause-taken : goal.returns-in-Remove-clause-taken
returns-in-Remove-clause-taken g c = λ place.
    let part = c.args.self.now in
    let is : action_of c.args.action.now ≡ Remove = ap action_of c.in-Remove.is in
    has_removed (g.B.Blocks.held c.args.blocks.now) part (change_at part c.args.i_number (action_of c.args.action.now)) c.remove.result is (c.remove.ensures.taken place)

pub returns-in-Link-clause-taken : goal.returns-in-Link-clause-taken
returns-in-Link-clause-taken g c = λ place.
    let part = c.args.self.now in
    let entries : needs_entries (action_of c.args.action.now) ≡ true = ap (λ a. needs_entries (action_of a)) c.in-Link.is in
    has_for (g.B.Blocks.held c.args.blocks.now) part (change_at part c.args.i_number (action_of c.args.action.now)) true c.link.result entries c.link.ensures.taken

pub returns-in-Unlink-clause-taken : goal.returns-in-Unlink-clause-taken
returns-in-Unlink-clause-taken g c = λ place.
    let part = c.args.self.now in
    let entries : needs_entries (action_of c.args.action.now) ≡ true = ap (λ a. needs_entries (action_of a)) c.in-Unlink.is in
    has_for (g.B.Blocks.held c.args.blocks.now) part (change_at part c.args.i_number (action_of c.args.action.now)) true c.unlink.result entries c.unlink.ensures.taken
