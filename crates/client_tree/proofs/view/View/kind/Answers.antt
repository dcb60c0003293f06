use Rattle.std.proofs.Common.{◌≡◌, Some, None, false, sym, ap, ◌∙◌}
use Rattle.std.specs.Option.{option_map}
use Rattle.update_cert.specs.World.{is_table}
use Rattle.tree_parts.specs.Part.{Changed, Laid, slot_here, slot_in}
use Rattle.tree_parts.specs.Asked.{Lacks}
use Rattle.client_tree.specs.Questions.{IsAskedForKind}
use Rattle.client_tree.proofs.OpenedLaws.{handed_on}
use Rattle.client_tree.proofs.LookLaws.{look_stands}
use Rattle.client_tree.proofs.QuestionLaws.{changed_kind, has_changed, has_laid, has_nothing, kind_by, laid_kind, lacks_inode}
use Rattle.client_tree.proofs.view.View.kind.Goals as goal

-- ---- nothing stands there

pub returns-in_default-clause-kind : goal.returns-in_default-clause-kind
returns-in_default-clause-kind g c = λ reads agrees users.
    let part = c.in_ok-opened.opened in
    let place : is_table c.args.principal c.args.i_number ≡ false = sym c.is_table.ensures ∙ c.if-is_table.false in
    let at : slot_here part c.args.i_number ≡ None = sym c.into_slot.ensures ∙ ap (option_map slot_in) c.in_default.is in
    look_stands (g.B.Blocks.held c.args.blocks.now) reads users c.args.self.now c.args.principal c.args.i_number part None c.in_ok-opened.ensures.opened agrees place c.in_ok-opened.ensures.loaded at

pub returns-in_default-clause-taken : goal.returns-in_default-clause-taken
returns-in_default-clause-taken g c = λ place.
    let part = c.in_ok-opened.opened in
    let at : slot_here part c.args.i_number ≡ None = sym c.into_slot.ensures ∙ ap (option_map slot_in) c.in_default.is in
    has_nothing (g.B.Blocks.held c.args.blocks.now) c.args.self.now c.args.principal c.args.i_number part c.in_ok-opened.ensures.opened c.in_ok-opened.ensures.loaded at

-- ---- an i-node lies there

pub returns-in_err-inode-in-Laid-clause-missing : goal.returns-in_err-inode-in-Laid-clause-missing
returns-in_err-inode-in-Laid-clause-missing g c =
    let held = g.B.Blocks.held c.args.blocks.now in
    let x = c.args.self.now in
    let p = c.args.principal in
    let e = c.in_err-inode-in-Laid.field-0.0 in
    let part = c.in_ok-opened.opened in
    let place : is_table p c.args.i_number ≡ false = sym c.is_table.ensures ∙ c.if-is_table.false in
    let at : slot_here part c.args.i_number ≡ Some (Laid c.in-Laid.digest) = sym c.into_slot.ensures ∙ ap (option_map slot_in) c.in-Some.is ∙ ap (λ s. Some (slot_in s)) c.in-Laid.is in
    handed_on c.from_residual-in_err-inode-in-Laid.result e (Lacks held (IsAskedForKind held x p c.args.i_number)) c.from_residual-in_err-inode-in-Laid.ensures.1
    (lacks_inode held x p c.args.i_number part c.in-Laid.digest e place c.in_ok-opened.ensures.opened c.in_ok-opened.ensures.loaded at c.in_err-inode-in-Laid.ensures.missing)

pub returns-in_ok-inode-in-Laid-clause-kind : goal.returns-in_ok-inode-in-Laid-clause-kind
returns-in_ok-inode-in-Laid-clause-kind g c = λ reads agrees users.
    let held = g.B.Blocks.held c.args.blocks.now in
    let x = c.args.self.now in
    let p = c.args.principal in
    let i = c.args.i_number in
    let part = c.in_ok-opened.opened in
    let place : is_table p i ≡ false = sym c.is_table.ensures ∙ c.if-is_table.false in
    let at : slot_here part i ≡ Some (Laid c.in-Laid.digest) = sym c.into_slot.ensures ∙ ap (option_map slot_in) c.in-Some.is ∙ ap (λ s. Some (slot_in s)) c.in-Laid.is in
    let there = look_stands held reads users x p i part (Some (Laid c.in-Laid.digest)) c.in_ok-opened.ensures.opened agrees place c.in_ok-opened.ensures.loaded at in
    kind_by c.of.result _ _ c.of.ensures (laid_kind held reads c.in-Laid.digest c.in_ok-inode-in-Laid.inode _ agrees c.in_ok-inode-in-Laid.ensures.found there)

pub returns-in_ok-inode-in-Laid-clause-taken : goal.returns-in_ok-inode-in-Laid-clause-taken
returns-in_ok-inode-in-Laid-clause-taken g c = λ place.
    let part = c.in_ok-opened.opened in
    let at : slot_here part c.args.i_number ≡ Some (Laid c.in-Laid.digest) = sym c.into_slot.ensures ∙ ap (option_map slot_in) c.in-Some.is ∙ ap (λ s. Some (slot_in s)) c.in-Laid.is in
    has_laid (g.B.Blocks.held c.args.blocks.now) c.args.self.now c.args.principal c.args.i_number part c.in-Laid.digest c.in_ok-inode-in-Laid.inode c.of.result c.in_ok-opened.ensures.opened c.in_ok-opened.ensures.loaded at c.in_ok-inode-in-Laid.ensures.found
    c.in_ok-inode-in-Laid.ensures.taken c.of.ensures

-- ---- a directory that changed stands there

pub returns-in_ok-kind_of_directory-in-Changed-clause-kind : goal.returns-in_ok-kind_of_directory-in-Changed-clause-kind
returns-in_ok-kind_of_directory-in-Changed-clause-kind g c = λ reads agrees users.
    let held = g.B.Blocks.held c.args.blocks.now in
    let x = c.args.self.now in
    let p = c.args.principal in
    let i = c.args.i_number in
    let part = c.in_ok-opened.opened in
    let place : is_table p i ≡ false = sym c.is_table.ensures ∙ c.if-is_table.false in
    let at : slot_here part i ≡ Some (Changed c.in-Changed._laid c.in-Changed.directory) = sym c.into_slot.ensures ∙ ap (option_map slot_in) c.in-Some.is ∙ ap (λ s. Some (slot_in s)) c.in-Changed.is in
    let there = look_stands held reads users x p i part (Some (Changed c.in-Changed._laid c.in-Changed.directory)) c.in_ok-opened.ensures.opened agrees place c.in_ok-opened.ensures.loaded at in
    kind_by c.in_ok-kind_of_directory-in-Changed.field-0 _ _ c.in_ok-kind_of_directory-in-Changed.ensures.kind (changed_kind reads c.in-Changed._laid c.in-Changed.directory _ c.in_ok-kind_of_directory-in-Changed.ensures.fits there)

pub returns-in_ok-kind_of_directory-in-Changed-clause-taken : goal.returns-in_ok-kind_of_directory-in-Changed-clause-taken
returns-in_ok-kind_of_directory-in-Changed-clause-taken g c = λ place.
    let part = c.in_ok-opened.opened in
    let at : slot_here part c.args.i_number ≡ Some (Changed c.in-Changed._laid c.in-Changed.directory) = sym c.into_slot.ensures ∙ ap (option_map slot_in) c.in-Some.is ∙ ap (λ s. Some (slot_in s)) c.in-Changed.is in
    has_changed (g.B.Blocks.held c.args.blocks.now) c.args.self.now c.args.principal c.args.i_number part c.in-Changed._laid c.in-Changed.directory c.in_ok-kind_of_directory-in-Changed.field-0 c.in_ok-opened.ensures.opened c.in_ok-opened.ensures.loaded at c.in_ok-kind_of_directory-in-Changed.ensures.kind
