use Rattle.std.proofs.Common.{◌≡◌, Option, Some, None, false, sym, ap, subst, ◌∙◌}
use Rattle.std.specs.Prelude.{IfOk}
use Rattle.std.specs.Option.{option_map}
use Rattle.update_cert.specs.World.{Content, is_table}
use Rattle.tree_parts.specs.Part.{Laid, Changed, slot_here, slot_in}
use Rattle.client_tree.specs.Seen.{content_seen}
use Rattle.tree_parts.specs.Asked.{Lacks}
use Rattle.client_tree.specs.Opened.{IsLooked}
use Rattle.client_tree.proofs.OpenedLaws.{handed_on}
use Rattle.client_tree.proofs.LookLaws.{lacks_opening, lacks_there, look_stands, looked, looked_changed, looked_nothing}
use Rattle.client_tree.proofs.view.View.look.Goals as goal

pub returns-in_default-clause-seen : goal.returns-in_default-clause-seen
returns-in_default-clause-seen g c = λ reads users agrees.
    let is = c.in_ok-opened.ensures.opened in
    let x = c.args.self.now in
    let p = c.args.principal in
    let part = c.in_ok-opened.opened in
    let place : is_table p c.args.i_number ≡ false = sym c.is_table.ensures ∙ c.if-is_table.false in
    let at : slot_here part c.args.i_number ≡ None = sym c.into_slot.ensures ∙ ap (option_map slot_in) c.in_default.is in
    sym (look_stands (g.B.Blocks.held c.args.blocks.now) reads users x p c.args.i_number part None is agrees place c.in_ok-opened.ensures.loaded at)

pub returns-in-Laid-clause-seen : goal.returns-in-Laid-clause-seen
returns-in-Laid-clause-seen g c = λ reads users agrees.
    let is = c.in_ok-opened.ensures.opened in
    let x = c.args.self.now in
    let p = c.args.principal in
    let part = c.in_ok-opened.opened in
    let place : is_table p c.args.i_number ≡ false = sym c.is_table.ensures ∙ c.if-is_table.false in
    let at : slot_here part c.args.i_number ≡ Some (Laid c.in-Laid.digest) = sym c.into_slot.ensures ∙ ap (option_map slot_in) c.in-Some.is ∙ ap (λ s. Some (slot_in s)) c.in-Laid.is in
    let there = look_stands (g.B.Blocks.held c.args.blocks.now) reads users x p c.args.i_number part (Some (Laid c.in-Laid.digest)) is agrees place c.in_ok-opened.ensures.loaded at in
    subst (λ (content : Option Content). IfOk c.read_content.result (λ s. content_seen s ≡ content)) (sym there) (c.read_content.ensures.seen reads agrees)

pub returns-in-Laid-clause-taken : goal.returns-in-Laid-clause-taken
returns-in-Laid-clause-taken g c = λ place.
    let is = c.in_ok-opened.ensures.opened in
    let part = c.in_ok-opened.opened in
    let at : slot_here part c.args.i_number ≡ Some (Laid c.in-Laid.digest) = sym c.into_slot.ensures ∙ ap (option_map slot_in) c.in-Some.is ∙ ap (λ s. Some (slot_in s)) c.in-Laid.is in
    looked (g.B.Blocks.held c.args.blocks.now) c.args.self.now c.args.principal c.args.i_number part c.in-Laid.digest c.read_content.result is c.in_ok-opened.ensures.loaded at c.read_content.ensures.taken

pub returns-in-Changed-clause-seen : goal.returns-in-Changed-clause-seen
returns-in-Changed-clause-seen g c = λ reads users agrees.
    let is = c.in_ok-opened.ensures.opened in
    let x = c.args.self.now in
    let p = c.args.principal in
    let part = c.in_ok-opened.opened in
    let place : is_table p c.args.i_number ≡ false = sym c.is_table.ensures ∙ c.if-is_table.false in
    let at : slot_here part c.args.i_number ≡ Some (Changed c.in-Changed._laid c.in-Changed.directory) = sym c.into_slot.ensures ∙ ap (option_map slot_in) c.in-Some.is ∙ ap (λ s. Some (slot_in s)) c.in-Changed.is in
    sym (look_stands (g.B.Blocks.held c.args.blocks.now) reads users x p c.args.i_number part (Some (Changed c.in-Changed._laid c.in-Changed.directory)) is agrees place c.in_ok-opened.ensures.loaded at)

-- ---- nothing of it is missing

pub returns-in_default-clause-taken : goal.returns-in_default-clause-taken
returns-in_default-clause-taken g c = λ place.
    let part = c.in_ok-opened.opened in
    let at : slot_here part c.args.i_number ≡ None = sym c.into_slot.ensures ∙ ap (option_map slot_in) c.in_default.is in
    looked_nothing (g.B.Blocks.held c.args.blocks.now) c.args.self.now c.args.principal c.args.i_number part c.in_ok-opened.ensures.opened c.in_ok-opened.ensures.loaded at

pub returns-in-Changed-clause-taken : goal.returns-in-Changed-clause-taken
returns-in-Changed-clause-taken g c = λ place.
    let part = c.in_ok-opened.opened in
    let at : slot_here part c.args.i_number ≡ Some (Changed c.in-Changed._laid c.in-Changed.directory) = sym c.into_slot.ensures ∙ ap (option_map slot_in) c.in-Some.is ∙ ap (λ s. Some (slot_in s)) c.in-Changed.is in
    looked_changed (g.B.Blocks.held c.args.blocks.now) c.args.self.now c.args.principal c.args.i_number part c.in-Changed._laid c.in-Changed.directory c.in_ok-opened.ensures.opened c.in_ok-opened.ensures.loaded at

-- ---- or what is missing is told

pub returns-in_err-opened-clause-missing : goal.returns-in_err-opened-clause-missing
returns-in_err-opened-clause-missing g c =
    let held = g.B.Blocks.held c.args.blocks.now in
    let x = c.args.self.now in
    let p = c.args.principal in
    let e = c.in_err-opened.field-0.0 in
    let place : is_table p c.args.i_number ≡ false = sym c.is_table.ensures ∙ c.if-is_table.false in
    handed_on c.from_residual-in_err-opened.result e (Lacks held (IsLooked held x p c.args.i_number)) c.from_residual-in_err-opened.ensures.1 (lacks_opening held x p c.args.i_number e place c.in_err-opened.ensures.missing)

pub returns-in-Laid-clause-missing : goal.returns-in-Laid-clause-missing
returns-in-Laid-clause-missing g c =
    let p = c.args.principal in
    let part = c.in_ok-opened.opened in
    let place : is_table p c.args.i_number ≡ false = sym c.is_table.ensures ∙ c.if-is_table.false in
    let at : slot_here part c.args.i_number ≡ Some (Laid c.in-Laid.digest) = sym c.into_slot.ensures ∙ ap (option_map slot_in) c.in-Some.is ∙ ap (λ s. Some (slot_in s)) c.in-Laid.is in
    lacks_there (g.B.Blocks.held c.args.blocks.now) c.args.self.now p c.args.i_number part c.in-Laid.digest c.read_content.result place c.in_ok-opened.ensures.opened c.in_ok-opened.ensures.loaded at c.read_content.ensures.missing
