use Rattle.std.proofs.Common.{◌≡◌, true, List, Some, None, sym, ap, ◌∙◌, rules}
use Rattle.std.specs.Prelude.{slice_index_or, if◌then◌else◌}
use Rattle.std.specs.Option.{option_map}
use Rattle.directory.specs.Directory.{Entry, linked}
use Rattle.tree_parts.specs.declared.error.ApplyError.TheVariants.{Memory}
use Rattle.tree_parts.specs.Asked.{Lacks}
use Rattle.update_cert.specs.Change.{Link}
use Rattle.update_cert.specs.World.{Directory, has_room}
use Rattle.tree_parts.specs.Acts.{LiesAt, change_at, listed, stands_here}
use Rattle.tree_parts.specs.Part.{Part, opened_at}
use Rattle.tree_parts.proofs.PartLaws.{closed}
use Rattle.tree_parts.proofs.ActLaws.{is_part_edited, slot_edited, opened_there, edit_acts, open_acts, void_acts, stands_closed, makes_linked, no_room}
use Rattle.tree_parts.proofs.AskedLaws.{handed_on, has_opened}
use Rattle.tree_parts.proofs.part.Part.link.Goals as goal

pub invariant_of-self : goal.invariant_of-self
invariant_of-self g c =
    let old : Part = record { before = c.self.inside.before; table = c.self.inside.table; opened = c.self.inside.opened.items } in
    let at = rw c.deref.ensures.value at c.in-Ok.ensures in
    let here : c.index_mut.result.now ≡ slice_index_or c.self.inside.opened.items c.in-Ok.place c.index_mut.result.now = search rules in
    is_part_edited old c.args.i_number c.in-Ok.place c.index_mut.result.now c.link.new.self at here c.link.ensures.i_number c.self.invariant

pub invariant_of-self-in-Ok : goal.invariant_of-self-in-Ok
invariant_of-self-in-Ok g c =
    let old : Part = record { before = c.self.inside.before; table = c.self.inside.table; opened = c.self.inside.opened.items } in
    let at = rw c.deref.ensures.value at c.in-Ok.ensures in
    let here : c.index_mut.result.now ≡ slice_index_or c.self.inside.opened.items c.in-Ok.place c.index_mut.result.now = search rules in
    is_part_edited old c.args.i_number c.in-Ok.place c.index_mut.result.now c.link.new.self at here c.link.ensures.i_number c.self.invariant

pub returns-in-Ok-clause-acts : goal.returns-in-Ok-clause-acts
returns-in-Ok-clause-acts g c = λ reads agrees actor.
    let old : Part = record { before = c.self.inside.before; table = c.self.inside.table; opened = c.self.inside.opened.items } in
    let i = c.args.i_number in
    let d = c.index_mut.result.now in
    let o = c.link.new.self in
    let at = rw c.deref.ensures.value at c.in-Ok.ensures in
    let here : d ≡ slice_index_or c.self.inside.opened.items c.in-Ok.place d = search rules in
    let there = opened_there old i c.in-Ok.place d o at here c.link.ensures.i_number in
    let slots = slot_edited old i c.in-Ok.place d o at here c.link.ensures.i_number c.self.invariant in
    rw (← c.self.view_is) (edit_acts reads actor (change_at old i (Link c.args.entry.now)) old _ (linked d.entries c.args.entry.now) d.entries o.entries c.in_ok-fitted-in-Ok.fitted c.self.invariant there c.in_ok-fitted-in-Ok.ensures.room slots (makes_linked reads d.entries c.args.entry.now) c.in_ok-fitted-in-Ok.ensures.entries)

-- no directory stands there
pub returns-in_default-clause-acts : goal.returns-in_default-clause-acts
returns-in_default-clause-acts g c = λ reads agrees actor.
    let part = c.args.self.now in
    let i = c.args.i_number in
    let free = rw c.deref.ensures.value at c.in-Err.ensures in
    let none : opened_at part i ≡ None = rw (← c.self.view_is) (ap (option_map (λ x. x.entries)) free.found) in
    let nothing = sym c.in_default.is ∙ c.in_ok-directory.ensures.found reads agrees ∙ ap listed (sym (closed reads part i none)) in
    void_acts reads actor (change_at part i (Link c.args.entry.now)) part (no_room c.args.entry.now.name (stands_here reads part i) nothing)

-- what was read doesn't take it
pub returns-then-not-branch-clause-acts : goal.returns-then-not-branch-clause-acts
returns-then-not-branch-clause-acts g c = λ reads agrees actor.
    let part = c.args.self.now in
    let i = c.args.i_number in
    let es = c.in-Some.directory in
    let free = rw c.deref.ensures.value at c.in-Err.ensures in
    let none : opened_at part i ≡ None = rw (← c.self.view_is) (ap (option_map (λ x. x.entries)) free.found) in
    let here = stands_closed reads part i es none (sym c.in-Some.is ∙ c.in_ok-directory.ensures.found reads agrees) in
    let entries = ap (λ o. o.entries) c.new-open.ensures in
    void_acts reads actor (change_at part i (Link c.args.entry.now)) part
    (ap (has_room c.args.entry.now.name) here ∙ ap (λ (xs : List Entry). has_room c.args.entry.now.name (Some (Directory xs))) (sym entries) ∙ sym c.in_ok-link.ensures.room ∙ c.if-not-branch.true)

-- or it does
pub returns-clause-acts : goal.returns-clause-acts
returns-clause-acts g c = λ reads agrees actor.
    let part = c.args.self.now in
    let i = c.args.i_number in
    let es = c.in-Some.directory in
    let o = c.link-2.new.self in
    let free = rw c.deref.ensures.value at c.in-Err.ensures in
    let none : opened_at part i ≡ None = rw (← c.self.view_is) (ap (option_map (λ x. x.entries)) free.found) in
    let here = stands_closed reads part i es none (sym c.in-Some.is ∙ c.in_ok-directory.ensures.found reads agrees) in
    let entries = ap (λ x. x.entries) c.new-open.ensures in
    let key = c.in_ok-link.ensures.i_number ∙ ap (λ x. x.i_number) c.new-open.ensures in
    let fit = sym c.if-not-branch.false ∙ c.in_ok-link.ensures.room ∙ ap (λ (xs : List Entry). has_room c.args.entry.now.name (Some (Directory xs))) entries in
    let made : o.entries ≡ linked es c.args.entry.now = c.in_ok-link.ensures.entries ∙ ap (λ t. if t then linked c.new-open.result.entries c.args.entry.now else c.new-open.result.entries) c.if-not-branch.false ∙ ap (λ (xs : List Entry). linked xs c.args.entry.now) entries in
    open_acts reads actor (change_at part i (Link c.args.entry.now)) part _ (linked es c.args.entry.now) es o.entries here fit (rw key at c.in_ok-open_at.ensures.slots) (makes_linked reads es c.args.entry.now) made

-- ---- nothing of it is missing

pub returns-in-Ok-clause-taken : goal.returns-in-Ok-clause-taken
returns-in-Ok-clause-taken g c =
    let old : Part = record { before = c.self.inside.before; table = c.self.inside.table; opened = c.self.inside.opened.items } in
    let d = c.index_mut.result.now in
    let at = rw c.deref.ensures.value at c.in-Ok.ensures in
    let here : d ≡ slice_index_or c.self.inside.opened.items c.in-Ok.place d = search rules in
    let there = opened_there old c.args.i_number c.in-Ok.place d c.link.new.self at here c.link.ensures.i_number in
    rw (← c.self.view_is) (has_opened (g.B.Blocks.held c.args.blocks.now) old c.args.i_number true d.entries there)

pub returns-in_default-clause-taken : goal.returns-in_default-clause-taken
returns-in_default-clause-taken g c = c.in_ok-directory.ensures.taken

pub returns-then-not-branch-clause-taken : goal.returns-then-not-branch-clause-taken
returns-then-not-branch-clause-taken g c = c.in_ok-directory.ensures.taken

pub returns-clause-taken : goal.returns-clause-taken
returns-clause-taken g c = c.in_ok-directory.ensures.taken

-- ---- or what is missing is told

pub returns-in_err-directory-clause-missing : goal.returns-in_err-directory-clause-missing
returns-in_err-directory-clause-missing g c =
    let blocks = g.B.Blocks.held c.args.blocks.now in
    handed_on c.from_residual-in_err-directory.result c.in_err-directory.field-0.0 (Lacks blocks (LiesAt blocks c.args.self.now c.args.i_number true)) c.from_residual-in_err-directory.ensures.1 c.in_err-directory.ensures.missing

pub returns-in_err-fitted-in-Ok-clause-missing : goal.returns-in_err-fitted-in-Ok-clause-missing
returns-in_err-fitted-in-Ok-clause-missing g c =
    let blocks = g.B.Blocks.held c.args.blocks.now in
    handed_on c.from_residual.result Memory (Lacks blocks (LiesAt blocks c.args.self.now c.args.i_number true)) c.from_residual.ensures.1 tt

pub returns-in_err-link-clause-missing : goal.returns-in_err-link-clause-missing
returns-in_err-link-clause-missing g c =
    let blocks = g.B.Blocks.held c.args.blocks.now in
    handed_on c.from_residual-in_err-link.result Memory (Lacks blocks (LiesAt blocks c.args.self.now c.args.i_number true)) c.from_residual-in_err-link.ensures.1 tt

pub returns-in_err-open_at-clause-missing : goal.returns-in_err-open_at-clause-missing
returns-in_err-open_at-clause-missing g c =
    let blocks = g.B.Blocks.held c.args.blocks.now in
    handed_on c.from_residual-in_err-open_at.result Memory (Lacks blocks (LiesAt blocks c.args.self.now c.args.i_number true)) c.from_residual-in_err-open_at.ensures.1 tt
