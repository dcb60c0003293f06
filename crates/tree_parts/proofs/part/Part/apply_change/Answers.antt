use Rattle.std.proofs.Common.{◌≡◌, ◌≢◌, ℕ, true, refl, sym, ap, subst, ◌∙◌, rules}
use Rattle.std.specs.Prelude.{◌==◌, if◌then◌else◌}
use Rattle.layout.specs.Types.{Digest}
use Rattle.tree_parts.specs.declared.error.ApplyError.{ApplyError}
use Rattle.update_cert.specs.Change.{Change, action_of, any_action_of}
use Rattle.update_cert.specs.World.{changes_table, is_table}
use Rattle.tree_parts.specs.Part.{slot_at}
use Rattle.tree_parts.specs.Slots.{slot_changes, slot_after_change}
use Rattle.tree_parts.specs.Asked.{Lacks}
use Rattle.tree_parts.specs.Acts.{HasBy, LiesBy}
use Rattle.update_cert.proofs.EffectLaws.{at_table}
use Rattle.tree_parts.proofs.ActLaws.{is_change, is_other, is_tables, not_of_part, of_table, slots_still, part_foreign, part_followed, void_followed}
use Rattle.tree_parts.proofs.AskedLaws.{handed_on, has_nothing, table_asks}
use Rattle.tree_parts.proofs.TreeLaws.{slot_own, slot_foreign}
use Rattle.tree_parts.proofs.part.Part.apply_change.Goals as goal

pub returns-then-get-clause-slots : goal.returns-then-get-clause-slots
returns-then-get-clause-slots g c = λ reads agrees actor of is i.
    let part = c.args.self.now in
    let change = c.args.change.now in
    let other : change.principal ≢ part.table.principal = search rules in
    slot_foreign reads actor part.table.principal i change (slot_at reads part i) other

pub returns-then-get-clause-part : goal.returns-then-get-clause-part
returns-then-get-clause-part g c = λ reads agrees tree actor stood of is.
    let part = c.args.self.now in
    let change = c.args.change.now in
    let other : change.principal ≢ part.table.principal = search rules in
    part_foreign reads actor change part tree other stood

-- ---- a change of the table leaves each part

pub returns-in-OfTable-clause-slots : goal.returns-in-OfTable-clause-slots
returns-in-OfTable-clause-slots g c = λ reads agrees actor of is i.
    let part = c.args.self.now in
    let change = c.args.change.now in
    let own : change.principal ≡ part.table.principal = search rules in
    let tables : changes_table change.action ≡ true = ap changes_table (sym c.action.ensures ∙ ap any_action_of c.in-OfTable.is) ∙ is_tables c.in-OfTable.field-0 in
    let place : is_table change.principal change.i_number ≡ true = at_table change c.principal.ensures.fits tables in
    slot_own reads actor part.table.principal i change (slot_at reads part i) (slot_at reads part i) own (slots_still reads actor change (slot_at reads part i) i (of_table reads actor change (slot_at reads part i) place))

pub returns-in-OfTable-clause-part : goal.returns-in-OfTable-clause-part
returns-in-OfTable-clause-part g c = λ reads agrees tree actor stood of is.
    let part = c.args.self.now in
    let change = c.args.change.now in
    let own : change.principal ≡ part.table.principal = search rules in
    let tables : changes_table change.action ≡ true = ap changes_table (sym c.action.ensures ∙ ap any_action_of c.in-OfTable.is) ∙ is_tables c.in-OfTable.field-0 in
    let place : is_table change.principal change.i_number ≡ true = at_table change c.principal.ensures.fits tables in
    part_followed reads actor change part part tree own refl (λ i. slots_still reads actor change (slot_at reads part i) i (of_table reads actor change (slot_at reads part i) place)) stood

pub returns-in-OfTable-clause-void : goal.returns-in-OfTable-clause-void
returns-in-OfTable-clause-void g c = λ reads agrees tree actor stood of is.
    let change = c.args.change.now in
    let tables : changes_table change.action ≡ true = ap changes_table (sym c.action.ensures ∙ ap any_action_of c.in-OfTable.is) ∙ is_tables c.in-OfTable.field-0 in
    not_of_part actor c.args.self.now.table.principal change tree tables

-- ---- one that is done in the part

pub returns-in_err-effect-in-At-clause-missing : goal.returns-in_err-effect-in-At-clause-missing
returns-in_err-effect-in-At-clause-missing g c = λ actor of is.
    let part = c.args.self.now in
    let change = c.args.change.now in
    let blocks = g.B.Blocks.held c.args.blocks.now in
    let e = c.in_err-effect-in-At.field-0.0 in
    let own : change.principal ≡ part.table.principal = search rules in
    let at = is_change change part c.i_number-i_number.result (action_of c.in-At.action) own c.i_number-i_number.ensures (sym (ap any_action_of c.in-At.is) ∙ c.action.ensures) in
    let lacks : Lacks blocks (LiesBy blocks actor part change) e = subst (λ (x : Change Digest). Lacks blocks (LiesBy blocks actor part x) e) at (c.in_err-effect-in-At.ensures.missing actor of is) in
    handed_on c.from_residual.result e (λ (x : ApplyError). (change.principal ≡ part.table.principal) × Lacks blocks (LiesBy blocks actor part change) x) c.from_residual.ensures.1 (own, lacks)

pub returns-in_ok-effect-in-At-clause-part : goal.returns-in_ok-effect-in-At-clause-part
returns-in_ok-effect-in-At-clause-part g c = λ reads agrees tree actor stood of is.
    let part = c.args.self.now in
    let change = c.args.change.now in
    let own : change.principal ≡ part.table.principal = search rules in
    let at = is_change change part c.i_number-i_number.result (action_of c.in-At.action) own c.i_number-i_number.ensures (sym (ap any_action_of c.in-At.is) ∙ c.action.ensures) in
    let slots = subst (λ (x : Change Digest). (k : ℕ) → slot_at reads c.change.new.self k ≡ (if x.i_number == k then slot_after_change reads actor x (slot_at reads part k) else slot_at reads part k)) at (c.in_ok-effect-in-At.ensures.slots reads agrees actor of is) in
    part_followed reads actor change part c.change.new.self tree own c.in_ok-effect-in-At.ensures.principal slots stood

pub returns-in_ok-effect-in-At-clause-slots : goal.returns-in_ok-effect-in-At-clause-slots
returns-in_ok-effect-in-At-clause-slots g c = λ reads agrees actor of is i.
    let part = c.args.self.now in
    let change = c.args.change.now in
    let own : change.principal ≡ part.table.principal = search rules in
    let at = is_change change part c.i_number-i_number.result (action_of c.in-At.action) own c.i_number-i_number.ensures (sym (ap any_action_of c.in-At.is) ∙ c.action.ensures) in
    let slots = subst (λ (x : Change Digest). (k : ℕ) → slot_at reads c.change.new.self k ≡ (if x.i_number == k then slot_after_change reads actor x (slot_at reads part k) else slot_at reads part k)) at (c.in_ok-effect-in-At.ensures.slots reads agrees actor of is) in
    slot_own reads actor part.table.principal i change (slot_at reads part i) (slot_at reads c.change.new.self i) own (slots i)

pub returns-in_ok-effect-in-At-clause-void : goal.returns-in_ok-effect-in-At-clause-void
returns-in_ok-effect-in-At-clause-void g c = λ reads agrees tree actor stood of is.
    let part = c.args.self.now in
    let change = c.args.change.now in
    let own : change.principal ≡ part.table.principal = search rules in
    let at = is_change change part c.i_number-i_number.result (action_of c.in-At.action) own c.i_number-i_number.ensures (sym (ap any_action_of c.in-At.is) ∙ c.action.ensures) in
    let told = subst (λ (x : Change Digest). c.in_ok-effect-in-At.effect ≡ slot_changes reads actor x (slot_at reads part x.i_number)) at (c.in_ok-effect-in-At.ensures.effect reads agrees actor of is) in
    let other = ap changes_table (sym c.action.ensures ∙ ap any_action_of c.in-At.is) ∙ is_other c.in-At.action in
    void_followed reads actor change part tree c.in_ok-effect-in-At.effect own other stood told

-- ---- nothing of it is missing

pub returns-then-get-clause-taken : goal.returns-then-get-clause-taken
returns-then-get-clause-taken g c = λ actor of is own.
    let other : c.args.change.now.principal ≢ c.args.self.now.table.principal = search rules in
    absurd (other own)

pub returns-in-OfTable-clause-taken : goal.returns-in-OfTable-clause-taken
returns-in-OfTable-clause-taken g c = λ actor of is own.
    let change = c.args.change.now in
    let tables : changes_table change.action ≡ true = ap changes_table (sym c.action.ensures ∙ ap any_action_of c.in-OfTable.is) ∙ is_tables c.in-OfTable.field-0 in
    let place : is_table change.principal change.i_number ≡ true = at_table change c.principal.ensures.fits tables in
    has_nothing (g.B.Blocks.held c.args.blocks.now) actor c.args.self.now change (table_asks actor change place)

pub returns-in_ok-effect-in-At-clause-taken : goal.returns-in_ok-effect-in-At-clause-taken
returns-in_ok-effect-in-At-clause-taken g c = λ actor of is own.
    let part = c.args.self.now in
    let change = c.args.change.now in
    let at = is_change change part c.i_number-i_number.result (action_of c.in-At.action) own c.i_number-i_number.ensures (sym (ap any_action_of c.in-At.is) ∙ c.action.ensures) in
    subst (λ (x : Change Digest). HasBy (g.B.Blocks.held c.args.blocks.now) actor part x) at (c.in_ok-effect-in-At.ensures.taken actor of is)
