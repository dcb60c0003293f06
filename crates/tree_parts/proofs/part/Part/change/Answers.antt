use Rattle.std.proofs.Common.{◌≡◌, true, false, refl, sym, ap, subst, ◌∙◌}
use Rattle.std.specs.Prelude.{IfErr, OnOk}
use Rattle.std.proofs.lemmas.Result.{IfOk-weaker}
use Rattle.update_cert.specs.Change.{action_of}
use Rattle.update_cert.specs.World.{permitted, is_table}
use Rattle.tree_parts.specs.Asked.{Lacks, needs_slot}
use Rattle.tree_parts.specs.Acts.{HasFor, LiesBy, LiesFor, change_at}
use Rattle.tree_parts.specs.Part.{slot_at}
use Rattle.tree_parts.proofs.ActLaws.{permitted_is, not_permitted, of_table, slots_still, has_acted, slots_acted, unneeded}
use Rattle.tree_parts.proofs.AskedLaws.{asks_slot_it, each_by, handed_on, has_by, has_nothing, lacks_slot, not_permitted_asks, table_asks, unneeded_asks}
use Rattle.tree_parts.proofs.LoadLaws.{tried}
use Rattle.tree_parts.proofs.part.Part.change.Goals as goal

-- ---- where it isn't permitted

pub returns-then-not-is_permitted-clause-effect : goal.returns-then-not-is_permitted-clause-effect
returns-then-not-is_permitted-clause-effect g c = λ reads agrees actor of is.
    let part = c.args.self.now in
    let change = change_at part c.args.i_number (action_of c.args.action.now) in
    let not : permitted actor change ≡ false = permitted_is actor change part.table.principal c.args.user c.args.is_member refl of is ∙ rw c.principal.ensures.same at (sym c.is_permitted.ensures ∙ c.if-not-is_permitted.true) in
    sym (not_permitted reads actor change (slot_at reads part change.i_number) not)

pub returns-then-not-is_permitted-clause-slots : goal.returns-then-not-is_permitted-clause-slots
returns-then-not-is_permitted-clause-slots g c = λ reads agrees actor of is i.
    let part = c.args.self.now in
    let change = change_at part c.args.i_number (action_of c.args.action.now) in
    let not : permitted actor change ≡ false = permitted_is actor change part.table.principal c.args.user c.args.is_member refl of is ∙ rw c.principal.ensures.same at (sym c.is_permitted.ensures ∙ c.if-not-is_permitted.true) in
    slots_still reads actor change (slot_at reads part i) i (not_permitted reads actor change (slot_at reads part i) not)

pub returns-then-not-is_permitted-clause-taken : goal.returns-then-not-is_permitted-clause-taken
returns-then-not-is_permitted-clause-taken g c = λ actor of is.
    let part = c.args.self.now in
    let change = change_at part c.args.i_number (action_of c.args.action.now) in
    let not : permitted actor change ≡ false = permitted_is actor change part.table.principal c.args.user c.args.is_member refl of is ∙ rw c.principal.ensures.same at (sym c.is_permitted.ensures ∙ c.if-not-is_permitted.true) in
    has_nothing (g.B.Blocks.held c.args.blocks.now) actor part change (not_permitted_asks actor change not)

-- ---- at the place of the table of principals

pub returns-then-is_table-clause-effect : goal.returns-then-is_table-clause-effect
returns-then-is_table-clause-effect g c = λ reads agrees actor of is.
    let part = c.args.self.now in
    let change = change_at part c.args.i_number (action_of c.args.action.now) in
    let place : is_table change.principal change.i_number ≡ true = ap (λ p. is_table p change.i_number) (sym c.principal-2.ensures.same) ∙ sym c.is_table.ensures ∙ c.if-is_table.true in
    sym (of_table reads actor change (slot_at reads part change.i_number) place)

pub returns-then-is_table-clause-slots : goal.returns-then-is_table-clause-slots
returns-then-is_table-clause-slots g c = λ reads agrees actor of is i.
    let part = c.args.self.now in
    let change = change_at part c.args.i_number (action_of c.args.action.now) in
    let place : is_table change.principal change.i_number ≡ true = ap (λ p. is_table p change.i_number) (sym c.principal-2.ensures.same) ∙ sym c.is_table.ensures ∙ c.if-is_table.true in
    slots_still reads actor change (slot_at reads part i) i (of_table reads actor change (slot_at reads part i) place)

pub returns-then-is_table-clause-taken : goal.returns-then-is_table-clause-taken
returns-then-is_table-clause-taken g c = λ actor of is.
    let part = c.args.self.now in
    let change = change_at part c.args.i_number (action_of c.args.action.now) in
    let place : is_table change.principal change.i_number ≡ true = ap (λ p. is_table p change.i_number) (sym c.principal-2.ensures.same) ∙ sym c.is_table.ensures ∙ c.if-is_table.true in
    has_nothing (g.B.Blocks.held c.args.blocks.now) actor part change (table_asks actor change place)

-- ---- where it doesn't matter what stands there

pub returns-then-not-needs_slot-clause-effect : goal.returns-then-not-needs_slot-clause-effect
returns-then-not-needs_slot-clause-effect g c = λ reads agrees actor of is.
    let part = c.args.self.now in
    let change = change_at part c.args.i_number (action_of c.args.action.now) in
    let place : is_table change.principal change.i_number ≡ false = ap (λ p. is_table p change.i_number) (sym c.principal-2.ensures.same) ∙ sym c.is_table.ensures ∙ c.if-is_table.false in
    let none : needs_slot actor.user change.principal change.i_number change.action ≡ false = ap (λ u. needs_slot u part.table.principal c.args.i_number (action_of c.args.action.now)) of ∙ ap (λ p. needs_slot c.args.user p c.args.i_number (action_of c.args.action.now)) (sym c.principal-3.ensures.same) ∙ sym c.needs_slot.ensures ∙ c.if-not-needs_slot.true in
    sym (unneeded reads actor change (slot_at reads part change.i_number) place none)

pub returns-then-not-needs_slot-clause-slots : goal.returns-then-not-needs_slot-clause-slots
returns-then-not-needs_slot-clause-slots g c = λ reads agrees actor of is i.
    let part = c.args.self.now in
    let change = change_at part c.args.i_number (action_of c.args.action.now) in
    let place : is_table change.principal change.i_number ≡ false = ap (λ p. is_table p change.i_number) (sym c.principal-2.ensures.same) ∙ sym c.is_table.ensures ∙ c.if-is_table.false in
    let none : needs_slot actor.user change.principal change.i_number change.action ≡ false = ap (λ u. needs_slot u part.table.principal c.args.i_number (action_of c.args.action.now)) of ∙ ap (λ p. needs_slot c.args.user p c.args.i_number (action_of c.args.action.now)) (sym c.principal-3.ensures.same) ∙ sym c.needs_slot.ensures ∙ c.if-not-needs_slot.true in
    slots_still reads actor change (slot_at reads part i) i (unneeded reads actor change (slot_at reads part i) place none)

pub returns-then-not-needs_slot-clause-taken : goal.returns-then-not-needs_slot-clause-taken
returns-then-not-needs_slot-clause-taken g c = λ actor of is.
    let part = c.args.self.now in
    let change = change_at part c.args.i_number (action_of c.args.action.now) in
    let none : needs_slot actor.user change.principal change.i_number change.action ≡ false = ap (λ u. needs_slot u part.table.principal c.args.i_number (action_of c.args.action.now)) of ∙ ap (λ p. needs_slot c.args.user p c.args.i_number (action_of c.args.action.now)) (sym c.principal-3.ensures.same) ∙ sym c.needs_slot.ensures ∙ c.if-not-needs_slot.true in
    has_nothing (g.B.Blocks.held c.args.blocks.now) actor part change (unneeded_asks actor change none)

-- ---- where the chunk is missing

pub returns-in_err-load-clause-missing : goal.returns-in_err-load-clause-missing
returns-in_err-load-clause-missing g c = λ actor of is.
    let blocks = g.B.Blocks.held c.args.blocks.now in
    let part = c.args.self.now in
    let change = change_at part c.args.i_number (action_of c.args.action.now) in
    let e = c.in_err-load.field-0.0 in
    let may : permitted actor change ≡ true = permitted_is actor change part.table.principal c.args.user c.args.is_member refl of is ∙ rw c.principal.ensures.same at (sym c.is_permitted.ensures ∙ c.if-not-is_permitted.false) in
    let place : is_table change.principal change.i_number ≡ false = ap (λ p. is_table p change.i_number) (sym c.principal-2.ensures.same) ∙ sym c.is_table.ensures ∙ c.if-is_table.false in
    let needs : needs_slot actor.user change.principal change.i_number change.action ≡ true = ap (λ u. needs_slot u part.table.principal c.args.i_number (action_of c.args.action.now)) of ∙ ap (λ p. needs_slot c.args.user p c.args.i_number (action_of c.args.action.now)) (sym c.principal-3.ensures.same) ∙ sym c.needs_slot.ensures ∙ c.if-not-needs_slot.false in
    handed_on c.from_residual.result e (Lacks blocks (LiesBy blocks actor part change)) c.from_residual.ensures.1 (lacks_slot blocks actor part change e (asks_slot_it actor change may place needs) c.in_err-load.ensures.missing)

-- ---- where it is tried

pub returns-clause-effect : goal.returns-clause-effect
returns-clause-effect g c = λ reads agrees actor of is.
    let part = c.args.self.now in
    let held = c.load.new.self in
    let action = action_of c.args.action.now in
    let change = change_at part c.args.i_number action in
    let may : permitted actor change ≡ true = permitted_is actor change part.table.principal c.args.user c.args.is_member refl of is ∙ rw c.principal.ensures.same at (sym c.is_permitted.ensures ∙ c.if-not-is_permitted.false) in
    let place : is_table change.principal change.i_number ≡ false = ap (λ p. is_table p change.i_number) (sym c.principal-2.ensures.same) ∙ sym c.is_table.ensures ∙ c.if-is_table.false in
    let acts = tried reads actor c.args.i_number action part held c.act.new.self c.act.result c.in_ok-load.ensures.principal c.in_ok-load.ensures.loaded (c.in_ok-load.ensures.slots reads agrees) c.act.ensures.same (c.act.ensures.acts reads agrees actor of) in
    IfOk-weaker c.act.result _ _ (λ fitted done. has_acted reads actor change part c.act.new.self fitted place may done) acts

pub returns-clause-slots : goal.returns-clause-slots
returns-clause-slots g c = λ reads agrees actor of is.
    let part = c.args.self.now in
    let held = c.load.new.self in
    let action = action_of c.args.action.now in
    let change = change_at part c.args.i_number action in
    let may : permitted actor change ≡ true = permitted_is actor change part.table.principal c.args.user c.args.is_member refl of is ∙ rw c.principal.ensures.same at (sym c.is_permitted.ensures ∙ c.if-not-is_permitted.false) in
    let place : is_table change.principal change.i_number ≡ false = ap (λ p. is_table p change.i_number) (sym c.principal-2.ensures.same) ∙ sym c.is_table.ensures ∙ c.if-is_table.false in
    let acts = tried reads actor c.args.i_number action part held c.act.new.self c.act.result c.in_ok-load.ensures.principal c.in_ok-load.ensures.loaded (c.in_ok-load.ensures.slots reads agrees) c.act.ensures.same (c.act.ensures.acts reads agrees actor of) in
    IfOk-weaker c.act.result _ _ (λ fitted done i. slots_acted reads actor change part c.act.new.self fitted i place may done) acts

pub returns-clause-missing : goal.returns-clause-missing
returns-clause-missing g c = λ actor of is.
    let part = c.args.self.now in
    let held = c.load.new.self in
    let action = action_of c.args.action.now in
    let change = change_at part c.args.i_number action in
    let may : permitted actor change ≡ true = permitted_is actor change part.table.principal c.args.user c.args.is_member refl of is ∙ rw c.principal.ensures.same at (sym c.is_permitted.ensures ∙ c.if-not-is_permitted.false) in
    let place : is_table change.principal change.i_number ≡ false = ap (λ p. is_table p change.i_number) (sym c.principal-2.ensures.same) ∙ sym c.is_table.ensures ∙ c.if-is_table.false in
    let whose = c.in_ok-load.ensures.principal in
    each_by (g.B.Blocks.held c.args.blocks.now) actor part held change whose c.in_ok-load.ensures.loaded c.in_ok-load.ensures.slots c.act.result may place
    (subst (λ p. IfErr c.act.result (Lacks (g.B.Blocks.held c.args.blocks.now) (LiesFor (g.B.Blocks.held c.args.blocks.now) held (record { principal = p; i_number = c.args.i_number; action = action })))) whose c.act.ensures.missing)

pub returns-clause-taken : goal.returns-clause-taken
returns-clause-taken g c = λ actor of is.
    let part = c.args.self.now in
    let held = c.load.new.self in
    let action = action_of c.args.action.now in
    let change = change_at part c.args.i_number action in
    let place : is_table held.table.principal change.i_number ≡ false = ap (λ p. is_table p change.i_number) c.in_ok-load.ensures.principal ∙ ap (λ p. is_table p change.i_number) (sym c.principal-2.ensures.same) ∙ sym c.is_table.ensures ∙ c.if-is_table.false in
    let whose = c.in_ok-load.ensures.principal in
    has_by (g.B.Blocks.held c.args.blocks.now) actor part held change whose c.in_ok-load.ensures.loaded c.in_ok-load.ensures.slots c.act.result c.in_ok-load.ensures.taken
    (subst (λ p. OnOk c.act.result (HasFor (g.B.Blocks.held c.args.blocks.now) held (record { principal = p; i_number = c.args.i_number; action = action }))) whose (c.act.ensures.taken place))
