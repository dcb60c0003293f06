use Rattle.std.proofs.Common.{◌≡◌, ◌⊎◌, inl, inr, ◌+◌, ◌++◌, ◌<◌, ◌^◌, ℕ, Bool, true, false, length, drop, get_or, is_some, sym, ◌∙◌, subst, arith, length-take}
use Rattle.std.proofs.lemmas.Bool.{eqb-true}
use Rattle.leaf_ledger.specs.Device.{History}
use Rattle.leaf_ledger.specs.declared.extent.Extent.{Extent}
use Rattle.client_journal.specs.Records.{Record, next_state, spelled, IsOtherKind, EndsEarly}
use Rattle.client_journal.specs.Places.{part, state_at}
use Rattle.client_journal.specs.declared.kind.Kind.{Kind}
use Rattle.client_journal.specs.declared.phase.Phase.{Phase}
use Rattle.client_journal.proofs.Turns.{none_there, there}
use Rattle.client_journal.proofs.Reached.{same_error, below_later, damaged, further}
use Rattle.client_journal.proofs.chain.advance.Goals as goal

-- what was read of a device that stayed as it was
spelled_before : (old new : History) (at : ℕ) (kind : Kind) (text : Extent) → new ≡ old
    → drop at new.now.text ≡ spelled (record { kind = kind; text = part text new.now.text }) ++ drop (text.at + text.size) new.now.text
    → drop at old.now.text ≡ spelled (record { kind = kind; text = part text old.now.text }) ++ drop (text.at + text.size) old.now.text
spelled_before old new at kind text same is =
    subst (λ (h : History). drop at h.now.text ≡ spelled (record { kind = kind; text = part text h.now.text }) ++ drop (text.at + text.size) h.now.text) same is

-- and what was asked of it
turn_before : (old new : History) (at : Phase) (kind : Kind) (text : Extent) (answer : Bool) → new ≡ old → answer ≡ is_some (next_state (state_at new.now.text at) kind (part text new.now.text))
    → is_some (next_state (state_at old.now.text at) kind (part text old.now.text)) ≡ answer
turn_before old new at kind text answer same is = sym (subst (λ (h : History). answer ≡ is_some (next_state (state_at h.now.text at) kind (part text h.now.text))) same is)

no_record : {A B C : Type 0} → A ⊎ B → A ⊎ (C ⊎ B)
no_record (inl other) = inl other
no_record (inr early) = inr (inr early)

pub returns-in-Err-clause-damaged : goal.returns-in-Err-clause-damaged
returns-in-Err-clause-damaged g c e =
    let old = g.D.Device.history c.args.device.now in
    let gate = c.args.end.gate in
    let same = c.in_ok-is_open.ensures.same in
    let is_open = eqb-true (get_or old.now.text gate 0) 1 (sym c.in_ok-is_open.ensures.open ∙ c.if-not-branch.false) in
    damaged old.now.text gate c.args.end.phase c.requires.reaches (omega (arith, c.requires.size, c.requires.long)) is_open
    (no_record (subst (λ (h : History). IsOtherKind (drop (gate + 1) h.now.text) ⊎ EndsEarly (drop (gate + 1) h.now.text)) same (c.in-Err.ensures.damaged (same_error c.in-Err.error _ e))))

pub returns-else-not-branch-2-clause-further : goal.returns-else-not-branch-2-clause-further
returns-else-not-branch-2-clause-further g c =
    let old = g.D.Device.history c.args.device.now in
    let same = c.in-Ok.ensures.same ∙ c.in_ok-is_open.ensures.same in
    let gate = c.args.end.gate in
    let at = c.args.end.phase in
    let text = c.in-Ok.text in
    let place = c.in-Ok.ensures.place in
    let is_open = eqb-true (get_or old.now.text gate 0) 1 (sym c.in_ok-is_open.ensures.open ∙ c.if-not-branch.false) in
    let spells = spelled_before old (g.D.Device.history c.is_open.new.device) (gate + 1) c.in-Ok.kind text c.in_ok-is_open.ensures.same c.in-Ok.ensures.spelled in
    let turn = turn_before old (g.D.Device.history c.record_after.new.device) at c.in-Ok.kind text true same (sym c.if-not-branch-2.false ∙ c.in_ok-is_in_turn-in-Ok.ensures.yes) in
    let leads = there (next_state (state_at old.now.text at) c.in-Ok.kind (part text old.now.text)) (state_at old.now.text c.after.result) turn (c.after.ensures.next old.now.text) in (
      omega (arith, place.0),
      further old.now.text gate at c.requires.reaches c.in-Ok.kind text c.after.result is_open (omega (arith, place.1, c.requires.size)) place.2 spells leads
          (c.after.ensures.below (text.at + text.size) (below_later at gate (text.at + text.size) (omega (arith, place.0)) c.requires.reaches.below) (omega arith)),
    )

pub returns-then-not-branch-2-clause-damaged : goal.returns-then-not-branch-2-clause-damaged
returns-then-not-branch-2-clause-damaged g c e =
    let old = g.D.Device.history c.args.device.now in
    let same = c.in-Ok.ensures.same ∙ c.in_ok-is_open.ensures.same in
    let gate = c.args.end.gate in
    let at = c.args.end.phase in
    let text = c.in-Ok.text in
    let place = c.in-Ok.ensures.place in
    let end = text.at + text.size in
    let is_open = eqb-true (get_or old.now.text gate 0) 1 (sym c.in_ok-is_open.ensures.open ∙ c.if-not-branch.false) in
    let spells = spelled_before old (g.D.Device.history c.is_open.new.device) (gate + 1) c.in-Ok.kind text c.in_ok-is_open.ensures.same c.in-Ok.ensures.spelled in
    let r : Record = record { kind = c.in-Ok.kind; text = part text old.now.text } in
    let short : length r.text < 2 ^ 32 = omega (arith, length-take text.size (drop text.at old.now.text), place.2) in
    let turn = turn_before old (g.D.Device.history c.record_after.new.device) at c.in-Ok.kind text false same (sym c.if-not-branch-2.true ∙ c.in_ok-is_in_turn-in-Ok.ensures.yes) in
    damaged old.now.text gate at c.requires.reaches (omega (arith, c.requires.size, c.requires.long)) is_open
    (inr (inl (r, drop end old.now.text, spells, short, none_there (next_state (state_at old.now.text at) c.in-Ok.kind (part text old.now.text)) turn)))
