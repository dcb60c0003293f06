use Rattle.std.proofs.Common.{◌≡◌, Some, None, refl, subst, sym, ap, ◌∙◌, rules}
use Rattle.std.specs.Option.{option_copied}
use Rattle.checked_blocks.specs.CheckedBlocks.{TakesUp, holding as with_held, known_blocks}
use Rattle.reply_check.specs.Reached.{IsAnswer}
use Rattle.reply_check.specs.FirstBroken.{view_over}
use Rattle.client_verify.specs.Holding.{LookHoldsAfter}
use Rattle.client_verify.specs.State.{AcceptedView, State, holding}
use Rattle.reply_check.specs.AskedBlock.{block_breaks}
use Rattle.client_verify.proofs.Holds.{looked_holds, meanwhile_after}
use Rattle.client_verify.proofs.Steps.{given_from, if_some, looked_from, shown_there}
use Rattle.client_verify.proofs.client.Client.take_given.Goals as goal

pub returns-in-Ok-hold-clause-given : goal.returns-in-Ok-hold-clause-given
returns-in-Ok-hold-clause-given g c =
    let old = c.args.self.now in
    let v = c.in-Some.view in
    let l = c.in-Some-looking.looking in
    let text = c.in-Ok.text.now in
    let b = c.hold.new.blocks in
    let none : block_breaks (known_blocks old.blocks) l.asked (option_copied c.args.block) ≡ None = search rules in
    let is : option_copied c.args.block ≡ Some text = search rules in
    let taken : TakesUp (with_held old.blocks text) b = subst (λ (s : State). TakesUp (with_held s.blocks text) b) c.self.view_is c.in-Ok-hold.ensures.taken in
    let there : old.view ≡ Some v = search rules in
    let under_way : v.looking ≡ Some l = search rules in
    if_some old.view v _ there (if_some v.looking l _ under_way (given_from _ old v l b (option_copied c.args.block) text c.answer.result c.answer.new.self c.self.view_is taken.known there none is c.answer.ensures.looked))

pub returns-in-Ok-hold-clause-held : goal.returns-in-Ok-hold-clause-held
returns-in-Ok-hold-clause-held g c =
    let old = c.args.self.now in
    let v = c.in-Some.view in
    let l = c.in-Some-looking.looking in
    let text = c.in-Ok.text.now in
    let b = c.hold.new.blocks in
    let is : option_copied c.args.block ≡ Some text = search rules in
    let there : old.view ≡ Some v = search rules in
    let taken : TakesUp (with_held old.blocks text) b = subst (λ (s : State). TakesUp (with_held s.blocks text) b) c.self.view_is c.in-Ok-hold.ensures.taken in
    let told = looked_from _ old (holding old text) v l.question b c.answer.result c.answer.new.self c.self.view_is refl taken.known there c.answer.ensures.looked in
    subst (λ (o : _). LookHoldsAfter old o c.answer.result c.answer.new.self) (sym is)
    (looked_holds (holding old text) old (Some text) v l.question c.answer.result c.answer.new.self told (meanwhile_after (with_held old.blocks text) b c.answer.new.self taken c.answer.ensures.held))

pub answer-requires-clause-shown : goal.answer-requires-clause-shown
answer-requires-clause-shown g c =
    let v = c.in-Some.view in
    let l = c.in-Some-looking.looking in
    let b = c.hold.new.blocks in
    let there : c.self.inside.view ≡ Some v = search rules in
    let table : c.table.result.now ≡ v.table = c.table.ensures ∙ ap (λ (w : AcceptedView). w.table) c.view.view_is in
    let lists : c.lists.result.now ≡ v.lists = c.lists.ensures ∙ ap (λ (w : AcceptedView). w.lists) c.view.view_is in
    if_some c.self.inside.view v (λ w. IsAnswer (known_blocks b) (view_over c.self.inside.pinned w.table w.lists) l.question c.in_ok-shown.shown) there
    (shown_there (with_held c.self.inside.blocks c.in-Ok.text.now) b c.self.inside.pinned c.self.inside.pinned c.table.result.now c.lists.result.now v l.question c.in_ok-shown.shown (sym c.in-Ok-hold.ensures.taken.known) refl table lists c.in_ok-shown.ensures)
