use Rattle.std.proofs.Common.{◌≡◌, None, Some, ap, refl, rules, subst, sym, ◌∙◌}
use Rattle.checked_blocks.specs.CheckedBlocks.{TakesUp, known_blocks}
use Rattle.reply_check.specs.Reached.{IsAnswer}
use Rattle.reply_check.specs.FirstBroken.{view_over}
use Rattle.client_verify.specs.State.{State, AcceptedView}
use Rattle.client_verify.proofs.Holds.{looked_holds, meanwhile_after}
use Rattle.client_verify.proofs.Steps.{if_some, looked_from, shown_there}
use Rattle.client_verify.proofs.client.Client.begin_look.Goals as goal

pub answer-requires-clause-shown : goal.answer-requires-clause-shown
answer-requires-clause-shown g c =
    let v = c.in-Some.view in
    let b = c.take_up.new.self in
    let there : c.self.inside.view ≡ Some v = search rules in
    let table : c.table.result.now ≡ v.table = c.table.ensures ∙ ap (λ (w : AcceptedView). w.table) c.view.view_is in
    let lists : c.lists.result.now ≡ v.lists = c.lists.ensures ∙ ap (λ (w : AcceptedView). w.lists) c.view.view_is in
    if_some c.self.inside.view v (λ w. IsAnswer (known_blocks b) (view_over c.self.inside.pinned w.table w.lists) c.args.question c.in_ok-shown.shown) there
    (shown_there c.self.inside.blocks b c.self.inside.pinned c.self.inside.pinned c.table.result.now c.lists.result.now v c.args.question c.in_ok-shown.shown (sym c.in-Ok.ensures.taken.known) refl table lists c.in_ok-shown.ensures)

pub returns-in-Ok-clause-looked : goal.returns-in-Ok-clause-looked
returns-in-Ok-clause-looked g c =
    let old = c.args.self.now in
    let v = c.in-Some.view in
    let b = c.take_up.new.self in
    let there : old.view ≡ Some v = search rules in
    let taken : TakesUp old.blocks b = subst (λ (s : State). TakesUp s.blocks b) c.self.view_is c.in-Ok.ensures.taken in
    if_some old.view v _ there (looked_from _ old old v c.args.question b c.answer.result c.answer.new.self c.self.view_is refl taken.known there c.answer.ensures.looked)

pub returns-in-Ok-clause-held : goal.returns-in-Ok-clause-held
returns-in-Ok-clause-held g c =
    let old = c.args.self.now in
    let v = c.in-Some.view in
    let b = c.take_up.new.self in
    let there : old.view ≡ Some v = search rules in
    let taken : TakesUp old.blocks b = subst (λ (s : State). TakesUp s.blocks b) c.self.view_is c.in-Ok.ensures.taken in
    let told = looked_from _ old old v c.args.question b c.answer.result c.answer.new.self c.self.view_is refl taken.known there c.answer.ensures.looked in
    looked_holds old old None v c.args.question c.answer.result c.answer.new.self told (meanwhile_after old.blocks b c.answer.new.self taken c.answer.ensures.held)
