use Rattle.std.proofs.Common.{refl, subst, Option}
use Rattle.std.proofs.lemmas.Result.{err_from_is_err_and}
use Rattle.layout.specs.Types.{Bytes}
use Rattle.client_steps.specs.Anywhere.{on_ok, seen}
use Rattle.file_session.specs.Calls.{Gives, Leads}
use Rattle.file_session.proofs.Runs.{went_none}
use Rattle.file_session.proofs.Looks.{looks_on, looks_no_more, quiet}
use Rattle.file_session.proofs.Turns.{looks_turn, waits_in_view}
use Rattle.file_session.proofs.conversation.Conversation.next_look.Goals as goal

pub returns-in_err-block-clause-looked : goal.returns-in_err-block-clause-looked
returns-in_err-block-clause-looked g c =
    let p = err_from_is_err_and c.from_residual.result c.from_residual.ensures.1 in
    λ q waits. rw (p.1, p.2) (looks_no_more _ _ _ _ _ q _ _ _ (quiet _ (went_none _) (λ tree. tt)) refl c.in_err-block.ensures (λ tree. tt))

pub returns-clause-looked : goal.returns-clause-looked
returns-clause-looked g c =
    let t = c.turn_of_look.ensures in
    let e = c.give.ensures in
    λ q waits.
    let P : Option Bytes → Type 0 = λ b. Leads c.args.self.now.client (Gives q b (on_ok seen c.give.result)) c.give.new.client in
    looks_turn c.give.new.client q c.give.result c.turn_of_look.result (t.next q) t.told (t.awaits q c.give.new.client (e.awaits q waits))
    (looks_on _ _ _ _ _ _ q _ _ _ (quiet _ (went_none _) (λ tree. tt)) refl c.in_ok-block.ensures (subst P c.text_of-text.ensures (e.leads q)))

pub returns-clause-awaits : goal.returns-clause-awaits
returns-clause-awaits g c = λ q waits. c.turn_of_look.ensures.awaits q c.give.new.client (c.give.ensures.awaits q waits)

pub returns-in_err-block-clause-view : goal.returns-in_err-block-clause-view
returns-in_err-block-clause-view g c = waits_in_view c.requires.0 c.args.self.now.client c.requires.1

pub returns-clause-fewer : goal.returns-clause-fewer
returns-clause-fewer g c = c.turn_of_look.ensures.fewer c.args.self.now.client c.give.new.client c.give.ensures.fewer
