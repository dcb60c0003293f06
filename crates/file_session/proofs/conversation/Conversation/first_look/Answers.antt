use Rattle.file_session.proofs.Looks.{looks_at}
use Rattle.file_session.proofs.Turns.{looks_turn}
use Rattle.file_session.proofs.conversation.Conversation.first_look.Goals as goal

pub returns-clause-looked : goal.returns-clause-looked
returns-clause-looked g c =
    let q = c.args.question in
    let t = c.turn_of_look.ensures in
    looks_turn c.ask.new.client q c.ask.result c.turn_of_look.result (t.next q) t.told (t.awaits q c.ask.new.client c.ask.ensures.awaits) (looks_at _ _ _ q _ c.ask.ensures.leads)
