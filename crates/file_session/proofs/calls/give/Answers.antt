use Rattle.std.specs.Option.{option_copied}
use Rattle.client_steps.specs.Anywhere.{on_ok, seen}
use Rattle.client_steps.proofs.Heard.{given_to}
use Rattle.file_session.specs.Calls.{Gives}
use Rattle.file_session.proofs.Steps.{given_fewer, given_more, leads, some_looking}
use Rattle.file_session.proofs.calls.give.Goals as goal

pub returns-clause-leads : goal.returns-clause-leads
returns-clause-leads g c =
    let e = c.give-look.ensures in
    let after = c.type_invariant.ensures in
    let old = c.args.client.now in
    λ q. leads _ (Gives q (option_copied c.args.block) (on_ok seen c.give-look.result)) _
    (given_to old c.give-look.new.self (option_copied c.args.block) c.give-look.result (some_looking c.requires.0 old old.view c.requires.1) c.is_bytes.ensures e.given e.held e.told e.only_memory e.err) (after.released, after.replies) tt
    (given_more old c.give-look.new.self c.requires.0 q (option_copied c.args.block) c.give-look.result c.requires.1 e.more e.stands)

pub returns-clause-fewer : goal.returns-clause-fewer
returns-clause-fewer g c =
    given_fewer c.args.client.now c.give-look.new.self c.type_invariant.ensures.few c.requires.0 c.give-look.result c.requires.1 c.give-look.ensures.more
