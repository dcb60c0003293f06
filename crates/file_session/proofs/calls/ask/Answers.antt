use Rattle.client_tree.specs.declared.questions.Question.TheVariants.{At, Kind, Free}
use Rattle.client_steps.specs.Anywhere.{on_ok, seen}
use Rattle.file_session.specs.Calls.{Looks}
use Rattle.file_session.proofs.Steps.{has_looked, leads, looked_asks}
use Rattle.file_session.proofs.calls.ask.Goals as goal

pub returns-in-At-clause-leads : goal.returns-in-At-clause-leads
returns-in-At-clause-leads g c =
    let e = c.look-look.ensures in
    let after = c.type_invariant.ensures in
    let q = At c.in-At.principal c.in-At.i_number in
    rw c.in-At.is (leads _ (Looks q (on_ok seen c.look-look.result)) _ (has_looked c.args.client.now c.look-look.new.self q c.look-look.result c.get-number.ensures.range c.requires.view e.looked e.held e.only_memory e.err) (after.released, after.replies) tt (looked_asks c.args.client.now c.look-look.new.self q c.look-look.result e.stands))

pub returns-in-Kind-clause-leads : goal.returns-in-Kind-clause-leads
returns-in-Kind-clause-leads g c =
    let e = c.kind-look.ensures in
    let after = c.type_invariant-in-Kind.ensures in
    let q = Kind c.in-Kind.principal c.in-Kind.i_number in
    rw c.in-Kind.is (leads _ (Looks q (on_ok seen c.kind-look.result)) _ (has_looked c.args.client.now c.kind-look.new.self q c.kind-look.result c.get-number-in-Kind.ensures.range c.requires.view e.looked e.held e.only_memory e.err) (after.released, after.replies) tt (looked_asks c.args.client.now c.kind-look.new.self q c.kind-look.result e.stands))

pub returns-in-Free-clause-leads : goal.returns-in-Free-clause-leads
returns-in-Free-clause-leads g c =
    let e = c.free-look.ensures in
    let after = c.type_invariant-in-Free.ensures in
    let q = Free c.in-Free.principal c.in-Free.first c.in-Free.last in
    rw c.in-Free.is (leads _ (Looks q (on_ok seen c.free-look.result)) _ (has_looked c.args.client.now c.free-look.new.self q c.free-look.result c.get-number-in-Free.ensures.range c.requires.view e.looked e.held e.only_memory e.err) (after.released, after.replies) tt (looked_asks c.args.client.now c.free-look.new.self q c.free-look.result e.stands))
