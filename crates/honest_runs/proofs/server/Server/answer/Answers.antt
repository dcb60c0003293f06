use Rattle.std.proofs.Common.{◌≡◌, ◌++◌, List, subst}
use Rattle.std.specs.Prelude.{option_to_list}
use Rattle.client_runs.specs.Runs.{pinned}
use Rattle.client_runs.specs.Carried.{script_keys}
use Rattle.consistency_server.specs.Answers.{Call}
use Rattle.honest_runs.specs.HonestRuns.{IsAnswered, carried_out}
use Rattle.honest_runs.specs.Town.{exchange_of}
use Rattle.honest_runs.proofs.Serving.{calls_kept, is_answered, still_logged, still_pinned}
use Rattle.honest_runs.proofs.server.Server.answer.Goals as goal

pub returns-clause-answered : goal.returns-clause-answered
returns-clause-answered g c =
    let e = c.answer.ensures in
    subst (λ (calls : List Call). IsAnswered (pinned script_keys) calls (exchange_of c.args.kind c.args.text.now c.answer.result)) c.self.view_is
    (is_answered c.self.inside.ordered (pinned script_keys) c.self.invariant.0 c.args.kind c.args.text.now c.answer.result
    c.self.inside.log c.self.invariant.1 e.answer e.busy e.busy_logged e.bare)

pub returns-clause-history : goal.returns-clause-history
returns-clause-history g c =
    let e = c.answer.ensures in
    subst (λ (calls : List Call). c.answer.new.self.history ≡ option_to_list (carried_out (exchange_of c.args.kind c.args.text.now c.answer.result)) ++ calls) c.self.view_is
    (calls_kept c.self.inside.ordered (pinned script_keys) c.self.invariant.0 c.args.kind c.args.text.now c.answer.result
    c.answer.new.self c.self.inside.log c.answer.new.log c.self.invariant.1 e.history e.same e.log e.log_same)

pub invariant_of-self : goal.invariant_of-self
invariant_of-self g c =
    let e = c.answer.ensures in (
      still_pinned c.self.inside.ordered (pinned script_keys) c.self.invariant.0 c.args.kind c.args.text.now c.answer.result
          c.answer.new.self c.self.inside.log c.answer.new.log c.self.invariant.1 e.history e.same e.log e.log_same,
      still_logged c.self.inside.ordered (pinned script_keys) c.self.invariant.0 c.args.kind c.args.text.now c.answer.result
          c.answer.new.self c.self.inside.log c.answer.new.log c.self.invariant.1 e.history e.same e.log e.log_same,
    )
