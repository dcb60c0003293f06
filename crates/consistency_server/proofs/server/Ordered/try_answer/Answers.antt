-- What was carried out is what the history says.
use Rattle.std.proofs.Common.{◌≡◌, ◌++◌, true, sym, ap, ◌∙◌, subst}
use Rattle.consistency_server.specs.State.{State}
use Rattle.consistency_server.specs.Answers.{Call, answer, happened, outcome_of}
use Rattle.consistency_server.specs.History.{answer_of, logged, logged_of, is_carried_out}
use Rattle.consistency_server.specs.Judged.{JudgedAs, answer_by, logged_by}
use Rattle.consistency_server.proofs.Texts.{with_ok}
use Rattle.consistency_server.proofs.Kept.{may_happen, answer_judged, logged_judged}
use Rattle.consistency_server.proofs.Serving.{serves, on_ok, same_call, kept_after_verdict}
use Rattle.consistency_server.proofs.server.Ordered.try_answer.Given as given
use Rattle.consistency_server.proofs.server.Ordered.try_answer.Goals as goal

pub carry_out-requires : goal.carry_out-requires
carry_out-requires g c = may_happen c.self.inside.state c.in_ok-judged.judged _ c.in_ok-judged.ensures

-- what was judged, of the call itself
found : (g : given.Over) (c : goal.After-carry_out g) → JudgedAs c.self.inside.state c.in_ok-judged.judged (outcome_of c.self.inside.state c.args.call)
found g c =
    subst (λ (x : Call). JudgedAs c.self.inside.state c.in_ok-judged.judged (outcome_of c.self.inside.state x))
    (same_call c.kind.result c.text.result.now c.args.call c.kind.ensures c.text.ensures) c.in_ok-judged.ensures

answered : (g : given.Over) (c : goal.After-carry_out g) → answer_by c.in_ok-judged.judged ≡ answer_of c.args.self.now.pinned c.args.self.now.history c.args.call
answered g c =
    sym (answer_judged c.self.inside.state c.in_ok-judged.judged _ (found g c))
    ∙ ap (λ (s : State). answer (outcome_of s c.args.call)) c.self.invariant
    ∙ ap (λ s. answer_of s.pinned s.history c.args.call) c.self.view_is

to_log : (g : given.Over) (c : goal.After-carry_out g) → logged_by c.in_ok-judged.judged c.args.call ≡ logged c.args.self.now c.args.call
to_log g c =
    sym (logged_judged c.self.inside.state c.in_ok-judged.judged _ c.args.call (found g c))
    ∙ ap (λ (s : State). logged_of (happened (outcome_of s c.args.call)) c.args.call) c.self.invariant
    ∙ ap (λ s. logged s c.args.call) c.self.view_is

pub invariant_of-self : goal.invariant_of-self
invariant_of-self g c =
    kept_after_verdict c.carry_out.result c.self.inside.pinned _ _ c.args.call c.self.inside.state c.carry_out.new.state c.in_ok-judged.judged c.self.invariant (found g c) c.carry_out.ensures.state c.carry_out.ensures.history c.carry_out.ensures.state_err c.carry_out.ensures.history_err

pub returns-clause-answer : goal.returns-clause-answer
returns-clause-answer g c = with_ok c.carry_out.result _ _ (λ a e. e ∙ answered g c) c.carry_out.ensures.answer

pub returns-clause-log : goal.returns-clause-log
returns-clause-log g c = on_ok c.carry_out.result _ _ (λ e. e ∙ ap (λ calls. g.G.Log.pushed c.args.log.now ++ calls) (to_log g c)) c.carry_out.ensures.log

pub returns-clause-carried_out : goal.returns-clause-carried_out
returns-clause-carried_out g c =
    with_ok c.carry_out.result _ _ (λ a e. subst (λ b. is_carried_out b.status ≡ true) (answer_judged c.self.inside.state c.in_ok-judged.judged _ (found g c) ∙ sym e) (serves c.self.inside.state c.args.call)) c.carry_out.ensures.answer

pub returns-clause-busy_logged : goal.returns-clause-busy_logged
returns-clause-busy_logged g c = λ busy none. c.carry_out.ensures.busy_logged busy (to_log g c ∙ none)
