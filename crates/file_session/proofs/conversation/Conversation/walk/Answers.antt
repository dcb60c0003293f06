use Rattle.std.proofs.Common.{sym, ◌∙◌}
use Rattle.std.proofs.lemmas.Result.{err_from_is_err_and}
use Rattle.file_session.proofs.Looks.{looked_next, looked_so}
use Rattle.file_session.proofs.Walks.{walk_end, walk_off, walk_on}
use Rattle.file_session.proofs.conversation.Conversation.walk.Goals as goal

pub returns-in_err-next-clause-looked : goal.returns-in_err-next-clause-looked
returns-in_err-next-clause-looked g c =
    let p = err_from_is_err_and c.from_residual.result c.from_residual.ensures.1 in
    rw (p.1, p.2) (looked_next _ c.loop-name.invariant.looked c.in_err-next.ensures.looked (λ tree p r. tt))

pub loop-name-preserved : goal.loop-name-preserved
loop-name-preserved g c =
    let i = c.loop-name.invariant in
    let e = c.in_ok-next.ensures in
    record {
      looked = looked_next _ i.looked e.looked (λ tree before found. walk_on tree _ _ _ _ _ _ _ before c.in-Some.ensures.0 (sym c.in-Some-2.is ∙ found));
      phase = e.phase ∙ i.phase;
      view = e.view;
    }

pub returns-in-None-clause-looked : goal.returns-in-None-clause-looked
returns-in-None-clause-looked g c =
    looked_next _ c.loop-name.invariant.looked c.in_ok-next.ensures.looked (λ tree before found. walk_off tree _ _ _ _ _ _ before c.in-Some.ensures.0 (sym c.in-None.is ∙ found))

pub returns-clause-looked : goal.returns-clause-looked
returns-clause-looked g c = looked_so _ c.loop-name.invariant.looked (λ tree before. walk_end tree _ _ _ _ before c.in_default.ensures.0)
