use Rattle.std.proofs.Common.{◌≡◌, ◌≤◌, ◌∙◌, [], length, arith, ap, sym}
use Rattle.std.proofs.lemmas.Bool.{eq-eqb}
use Rattle.std.proofs.lemmas.Result.{err_from_is_err_and}
use Rattle.file_session.proofs.Operations.{laid_more_so_far, lays_all, lays_on, stores_all, stores_on}
use Rattle.file_session.proofs.Turns.{went_to}
use Rattle.file_session.proofs.conversation.Conversation.store.Goals as goal

pub returns-in_err-_digest-clause-handed_out : goal.returns-in_err-_digest-clause-handed_out
returns-in_err-_digest-clause-handed_out g c =
    let p = err_from_is_err_and c.from_residual.result c.from_residual.ensures.1 in
    rw (p.1, p.2) (stores_on _ _ _ _ _ _ c.text-item.result _ _ c.loop-text-test.true c.text-item.is c.deref.ensures.value c.loop-text.invariant.handed_out c.in_err-_digest.ensures)

pub returns-in_err-_digest-clause-laid_out : goal.returns-in_err-_digest-clause-laid_out
returns-in_err-_digest-clause-laid_out g c =
    let p = err_from_is_err_and c.from_residual.result c.from_residual.ensures.1 in
    rw (p.1, p.2) (lays_on _ _ _ _ _ _ c.text-item.result _ _ c.deref.ensures.value c.loop-text.invariant.laid_out c.in_err-_digest.ensures)

pub loop-text-preserved : goal.loop-text-preserved
loop-text-preserved g c =
    record {
      handed_out = stores_on _ _ _ _ _ _ c.text-item.result _ _ c.loop-text-test.true c.text-item.is c.deref.ensures.value c.loop-text.invariant.handed_out c.in_ok-_digest.ensures;
      laid_out = went_to (laid_more_so_far _ _ c.text-item.result c.loop-text-test.true c.text-item.is)
          (lays_on _ _ _ _ _ _ c.text-item.result _ _ c.deref.ensures.value c.loop-text.invariant.laid_out c.in_ok-_digest.ensures);
      same = c.loop-text.invariant.same;
    }

pub returns-clause-handed_out : goal.returns-clause-handed_out
returns-clause-handed_out g c =
    let all : length c.args.texts.now ≤ c.loop-text.text-index = omega (arith, c.loop-text-test.false) in
    stores_all _ _ _ _ c.args.texts.now c.loop-text.text-index c.sync.result all c.loop-text.invariant.handed_out c.sync.ensures

pub returns-clause-laid_out : goal.returns-clause-laid_out
returns-clause-laid_out g c =
    let all : length c.args.texts.now ≤ c.loop-text.text-index = omega (arith, c.loop-text-test.false) in
    let some : c.args.texts.now ≡ [] → ⊥ = λ none. let empty = sym c.if-is_empty.false ∙ c.is_empty.ensures ∙ eq-eqb (length c.args.texts.now) 0 (ap length none) in absurd cc in
    lays_all _ _ _ _ c.args.texts.now c.loop-text.text-index c.sync.result some all c.loop-text.invariant.laid_out c.sync.ensures
