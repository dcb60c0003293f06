use Rattle.std.proofs.Common.{◌≡◌, ◌≤◌, Bool, Result, Ok, Err, IfOk, sym, ◌∙◌, arith}
use Rattle.client_journal.proofs.Turns.{one_size, other_texts}
use Rattle.client_journal.proofs.turn.same_unsigned.Goals as goal
use Rattle.client_journal.proofs.turn.same_unsigned.Goals.{then-a-b-via-then-a-b, then-a-b-via-else-a-b+then-a-le-SIGNATURE_SIZE}

pub returns-then-a-b-clause-texts : goal.returns-then-a-b-clause-texts
returns-then-a-b-clause-texts g c =
    let file = (g.D.Device.history c.args.device.now).now.text in
    let short : c.args.a.size ≡ c.args.b.size → c.args.a.size ≤ 2508 = λ same. elim c.then-a-b.branch [
      | then-a-b-via-then-a-b w ↦ absurd (omega (arith, same))
      | then-a-b-via-else-a-b+then-a-le-SIGNATURE_SIZE w ↦ omega arith
    ] in
    sym (other_texts file c.args.a c.args.b c.requires.a_inside c.requires.b_inside short)

-- one test for another
replaced : {E : Type 0} (r : Result Bool E) (a b : Bool) → b ≡ a → IfOk r (λ x. x ≡ a) → IfOk r (λ x. x ≡ b)
replaced (Ok x) a b same is = is ∙ sym same
replaced (Err e) a b same is = tt

pub returns-clause-texts : goal.returns-clause-texts
returns-clause-texts g c =
    let file = (g.D.Device.history c.args.device.now).now.text in
    replaced c.same_part.result _ _ (one_size file c.args.a c.args.b c.requires.a_inside c.requires.b_inside (omega arith) (omega arith)) c.same_part.ensures.bytes
