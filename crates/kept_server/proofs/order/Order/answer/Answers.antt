use Rattle.kept_server.proofs.Carrying.{goes_on}
use Rattle.kept_server.proofs.order.Order.answer.Goals as goal

pub invariant_of-self : goal.invariant_of-self
invariant_of-self g c =
    let e = c.answer_call.ensures in
    goes_on _ _ _ _ _ _ _ _ c.self.invariant e.history e.log e.same e.log_same
