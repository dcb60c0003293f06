use Rattle.std.proofs.Common.{◌∙◌, ap}
use Rattle.std.specs.declared.vec.Vec.{Vec}
use Rattle.lms_sign.specs.Secret.{Secret}
use Rattle.client_steps.specs.Steps.{Device}
use Rattle.client_runs.proofs.slot.with_key.Goals as goal

pub returns : goal.returns
returns g c =
    let h = c.in_ok-keys.ensures in
    ap (λ (v : Vec (Secret × Device) g.row.A.Denot). v.items) h.same ∙ (rw h.ok at c.push-pushed.ensures.items)
