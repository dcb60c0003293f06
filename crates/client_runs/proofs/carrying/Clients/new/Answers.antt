use Rattle.client_runs.proofs.Ended.{none_named, none_own, pinned_by}
use Rattle.client_runs.proofs.carrying.Clients.new.Goals as goal

pub invariant_of-result : goal.invariant_of-result
invariant_of-result g c =
    let key = c.in_ok-key_of.field-0 in
    let e = c.in_ok-key_of.ensures in
    let slots = c.in_ok-unmade in
    record {
      pinned_is = pinned_by c.public-pinned.result c.superuser.result key c.public-pinned.ensures e c.superuser.ensures;
      size = slots.ensures.size;
      own = none_own slots.field-0.items slots.ensures.none;
    }

pub returns : goal.returns
returns g c = none_named c.in_ok-unmade.field-0.items c.in_ok-unmade.ensures.none
