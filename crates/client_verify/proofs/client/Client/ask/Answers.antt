use Rattle.std.proofs.Common.{ap}
use Rattle.client_verify.specs.State.{checked_in, lists_under, released}
use Rattle.client_verify.proofs.Releasing.{replied}
use Rattle.client_verify.proofs.client.Client.ask.Goals as goal

pub invariant_of-self : goal.invariant_of-self
invariant_of-self g c = rw c.put_in.ensures (
  record { of_checked = replied c.self.inside.releases (released c.args.self.now) (lists_under (checked_in c.args.stage)) (ap released c.self.view_is) c.requires.own; of_accepted = tt },
  c.self.invariant.1,
)
