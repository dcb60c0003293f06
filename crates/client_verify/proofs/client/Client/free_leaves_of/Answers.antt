use Rattle.std.proofs.Common.{ap, subst, sym, ◌∙◌}
use Rattle.leaf_ledger.specs.Ledger.{free_leaves}
use Rattle.client_releases.specs.Releasing.{ledger_at}
use Rattle.client_releases.specs.Told.{HasKey, Released}
use Rattle.client_verify.specs.State.{released}
use Rattle.client_verify.proofs.client.Client.free_leaves_of.Goals as goal

pub free_leaves-requires-clause-key : goal.free_leaves-requires-clause-key
free_leaves-requires-clause-key g c = subst (λ (o : Released). HasKey c.args.key o) (sym (ap released c.self.view_is)) c.requires.key

pub returns : goal.returns
returns g c =
    c.free_leaves.ensures ∙ ap (λ (o : Released). free_leaves (ledger_at c.args.key o.devices).file.now.text) (ap released c.self.view_is)
