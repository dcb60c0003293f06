use Rattle.std.proofs.Common.{ℕ, ap, ◌∙◌}
use Rattle.leaf_ledger.specs.Ledger.{free_leaves}
use Rattle.client_releases.specs.Releasing.{ledger_at}
use Rattle.client_verify.proofs.client.Client.free_leaves.Goals as goal

pub free_leaves_of-requires-clause-key : goal.free_leaves_of-requires-clause-key
free_leaves_of-requires-clause-key g c = c.newest_key.ensures.has

pub returns : goal.returns
returns g c =
    c.free_leaves_of.ensures ∙ ap (λ (n : ℕ). free_leaves (ledger_at n c.args.self.now.devices).file.now.text) c.newest_key.ensures.number
