use Rattle.std.proofs.Common.{◌∙◌, ◌-◌, length, ap}
use Rattle.client_verify.specs.State.{State, newest_key}
use Rattle.client_verify.proofs.client.Client.newest_key.Goals as goal

pub returns-clause-number : goal.returns-clause-number
unfolding newest_key
returns-clause-number g c = ap (λ n. n - 1) (c.key_count.ensures ∙ ap (λ (s : State). length s.secrets) c.self.view_is)
