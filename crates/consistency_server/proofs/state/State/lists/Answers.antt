-- A user is listed who is so since some number.
use Rattle.std.proofs.Common.{ap, ◌∙◌}
use Rattle.principals.specs.Table.{lists_user}
use Rattle.consistency_server.specs.State.{State}
use Rattle.consistency_server.proofs.Placing.{listed_since}
use Rattle.consistency_server.proofs.state.State.lists.Goals as goal

pub returns : goal.returns
returns g c = c.is_some.ensures ∙ listed_since c.self.inside.table c.args.user c.since.result c.since.ensures ∙ ap (λ (s : State). lists_user s.table c.args.user) c.self.view_is
