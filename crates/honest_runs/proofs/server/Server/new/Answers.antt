use Rattle.client_runs.specs.Runs.{pinned}
use Rattle.client_runs.specs.Carried.{script_keys}
use Rattle.honest_runs.proofs.Serving.{at_first}
use Rattle.honest_runs.proofs.server.Server.new.Goals as goal

pub invariant_of-result : goal.invariant_of-result
invariant_of-result g c = at_first (pinned script_keys) c.args.pinned c.requires c.genesis.result c.genesis.ensures c.in_ok-log.log c.in_ok-log.ensures
