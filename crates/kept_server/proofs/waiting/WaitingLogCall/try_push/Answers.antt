use Rattle.std.proofs.Common.{rules, ◌≡◌, [], ◌∷◌, ◌++◌}
use Rattle.server_log.specs.KeptLog.{record_of}
use Rattle.kept_server.proofs.Pushes.{one_more}
use Rattle.kept_server.proofs.waiting.WaitingLogCall.try_push.Goals as goal

pub invariant_of-self-2 : goal.invariant_of-self-2
invariant_of-self-2 g c =
    let grown : c.add.new.self ≡ c.self.inside.events ++ c.args.call ∷ [] = search rules in
    let added : c.push_reserved.new.self.items ≡ c.self.inside.records.items ++ record_of c.args.call ∷ [] = search rules in
    one_more _ _ _ _ _ c.self.invariant grown added
