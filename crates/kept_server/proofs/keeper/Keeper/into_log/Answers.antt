use Rattle.std.proofs.Common.{List, ap, subst}
use Rattle.consistency_server.specs.Answers.{Call}
use Rattle.kept_server.specs.Kept.{IsKept, Keeping}
use Rattle.kept_server.proofs.keeper.Keeper.into_log.Goals as goal

pub returns-clause-kept : goal.returns-clause-kept
returns-clause-kept g c = λ tells. subst (λ (events : List Call). IsKept g.B.ServerKey.start c.self.inside.log events) (ap (λ (k : Keeping). k.events) c.self.view_is) (c.self.invariant tells)
