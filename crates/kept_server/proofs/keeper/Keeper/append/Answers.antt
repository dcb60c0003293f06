use Rattle.kept_server.proofs.Appends.{calls_more}
use Rattle.kept_server.proofs.keeper.Keeper.append.Goals as goal

pub returns-clause-calls : goal.returns-clause-calls
returns-clause-calls g c = λ tells. calls_more _ _ _ (c.make_room.ensures.calls tells) (c.add.ensures.calls tells)
