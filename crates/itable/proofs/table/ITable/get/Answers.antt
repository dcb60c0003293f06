use Rattle.itable.proofs.ChunkLaws.{in_chunk}
use Rattle.itable.proofs.table.ITable.get.Goals as goal

pub returns-clause-in_chunk : goal.returns-clause-in_chunk
returns-clause-in_chunk g c = in_chunk c.args.self.now
