use Rattle.std.proofs.Common.{◌≡◌, [], rules}
use Rattle.layout.specs.Laws.{is_text}
use Rattle.itable.specs.Chunk.{Chunk, chunk}
use Rattle.itable.specs.ChunkLaws.{lawful_chunk}
use Rattle.itable.proofs.table.spelled.Goals as goal

pub returns : goal.returns
returns g c =
    let whole : Chunk = record { number = c.args.number; pairs = c.args.pairs.now } in
    let written : c.finish.result.items ≡ chunk.onto [] whole = search rules in
    is_text chunk lawful_chunk whole c.finish.result.items written
