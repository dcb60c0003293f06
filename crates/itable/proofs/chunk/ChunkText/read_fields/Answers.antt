use Rattle.std.proofs.Common.{◌≡◌, Ok, rules}
use Rattle.itable.specs.Chunk.{chunk}
use Rattle.itable.specs.ChunkLaws.{lawful_chunk}
use Rattle.itable.proofs.chunk.ChunkText.read_fields.Goals as goal

pub invariant_of-result : goal.invariant_of-result
invariant_of-result g c =
    let read : chunk.read c.args.reader.now ≡ Ok (record { number = c.in_ok-number.number; pairs = c.in_ok-pairs.pairs.items }, c.read_rows.new.reader) = search rules in
    (lawful_chunk.takes _ _ _ c.tag.ensures.bytes read).fits
