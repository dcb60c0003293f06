use Rattle.std.proofs.Common.{◌≡◌, ◌==◌, ℕ, ap, ◌∙◌, rules}
use Rattle.std.specs.List.{find}
use Rattle.itable.specs.Chunk.{chunk_number}
use Rattle.itable.specs.Root.{number_of}
use Rattle.itable.specs.declared.root.ListedChunk.{ListedChunk}
use Rattle.client_tree.proofs.NamedLaws.{first_row}
use Rattle.client_tree.proofs.named.first_chunk.Goals as goal

pub returns : goal.returns
returns g c =
    let chunks = c.args.root.now.chunks in
    let found : c.copied.result ≡ find (λ (x : ListedChunk). x.number == c.of-number.result) chunks = search rules in
    let zero : c.of-number.result ≡ 0 = c.of-number.ensures ∙ ap chunk_number c.table.ensures in
    found ∙ ap (λ (n : ℕ). find (λ (x : ListedChunk). x.number == n) chunks) zero ∙ first_row number_of chunks 0
