use Rattle.std.proofs.Common.{◌≡◌, ◌==◌, ℕ, option_map, ap, ◌∙◌, rules}
use Rattle.std.specs.List.{find}
use Rattle.itable.specs.Chunk.{i_number_of}
use Rattle.itable.specs.declared.chunk.Pair.{Pair}
use Rattle.client_tree.proofs.NamedLaws.{first_row}
use Rattle.client_tree.proofs.named.inode_in.Goals as goal

pub returns : goal.returns
returns g c =
    let pairs = c.args.chunk.now.pairs in
    let found : c.copied-pair.result ≡ find (λ (x : Pair). x.i_number == c.table.result) pairs = search rules in
    let here = found ∙ ap (λ (n : ℕ). find (λ (x : Pair). x.i_number == n) pairs) c.table.ensures ∙ first_row i_number_of pairs 1 in
    let mapped : c.map.result ≡ option_map (λ (p : Pair). p.digest) c.copied-pair.result = search rules in
    mapped ∙ ap (option_map (λ (p : Pair). p.digest)) here
