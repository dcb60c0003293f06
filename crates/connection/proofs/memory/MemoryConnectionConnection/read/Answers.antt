-- What was read before, and then what is copied now.
use Rattle.std.proofs.Common.{rules, ◌≡◌, ◌++◌, ◌+◌, take, length, Some, sym, ap, ◌∙◌, subst, append-nil}
use Rattle.std.proofs.Math.Seq.{take-add, take-append_seam}
use Rattle.std.proofs.Math.ListN.{drop}
use Rattle.connection.proofs.memory.MemoryConnectionConnection.read.Goals as goal

pub returns-clause-ok : goal.returns-clause-ok
returns-clause-ok c =
    let given = c.args.self.now.given in
    let count = c.min-count.result in
    let input = c.args.self.now.input.now in
    let output = c.args.self.now.output.now.items in
    let copied = c.copy_from_slice.new.self in
    let rest = drop count c.args.buffer.now in
    let sized : length copied ≡ count = search rules in
    let same : copied ≡ take count (drop given input) = search rules in
    let front = subst (λ n. take n (copied ++ rest) ≡ copied) sized (take-append_seam copied rest) in
    let read : take (given + count) input ≡ take given input ++ take count (copied ++ rest) =
    take-add given count input ∙ ap (λ t. take given input ++ t) (sym (front ∙ same)) in
    ap (λ t. Some (record { read = t; written = output })) read ∙ ap (λ t. Some (record { read = take given input ++ take count (copied ++ rest); written = t })) (sym (append-nil output))
