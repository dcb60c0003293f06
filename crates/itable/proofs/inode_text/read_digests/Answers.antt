use Rattle.std.proofs.Common.{◌≡◌, ℕ, ◌*◌, ◌/◌, List, Ok, ◌∙◌, length, ap, sym, arith}
use Rattle.std.specs.Simd.{first_chunks}
use Rattle.layout.specs.Format.{Answer}
use Rattle.itable.proofs.Cuts.{cut_fails, cut_reads}
use Rattle.itable.proofs.inode_text.read_digests.Goals as goal

abbrev done : List (List ℕ) → List ℕ → Answer (List (List ℕ))
done digests rest = Ok (digests, rest)

pub returns-in-Ok-clause-reads : goal.returns-in-Ok-clause-reads
returns-in-Ok-clause-reads c =
    let bytes = c.in-Ok.bytes.now in
    let reads = rw c.from.ensures at c.in-Ok.ensures.reads in
    let size : length bytes ≡ c.args.count * 32 = rw c.from.ensures at c.in-Ok.ensures.size in
    let count : length bytes / 32 ≡ c.args.count = omega (arith, size) in
    let digests = c.as_chunks.ensures.front ∙ ap (λ (n : ℕ). first_chunks 32 n bytes) count in
    cut_reads c.args.count c.args.reader.now bytes c.bytes.new.self reads ∙ ap (λ (ds : List (List ℕ)). done ds c.bytes.new.self) (sym digests)

pub returns-in-Err-clause-reads : goal.returns-in-Err-clause-reads
returns-in-Err-clause-reads c = λ other. cut_fails c.args.count c.args.reader.now c.in-Err.fault (rw c.from.ensures at (c.in-Err.ensures.reads other))
