use Rattle.std.proofs.Common.{rules}
use Rattle.std.specs.Ordering.{nat_cmp}
use Rattle.std.proofs.lemmas.Cmp.{nat_cmp_total}
use Rattle.std.proofs.lemmas.List.Sorted.{answers_always}
use Rattle.layout.specs.AscendingLaws.{searched}
use Rattle.itable.specs.Root.{number_of}
use Rattle.itable.proofs.listed.find.Goals as goal

-- the closure gives a chunk's number
pub returns : goal.returns
returns c =
    let facts = c.binary_search_by_key.ensures in
    let by_number = facts.position number_of (answers_always _ _ _ (λ f a r g called. search rules)) in
    let at = rw c.get.ensures.same at by_number in
    searched nat_cmp number_of nat_cmp_total c.args.chunks.now c.requires c.args.number _ facts.bound at
