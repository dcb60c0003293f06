use Rattle.std.proofs.Common.{rules}
use Rattle.std.specs.Ordering.{nat_cmp}
use Rattle.std.proofs.lemmas.Cmp.{nat_cmp_total}
use Rattle.std.proofs.lemmas.List.Sorted.{answers_always}
use Rattle.layout.specs.AscendingLaws.{searched}
use Rattle.version_order.specs.Structure.{group_of}
use Rattle.version_order.proofs.Recording.{records_of}
use Rattle.version_order.proofs.structure.find.Goals as goal

-- the closure gives a record's group
pub returns : goal.returns
returns c =
    let facts = c.binary_search_by_key.ensures in
    let by_number = facts.position group_of (answers_always _ _ _ (λ f a r g called. search rules)) in
    let at = rw c.get.ensures.same at by_number in
    searched nat_cmp group_of nat_cmp_total c.args.records.now (records_of c.args.records.now c.requires).1 c.args.group _ facts.bound at
