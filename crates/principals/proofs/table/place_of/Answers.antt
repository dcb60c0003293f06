use Rattle.std.proofs.Common.{rules}
use Rattle.std.specs.Ordering.{nat_cmp}
use Rattle.std.proofs.lemmas.Cmp.{nat_cmp_total}
use Rattle.std.proofs.lemmas.List.Sorted.{answers_always}
use Rattle.layout.specs.AscendingLaws.{searched}
use Rattle.principals.specs.Table.{user_of}
use Rattle.principals.proofs.table.place_of.Goals as goal

-- the closure gives a listing's user
pub returns : goal.returns
returns g c =
    let facts = c.binary_search_by_key.ensures in
    let by_user = facts.position user_of (answers_always _ _ _ (λ f a r g called. search rules)) in
    let at = rw c.get.ensures.same at by_user in
    searched nat_cmp user_of nat_cmp_total c.args.others.now c.requires c.args.user _ facts.bound at
