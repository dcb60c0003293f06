use Rattle.std.proofs.Common.{rules}
use Rattle.std.specs.Ordering.{nat_cmp}
use Rattle.std.proofs.lemmas.Cmp.{nat_cmp_total}
use Rattle.std.proofs.lemmas.List.Sorted.{answers_always}
use Rattle.layout.specs.AscendingLaws.{searched}
use Rattle.pending_list.specs.Reply.{user_of}
use Rattle.reply_check.proofs.lists.find.Goals as goal

-- the closure gives a structure's user
pub returns : goal.returns
returns g c =
    let facts = c.binary_search_by_key.ensures in
    let by_user = facts.position user_of (answers_always _ _ _ (λ f a r g called. search rules)) in
    let at = rw c.get.ensures.same at by_user in
    searched nat_cmp user_of nat_cmp_total c.args.structures.now c.requires c.args.user _ facts.bound at
