use Rattle.std.proofs.Common.{◌≡◌, true, ◌∙◌, rules}
use Rattle.std.specs.Result.{is_ok}
use Rattle.std.specs.Ordering.{nat_cmp}
use Rattle.layout.specs.Ascending.{Stands, IsFree}
use Rattle.pending_list.specs.Reply.{user_of}
use Rattle.reply_check.proofs.lists.with_own.Goals as goal

pub returns-in-Ok : goal.returns-in-Ok
returns-in-Ok g c =
    let user : user_of c.args.own ≡ c.user.result = search rules in
    let stands : Stands nat_cmp user_of c.args.structures.items c.user.result c.in-Ok.place = rw c.deref.ensures.value at c.in-Ok.ensures in
    stands.sets c.args.own user

pub returns-in-Err : goal.returns-in-Err
returns-in-Err g c =
    let user : user_of c.args.own ≡ c.user.result = search rules in
    let free : IsFree nat_cmp user_of c.args.structures.items c.user.result c.in-Err.place = rw c.deref.ensures.value at c.in-Err.ensures in
    let done : is_ok c.insert.result ≡ true = search rules in
    (rw done at c.insert.ensures.items) ∙ free.inserts c.args.own user
