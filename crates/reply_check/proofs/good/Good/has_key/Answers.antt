use Rattle.std.proofs.Common.{◌≡◌, ◌≢◌, Some, inl, inr, subst, rules}
use Rattle.principals.specs.Table.{key_at}
use Rattle.reply_check.specs.Good.{Good}
use Rattle.reply_check.specs.Verified.{AreSupers}
use Rattle.reply_check.proofs.good.Good.has_key.Goals as goal

pub returns-then-eq : goal.returns-then-eq
returns-then-eq g c = λ same.
    let user : c.args.user ≡ 0 = search rules in
    inl (user, subst (λ (x : Good). AreSupers x.lists c.args.key.now) c.self.view_is (c.has_pinned.ensures same))

pub returns-in-Some : goal.returns-in-Some
returns-in-Some g c = λ same.
    let good = c.self.inside in
    let other : c.args.user ≢ 0 = search rules in
    let listed : key_at c.args.user c.args.version good.table.table ≡ Some c.args.key.now = search rules in
    inr (other, subst (λ (x : Good). key_at c.args.user c.args.version x.table ≡ Some c.args.key.now) c.self.view_is listed)
