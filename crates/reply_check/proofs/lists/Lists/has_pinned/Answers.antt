use Rattle.std.proofs.Common.{◌≡◌, subst, rules}
use Rattle.layout.specs.Types.{Key}
use Rattle.reply_rules.specs.Lists.{Lists}
use Rattle.reply_check.specs.Verified.{AreSupers}
use Rattle.reply_check.proofs.lists.Lists.has_pinned.Goals as goal

pub returns : goal.returns
returns g c = λ same.
    let l = c.self.inside in
    let is : l.pinned ≡ c.args.key.now = search rules in
    subst (λ (k : Key). AreSupers c.args.self.now k) is (subst (λ (x : Lists). AreSupers x l.pinned) c.self.view_is c.self.invariant.1)
