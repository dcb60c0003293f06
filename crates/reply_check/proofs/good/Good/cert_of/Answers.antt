use Rattle.std.proofs.Common.{◌≡◌, List, Option, Some, None, refl, sym, ap, subst, ◌∙◌}
use Rattle.std.specs.Prelude.{◌==◌, find}
use Rattle.std.specs.Option.{option_copied}
use Rattle.version_order.specs.Plan.{Plan}
use Rattle.version_order.specs.Vector.{version_of}
use Rattle.pending_list.specs.Reply.{PendingItem}
use Rattle.reply_check.specs.FirstBroken.{lists_break}
use Rattle.reply_check.specs.Good.{Good}
use Rattle.reply_check.specs.Verified.{IsJudgedBy}
use Rattle.reply_check.proofs.VerifiedLaws.{cert_there, cert_under}
use Rattle.reply_check.proofs.good.Good.cert_of.Goals as goal

pub returns : goal.returns
returns g c =
    let good = c.args.self.now in
    let key = c.args.key.now in
    let item = c.in_ok-item.item.now in
    let unbroken : lists_break good.table good.lists ≡ None = subst (λ (x : Good). lists_break x.table x.lists ≡ None) c.self.view_is c.self.invariant in
    let was : c.pending_of.result ≡ Some c.in_ok-item.item = c.in_ok-item.was in
    let copied : option_copied c.pending_of.result ≡ Some item = rw was refl in
    let same : c.others.result.now ≡ good.lists.others = c.others.ensures ∙ ap (λ (x : Good). x.lists.others) c.self.view_is in
    let found : find (λ (i : PendingItem). i.cert.user == c.args.user) good.lists.others ≡ Some item =
    sym (sym copied ∙ c.pending_of.ensures ∙ ap (λ (xs : List PendingItem). find (λ i. i.cert.user == c.args.user) xs) same) in
    let at : c.supers_version.result ≡ version_of 0 item.plan.vector = c.supers_version.ensures ∙ ap (λ (p : Plan). version_of 0 p.vector) c.plan.ensures in
    let judged = subst (λ v. IsJudgedBy good.lists good.table c.args.user v key) at (c.has_key.ensures c.if-not-has_key.false) in
    cert_there key item c.signed_cert.result.now c.signed_cert.ensures (cert_under good.table good.lists c.args.user key unbroken item found judged)
