use Rattle.std.proofs.Common.{◌≡◌, List, Option, Some, None, refl, sym, ap, subst, ◌∙◌}
use Rattle.std.specs.Option.{option_copied}
use Rattle.version_order.specs.Plan.{Plan}
use Rattle.version_order.specs.Structure.{Structure}
use Rattle.version_order.specs.Vector.{version_of}
use Rattle.pending_list.specs.declared.signed.Signed.{Signed}
use Rattle.reply_check.specs.FirstBroken.{lists_break, shown_of}
use Rattle.reply_check.specs.Good.{Good}
use Rattle.reply_check.specs.Verified.{IsJudgedBy}
use Rattle.reply_check.proofs.VerifiedLaws.{structure_under}
use Rattle.reply_check.proofs.good.Good.structure_of.Goals as goal

pub returns : goal.returns
returns g c =
    let good = c.args.self.now in
    let key = c.args.key.now in
    let shown = c.in_ok-shown.shown.now in
    let unbroken : lists_break good.table good.lists ≡ None = subst (λ (x : Good). lists_break x.table x.lists ≡ None) c.self.view_is c.self.invariant in
    let was : c.shown_of.result ≡ Some c.in_ok-shown.shown = c.in_ok-shown.was in
    let copied : option_copied c.shown_of.result ≡ Some shown = rw was refl in
    let same : c.structures.result.now ≡ good.lists.structures = c.structures.ensures ∙ ap (λ (x : Good). x.lists.structures) c.self.view_is in
    let found : shown_of c.args.user good.lists.structures ≡ Some shown = sym (sym copied ∙ c.shown_of.ensures ∙ ap (λ (zs : List (Signed Structure)). shown_of c.args.user zs) same) in
    let at : c.supers_version.result ≡ version_of 0 shown.value.plan.vector = c.supers_version.ensures ∙ ap (λ (p : Plan). version_of 0 p.vector) c.plan.ensures.same in
    let judged = subst (λ v. IsJudgedBy good.lists good.table c.args.user v key) at (c.has_key.ensures c.if-not-has_key.false) in
    structure_under good.table good.lists c.args.user key unbroken shown found judged
