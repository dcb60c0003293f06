use Rattle.std.proofs.Common.{refl, sym, ◌∙◌}
use Rattle.reply_check.proofs.ByTableLaws.{certificate_breaks, others_break, signature_breaks}
use Rattle.reply_check.proofs.by_table.lists_broken.Goals as goal

pub returns-then-not-branch : goal.returns-then-not-branch
returns-then-not-branch g c =
    signature_breaks _ _ _ _ _ refl (sym c.eq.ensures ∙ c.if-eq.false) c.in_ok-first.ensures
    c.structures.ensures (sym c.in_ok-structures_are_signed.ensures ∙ c.if-not-branch.true)

pub returns-then-not-branch-2 : goal.returns-then-not-branch-2
returns-then-not-branch-2 g c =
    certificate_breaks _ _ _ _ _ _ refl (sym c.eq.ensures ∙ c.if-eq.false) c.in_ok-first.ensures
    c.structures.ensures (sym c.in_ok-structures_are_signed.ensures ∙ c.if-not-branch.false)
    c.pending.ensures (sym c.in_ok-certs_are_signed.ensures ∙ c.if-not-branch-2.true)

pub returns : goal.returns
returns g c =
    others_break _ _ _ _ _ c.in_ok-first.ensures
    c.structures.ensures (sym c.in_ok-structures_are_signed.ensures ∙ c.if-not-branch.false)
    c.pending.ensures (sym c.in_ok-certs_are_signed.ensures ∙ c.if-not-branch-2.false)
