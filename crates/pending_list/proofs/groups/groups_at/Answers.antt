use Rattle.std.proofs.Common.{filter, sym, ap, ◌∙◌}
use Rattle.pending_list.specs.Groups.{raises_at}
use Rattle.pending_list.specs.GroupsLaws.{none_below}
use Rattle.pending_list.proofs.GroupsLaws.{kept_more, left_out}
use Rattle.pending_list.proofs.groups.groups_at.Goals.{then-raises_at+in_ok-push, else-raises_at}
use Rattle.pending_list.proofs.groups.groups_at.Goals as goal

pub loop-n-init : goal.loop-n-init
loop-n-init g c =
    let t = raises_at c.args.table.now c.args.version c.args.cert.now in
    c.new-raised.ensures.items ∙ sym (ap (filter t) none_below)

pub loop-n-preserved : goal.loop-n-preserved
loop-n-preserved g c =
    let t = raises_at c.args.table.now c.args.version c.args.cert.now in
    elim c.if-raises_at.branch [
      | then-raises_at+in_ok-push w ↦ (
          let more = kept_more t c.loop-n.n c.in-Some.group c.in-Some.ensures.some (sym c.raises_at.ensures ∙ w.if-raises_at.true) in
          cc (w.in_ok-push.ensures.items))
      | else-raises_at w ↦ (
          let same = left_out t c.loop-n.n c.in-Some.group c.in-Some.ensures.some (sym c.raises_at.ensures ∙ w.if-raises_at.false) in
          cc)
    ]
