use Rattle.std.proofs.Common.{sym, ◌∙◌}
use Rattle.reply_check.proofs.Judging.{something_pending}
use Rattle.reply_check.proofs.verdict.broken_alone.Goals as goal

pub returns-clause-pending : goal.returns-clause-pending
returns-clause-pending g c = λ none. something_pending c.args.reply.now c.args.known.now.declared (sym c.in_ok-own_pending.ensures ∙ c.if-not-branch-2.false)
