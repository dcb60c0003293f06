use Rattle.std.proofs.Common.{arith}
use Rattle.file_session.proofs.Looks.{looked_so, quiet}
use Rattle.file_session.proofs.Puts.{free_first_is, none_from}
use Rattle.file_session.proofs.Runs.{went_none}
use Rattle.file_session.proofs.conversation.Conversation.free_from.Goals as goal

pub returns-then-get-from-clause-looked : goal.returns-then-get-from-clause-looked
returns-then-get-from-clause-looked g c =
    quiet _ (went_none _) (λ tree. none_from c.args.user c.args.principal tree c.args.from _ c.range_of-last.ensures.last (omega (arith, c.get.ensures.same, c.if-get-from.true)))

pub returns-clause-looked : goal.returns-clause-looked
returns-clause-looked g c =
    looked_so _ c.in_ok-look.ensures.looked (λ tree is.
    free_first_is c.args.user c.args.principal tree c.args.from _ _ _ c.in-Some.ensures c.range_of-last.ensures.last (omega (arith, c.get.ensures.same, c.if-get-from.false)) (c.free_seen.ensures tree _ _ _ is))
