use Rattle.honest_history.proofs.Replies.{each_reply}
use Rattle.honest_history.proofs.laws.replies_are_unbroken.Goals as goal

pub returns : goal.returns
returns c = each_reply
