use Rattle.std.proofs.Common.{length}
use Rattle.file_session.proofs.conversation.Conversation.+put_each.Given as goal

abbrev pub decreases-put_each : goal.decreases-put_each
decreases-put_each g l = length l.files.now
