-- Nobody has to believe this file: an aid of private contracts.
-- What a request is answered, wherever its bytes lie.
use Rattle.wire.specs.declared.kinds.Status.TheVariants as status
use Rattle.consistency_server.specs.Answers.{Answer}
use Rattle.server_workers.specs.declared.reply.Body.{Body}
use Rattle.server_workers.specs.declared.reply.Body.TheVariants.{Called, Own, Stored}

abbrev pub answer_in : {A : Type 0} → Body A → Answer
answer_in (Called answer) = answer
answer_in (Own s bytes) = record { status = s; payload = bytes.items }
answer_in (Stored block) = record { status = status.Ok; payload = block.now }
