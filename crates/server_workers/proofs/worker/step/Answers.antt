-- Each step of a conversation.
use Rattle.std.proofs.Common.{List, ℕ, sym, subst}
use Rattle.wire.specs.Stream.{IsFrameThen}
use Rattle.server_workers.proofs.Conversations.{goes_on_later, replied_or_stopped, reads_on, some_holds, none_holds}
use Rattle.server_workers.proofs.worker.step.Goals as goal

pub returns-in-Ok-Some-clause-goes_on : goal.returns-in-Ok-Some-clause-goes_on
returns-in-Ok-Some-clause-goes_on g c =
    let next = subst (λ (b : List ℕ). IsFrameThen b c.next_frame.new.self c.args.frames.now) (sym c.deref.ensures.value) (some_holds _ _ _ c.in-Ok-Some.field-0-is c.in-Ok-Some.ensures.frame) in
    goes_on_later _ _ c.reply_to.ensures.later _ _ _ (replied_or_stopped _ _ _ _ _ _ _ _ _ next c.reply_to.ensures.replied)

pub returns-in-Ok-None-clause-goes_on : goal.returns-in-Ok-None-clause-goes_on
returns-in-Ok-None-clause-goes_on g c =
    reads_on _ _ _ _ _ _ _ _ (none_holds _ _ c.in-Ok-None.field-0-is c.in-Ok-None.ensures.none_same) c.read_on.ensures.ok c.read_on.ensures.err c.read_on.ensures.kind (none_holds _ _ c.in-Ok-None.field-0-is c.in-Ok-None.ensures.none)
