use Rattle.std.proofs.Common.{inl, inr, refl}
use Rattle.server_workers.proofs.worker.reply_to.Goals as goal

-- its reply was written, or a beginning of it
pub returns-in-Some-clause-replied : goal.returns-in-Some-clause-replied
returns-in-Some-clause-replied g c = inl (record {
  reply = c.in-Some.reply;
  allowed = c.in-Some.ensures.replies;
  counts = c.in-Some.ensures.counted;
  whole = c.answer.ensures.ok;
  part = c.answer.ensures.err;
  broken = c.answer.ensures.broken;
})

-- or there is none
pub returns-in-None-clause-replied : goal.returns-in-None-clause-replied
returns-in-None-clause-replied g c = inr (record {
  stopped = refl;
  keeps = c.in-None.ensures.stopped.0;
  told_same = refl;
  counts = c.in-None.ensures.stopped.1;
})
