use Rattle.file_session.proofs.Puts.{refusal_is}
use Rattle.file_session.proofs.putting.refusal_at.Goals as goal

pub returns : goal.returns
returns c = refusal_is c.args.file.now c.args.spot.now c.course_at-course.result c.refusal_of.result c.course_at-course.ensures.puts c.refusal_of.ensures
