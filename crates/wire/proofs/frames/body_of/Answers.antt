use Rattle.std.proofs.Common.{arith}
use Rattle.layout.specs.Laws.{is_found, is_only}
use Rattle.wire.specs.Frame.{frame}
use Rattle.wire.specs.FrameLaws.{lawful_frame}
use Rattle.wire.proofs.frames.body_of.Goals as goal

pub returns-clause-found : goal.returns-clause-found
returns-clause-found c = is_found frame lawful_frame (λ body. body.now) c.args.bytes.now c.whole_body.result (λ i. omega (arith, c.type_inv.bytes i)) c.whole_body.ensures.gives

pub returns-clause-only : goal.returns-clause-only
returns-clause-only c = is_only frame lawful_frame (λ body. body.now) c.args.bytes.now c.whole_body.result c.whole_body.ensures.gives
