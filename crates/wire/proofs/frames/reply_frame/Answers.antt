-- What is framed is read back.
use Rattle.std.proofs.Common.{◌≡◌, ◌<◌, ◌∷◌, subst, arith}
use Rattle.std.specs.Prelude.{IfOk}
use Rattle.wire.specs.Frame.{number_of_status, frame}
use Rattle.wire.proofs.Framed.{framed_again}
use Rattle.wire.proofs.frames.reply_frame.Goals as goal

pub returns-clause-body : goal.returns-clause-body
returns-clause-body g c =
    let spelled = subst (λ n. IfOk c.framed.result (λ bytes. bytes.items ≡ frame.spell (n ∷ c.args.payload.now))) c.number.ensures c.framed.ensures in
    framed_again c.framed.result (λ bytes. bytes.items) (number_of_status c.args.status) c.args.payload.now (subst (λ n. n < 256) c.number.ensures c.number.type_inv) (λ i. omega (arith, c.type_inv.payload i)) c.requires.small spelled
