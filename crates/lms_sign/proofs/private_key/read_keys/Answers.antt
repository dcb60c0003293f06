use Rattle.std.proofs.Common.{◌≡◌, arith}
use Rattle.lms_sign.proofs.Drawn.{kept_again}
use Rattle.lms_sign.proofs.private_key.read_keys.Goals as goal

pub returns-clause-keys : goal.returns-clause-keys
returns-clause-keys c =
    let all : c.loop-leaf.leaf ≡ 1024 = omega arith in
    kept_again c.args.kept.now c.loop-leaf.keys c.requires.kept (λ leaf lt. c.loop-leaf.invariant.keys leaf (omega (arith, all, lt)))
