use Rattle.std.proofs.Common.{◌≡◌, ◌+◌, ap, ◌∙◌, ℕ, arith}
use Rattle.lms_sign.specs.Signature.{path_in}
use Rattle.lms_sign.specs.Tree.{climbed}
use Rattle.lms_sign.proofs.tree.climb.Goals as goal

pub returns : goal.returns
returns c =
    let all : c.loop-height.height ≡ 10 = omega arith in
    c.loop-height.invariant.node ∙ ap (λ (n : ℕ). climbed c.args.id.now (1024 + c.args.leaf) (path_in c.args.signature.now) c.args.node n) all
