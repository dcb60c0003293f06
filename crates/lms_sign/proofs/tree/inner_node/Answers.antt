use Rattle.std.proofs.Common.{◌++◌, ap, ◌∙◌, List, ℕ, append_assoc}
use Rattle.layout.specs.Hash.{hash}
use Rattle.lms_sign.specs.Hashing.{headed}
use Rattle.lms_sign.specs.Tree.{inner_node}
use Rattle.lms_sign.proofs.tree.inner_node.Goals as goal

pub returns : goal.returns
unfolding inner_node
returns c =
    let head = headed c.args.id.now c.args.number 0x8383 in
    c.finish.ensures _ (c.update-2.ensures _ (c.update.ensures _ c.headed_hasher-hasher.ensures))
    ∙ ap (λ (l : List ℕ). hash (head ++ l ++ c.as_bytes-2.result.now)) c.as_bytes.ensures.same
    ∙ ap (λ (l : List ℕ). hash (head ++ c.args.left.now ++ l)) c.as_bytes-2.ensures.same
    ∙ ap hash (append_assoc head c.args.left.now c.args.right.now)
