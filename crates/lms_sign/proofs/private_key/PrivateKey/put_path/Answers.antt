use Rattle.std.proofs.Common.{◌+◌, ◌++◌, ℕ, List, [], get_or, take, ap, ◌∙◌}
use Rattle.lms_sign.specs.Hashing.{joined}
use Rattle.lms_sign.specs.Secret.{Secret}
use Rattle.lms_sign.specs.Signature.{path_of}
use Rattle.lms_sign.specs.Tree.{ancestor, sibling}
use Rattle.lms_sign.proofs.Joining.{joined_same}
use Rattle.lms_sign.proofs.Levels.{path_at}
use Rattle.lms_sign.proofs.private_key.PrivateKey.put_path.Goals as goal

pub returns : goal.returns
returns g c =
    let key = c.self.inside in
    let secret : Secret = record { seed = key.seed; id = key.id; leaf_keys = key.leaf_keys.items } in
    let leaf = c.args.leaf in
    let front = take 2188 c.args.signature.now in
    c.put_path.ensures
    ∙ ap (λ (l : List (List ℕ)). front ++ joined 10 (λ height. get_or l (sibling (ancestor (1024 + leaf) height)) [])) c.deref.ensures.value
    ∙ ap (λ (l : List ℕ). front ++ l)
    (joined_same 10 (λ height. get_or key.nodes.items (sibling (ancestor (1024 + leaf) height)) []) (path_of secret leaf) (λ height lt. path_at secret key.nodes.items c.self.invariant.0 leaf height c.requires.leaf lt))
    ∙ ap (λ (s : Secret). front ++ joined 10 (path_of s leaf)) c.self.view_is
