use Rattle.std.proofs.Common.{◌≡◌, ◌++◌, List, ℕ, [], ap, ◌∙◌, arith}
use Rattle.std.proofs.lemmas.List.{get_or_read}
use Rattle.lms_sign.specs.Keys.{public_key_of, lms_type, ots_type}
use Rattle.lms_sign.specs.Secret.{Secret}
use Rattle.lms_sign.specs.Tree.{node}
use Rattle.lms_sign.proofs.Levels.{root_at}
use Rattle.lms_sign.proofs.private_key.PrivateKey.public.Goals as goal

pub returns : goal.returns
unfolding public_key_of
returns g c =
    let key = c.self.inside in
    let secret : Secret = record { seed = key.seed; id = key.id; leaf_keys = key.leaf_keys.items } in
    let root : c.index.result.now ≡ node secret 10 1 = get_or_read key.nodes.items 1 c.index.result.now (omega arith) c.index.ensures [] ∙ root_at secret key.nodes.items c.self.invariant.0 in
    c.new.ensures ∙ ap (λ (l : List ℕ). lms_type ++ ots_type ++ key.id ++ l) root ∙ ap public_key_of c.self.view_is
