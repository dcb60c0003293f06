use Rattle.std.proofs.Common.{List, ℕ, ap, ◌∙◌, arith}
use Rattle.std.proofs.lemmas.Result.{IfOk-weaker}
use Rattle.lms_sign.specs.Secret.{Secret}
use Rattle.lms_sign.proofs.Drawn.{grouped_drawn}
use Rattle.lms_sign.proofs.private_key.PrivateKey.from_leaf_keys.Goals as goal

pub over-requires-clause-drawn : goal.over-requires-clause-drawn
over-requires-clause-drawn g c is =
    grouped_drawn c.args.seed c.args.id c.in_ok-keys.keys.items c.args.groups.now (omega (arith, c.in_ok-keys.ensures.size)) c.in_ok-keys.ensures.keys c.requires.keys

pub returns : goal.returns
returns g c =
    let over : List (List ℕ) → Secret = λ keys. record { seed = c.args.seed; id = c.args.id; leaf_keys = keys } in
    IfOk-weaker c.over.result _ _ (λ key is.
    is ∙ ap over (grouped_drawn c.args.seed c.args.id c.in_ok-keys.keys.items c.args.groups.now (omega (arith, c.in_ok-keys.ensures.size)) c.in_ok-keys.ensures.keys c.requires.keys)) c.over.ensures
