use Rattle.std.proofs.Common.{ap, ◌∙◌}
use Rattle.std.proofs.lemmas.Result.{IfOk-weaker}
use Rattle.lms_sign.specs.Secret.{kept_leaves}
use Rattle.lms_sign.proofs.private_key.PrivateKey.from_kept_leaves.Goals as goal

pub returns-clause-kept : goal.returns-clause-kept
returns-clause-kept g c = IfOk-weaker c.over.result _ _ (λ key is. ap kept_leaves is ∙ c.in_ok-keys.ensures.keys) c.over.ensures
