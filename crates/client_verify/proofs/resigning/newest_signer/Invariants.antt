use Rattle.std.proofs.Common.{◌≡◌}
use Rattle.client_verify.specs.State.{newest_signer}
use Rattle.client_verify.proofs.DeclaringKey.{signer_among}
use Rattle.client_verify.proofs.resigning.newest_signer.Given as goal

-- those that were tried signed nothing
abbrev pub invariant-loop-key : goal.invariant-loop-key
invariant-loop-key g l = newest_signer l.text l.releases ≡ signer_among l.text l.releases l.key
