use Rattle.client_releases.specs.declared.error.ClientError.TheVariants as error
use Rattle.client_verify.proofs.Releasing.{early_only, not_so, same_error}
use Rattle.client_verify.proofs.client.Client.prepare.Goals as goal

pub returns-in-Err-clause-no_number : goal.returns-in-Err-clause-no_number
returns-in-Err-clause-no_number g c = same_error c.in-Err.error error.NoNumber _ c.in-Err.ensures.no_number

pub returns-in-Err-clause-only : goal.returns-in-Err-clause-only
returns-in-Err-clause-only g c = early_only c.in-Err.error c.in-Err.ensures.only

pub returns-in-Ok-certificate-clause-free : goal.returns-in-Ok-certificate-clause-free
returns-in-Ok-certificate-clause-free g c full = not_so c.in-Ok.number error.NoLeaf _ c.in-Ok.ensures.no_leaf full

pub returns-in-Ok-certificate-clause-no_leaf : goal.returns-in-Ok-certificate-clause-no_leaf
returns-in-Ok-certificate-clause-no_leaf g c = (λ is. absurd (cc is), λ full. absurd (not_so c.in-Ok.number error.NoLeaf _ c.in-Ok.ensures.no_leaf full))
