use Rattle.lms_sign.proofs.Validity.{is_key-public, signed_valid}
use Rattle.lms_sign.proofs.laws.signed_is_valid.Goals as goal

pub returns-clause-key : goal.returns-clause-key
returns-clause-key c = is_key-public

pub returns-clause-signature : goal.returns-clause-signature
returns-clause-signature c = signed_valid
