use Rattle.lms_sign.proofs.Validity.{key_size, length-public_key, length-signature, valid_size}
use Rattle.lms_sign.proofs.laws.sizes.Goals as goal

pub returns-clause-key : goal.returns-clause-key
returns-clause-key c = key_size

pub returns-clause-public_key : goal.returns-clause-public_key
returns-clause-public_key c = length-public_key

pub returns-clause-signature : goal.returns-clause-signature
returns-clause-signature c = length-signature

pub returns-clause-valid : goal.returns-clause-valid
returns-clause-valid c = valid_size
