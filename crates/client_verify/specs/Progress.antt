-- Nobody has to believe this file: an aid of private contracts.
-- How far a client is with the reply to its operation, as it is in memory.
use Rattle.std.specs.Prelude.{Option, Some, None}
use Rattle.client_verify.specs.declared.view.Progress.{Progress}
use Rattle.client_verify.specs.declared.view.Progress.TheVariants as progress
use Rattle.client_verify.specs.State.{Checked, Ready}

-- the reply under check
abbrev pub checked_of : {A : Type 0} → Progress A → Option Checked
checked_of progress.None = None
checked_of (progress.Checking k) = Some k
checked_of (progress.Accepted r) = None

-- the accepted reply, which isn't signed yet
abbrev pub accepted_of : {A : Type 0} → Progress A → Option Ready
accepted_of progress.None = None
accepted_of (progress.Checking k) = None
accepted_of (progress.Accepted r) = Some r
