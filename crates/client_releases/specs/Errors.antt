-- Nobody has to believe this file: an aid of private contracts.
-- What an error of a ledger or of a journal is to a client.
use Rattle.leaf_ledger.specs.declared.error.LedgerError.{LedgerError}
use Rattle.leaf_ledger.specs.declared.error.LedgerError.TheVariants as ledger
use Rattle.client_journal.specs.declared.error.JournalError.{JournalError}
use Rattle.client_journal.specs.declared.error.JournalError.TheVariants as journal
use Rattle.client_releases.specs.declared.error.ClientError.{ClientError}
use Rattle.client_releases.specs.declared.error.ClientError.TheVariants as client

abbrev pub of_ledger : LedgerError → ClientError
of_ledger ledger.NoLeaf = client.NoLeaf
of_ledger ledger.Device = client.Device
of_ledger ledger.Foreign = client.Foreign

abbrev pub of_journal : JournalError → ClientError
of_journal journal.Device = client.Device
of_journal journal.Memory = client.Memory
of_journal journal.Damaged = client.Damaged
