-- Nobody has to believe this file: an aid of private contracts.
-- How far a log is read back.
use Rattle.std.specs.Prelude.{◌≡◌, reverse}
use Rattle.record_log.specs.Records.{Reading, HasRead}
use Rattle.consistency_server.specs.History.{Ordered, log_of}
use Rattle.server_log.specs.KeptLog.{records_of}

-- each call of the order's history went to its log
abbrev pub AllLogged : Ordered → Type 0
AllLogged order = log_of order.pinned order.history ≡ reverse order.history

-- the records that were read are those of the order's calls
abbrev pub IsReadBack : Ordered → Reading → Type 0
IsReadBack order reading = HasRead (records_of order.pinned (reverse order.history)) reading
