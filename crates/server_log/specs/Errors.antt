-- Nobody has to believe this file: an aid of private contracts.
-- Errors of a log's records and of its calls, as errors of reading it back.
use Rattle.record_log.specs.declared.error.LogError.{LogError}
use Rattle.record_log.specs.declared.error.LogError.TheVariants as log
use Rattle.server_log.specs.declared.error.ReplayError.{ReplayError}
use Rattle.server_log.specs.declared.error.ReplayError.TheVariants as replay
use Rattle.server_log.specs.declared.error.OpenError.{OpenError}
use Rattle.server_log.specs.declared.error.OpenError.TheVariants as open_error

abbrev pub of_log_error : LogError → OpenError
of_log_error log.Device = open_error.Device
of_log_error log.Memory = open_error.Memory
of_log_error log.Damaged = open_error.Damaged

abbrev pub of_replay_error : ReplayError → OpenError
of_replay_error replay.Foreign = open_error.Foreign
of_replay_error replay.Memory = open_error.Memory
