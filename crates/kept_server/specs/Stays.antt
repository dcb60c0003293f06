-- What was told stays told, over every life of a server's log: its calls, crashes between and inside them, and starts.
use Rattle.std.specs.Prelude.{◌++◌, List}
use Rattle.layout.specs.Types.{Bytes, Key}
use Rattle.leaf_ledger.specs.Device.{History}
use Rattle.record_log.specs.Life.{Event, IsLife, IsPossible, end_of}
use Rattle.consistency_server.specs.Answers.{Answer, Call}
use Rattle.server_log.specs.KeptLog.{IsLogOf, records_of}
use Rattle.server_workers.specs.Conversation.{TellsSynced}
use Rattle.kept_server.specs.Kept.{HasSynced, Tell}

-- A server was opened over this log, which told these calls, and answered a call: the answer tells of these calls and of
-- some that are in its log, synced, at a later moment.
pub record WasTold (pinned : Key) (opened : History) (told : List Call) (call : Call) (reply : Answer)
    (log : History) : Type 0 where
  pub tell : Tell (records_of pinned told) opened
  pub since : List Call
  pub tells : TellsSynced pinned (told ++ since) call reply
  pub synced : HasSynced opened since log

-- Whatever comes after that moment, if the file is the log of some calls, as a start finds them, then the answer tells of
-- these calls alone: it is one after a history that they begin with.
abbrev pub ToldStays : Type 0
ToldStays = (pinned : Key) (opened : History) (told : List Call) (call : Call) (reply : Answer) (log : History)
    → WasTold pinned opened told call reply log → (events : List Event) → IsLife log events
    → (file : Bytes) → IsPossible (end_of log events) file → (calls : List Call) → IsLogOf pinned calls file
    → TellsSynced pinned calls call reply
