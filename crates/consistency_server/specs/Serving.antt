-- Nobody has to believe this file: an aid of private contracts.
-- The status of a call that wasn't carried out.
use Rattle.wire.specs.declared.kinds.Status.{Status}
use Rattle.wire.specs.declared.kinds.Status.TheVariants as status
use Rattle.consistency_server.specs.declared.refusal.Refusal.{Refusal}
use Rattle.consistency_server.specs.declared.refusal.Refusal.TheVariants.{Busy, Memory}

abbrev pub status_of : Refusal → Status
status_of Busy = status.Busy
status_of Memory = status.Memory
