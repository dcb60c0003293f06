use Rattle.std.proofs.Common.{◌≡◌, ◌-◌, ◌<◌, ◌≤◌, [], true, false}
use Rattle.record_log.specs.Records.{HasRead}
use Rattle.server_log.specs.Reading.{AllLogged, IsReadBack}
use Rattle.server_log.proofs.reading.read_back.Given as goal

abbrev pub invariant-loop-order : goal.invariant-loop-order
invariant-loop-order g l = record {
  inside : l.reader.place < l.reader.size;
  file : l.reader.file ≡ l.fn.reader.file;
  pinned : l.order.pinned ≡ l.fn.pinned;
  logged : AllLogged l.order;
  read : g.S.Storage.tells ≡ true → HasRead [] l.fn.reader → IsReadBack l.order l.reader;
  more : l.fn.reader.ended ≡ false;
  later : l.fn.reader.faults ≤ l.reader.faults;
}

abbrev pub decreases-loop-order : goal.decreases-loop-order
decreases-loop-order g l = l.reader.size - l.reader.place
