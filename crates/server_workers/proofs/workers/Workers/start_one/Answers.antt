-- What a worker is given may cross to its thread: the server is shared, and its connection and its tally go with it.
use contract.Lifetimes.{Lfts}
use denote.Param.{param}
use denote.Param.Send.{IsSend, IsSync, param_send, param_sync, sendable}
use Rattle.server_workers.proofs.places.Place.TheSendSync as Place
use Rattle.server_workers.proofs.tally.WorkerTally.TheSendSync as WorkerTally
use Rattle.server_workers.proofs.workers.Workers.start_one.Given.{Over}
use Rattle.server_workers.proofs.workers.Workers.start_one.Lts.{arg-3-1}
use Rattle.server_workers.proofs.workers.Workers.start_one.Goals as goal

crosses : (g : Over) (κs : Lfts 9) → IsSync (param 3 g.row.G) → IsSend (param 4 g.row.C) → IsSync (param 5 g.row.S) → IsSync (param 6 g.row.R)
    → IsSend (param 1 (arg-3-1 g.row.A g.row.L g.row.E g.row.G g.row.C g.row.S g.row.R g.row.S-Receipt g.A.laws g.L.laws g.E.laws g.G.laws g.C.laws g.S.laws g.R.laws g.S.Receipt.laws g.A.copy g.A.Allocator g.A.Allocator-dict g.A.Clone
    g.A.Clone-dict g.L.Ledger g.L.Ledger-dict g.G.Gate g.G.Gate-dict g.C.Connection g.C.Connection-dict g.S.Serves g.S.Serves-dict g.R.Threads g.R.Threads-dict g.R.Wait g.R.Wait-dict g.R.Clock
    g.R.Clock-dict g.C.Destruct-dict g.S.Destruct-dict g.S.Receipt.Destruct-dict κs))
crosses g κs gate connection server runtime = search (Place.the_sync, WorkerTally.the_send, sendable) depth 20

pub spawn-first-requires-send-F : goal.spawn-first-requires-send-F
spawn-first-requires-send-F g c κs within =
    let t = c.type_bounds in crosses g κs (param_sync 3 _ t.sync-G) (param_send 4 _ t.send-C) (param_sync 5 _ t.sync-S) (param_sync 6 _ t.sync-R)

pub spawn-requires-send-F : goal.spawn-requires-send-F
spawn-requires-send-F g c κs within =
    let t = c.type_bounds in crosses g κs (param_sync 3 _ t.sync-G) (param_send 4 _ t.send-C) (param_sync 5 _ t.sync-S) (param_sync 6 _ t.sync-R)
