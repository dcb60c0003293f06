use contract.Lifetimes.{Lfts}
use denote.Param.{copied, param}
use denote.Param.Send.{Frees, IsSend, IsSync, copied_send, copied_sync, param_sync, sendable}
use denote.Ref.{NamedLft}
use Rattle.std.proofs.Common.{subst}
use Rattle.server_workers.specs.Flushing.{IsFlushed}
use Rattle.server_workers.specs.declared.call_queue.Hand.{Hand}
use Rattle.server_workers.proofs.Sent.{shared_sync}
use Rattle.server_workers.proofs.server.serve_in.Given.{Over}
use Rattle.server_workers.proofs.server.serve_in.Lts.{arg-6-6}
use Rattle.server_workers.proofs.server.serve_in.Goals as goal

-- What the flusher wrote is of what was pushed, and that is what the history leaves in the log.
pub returns-clause-flushed : goal.returns-clause-flushed
returns-clause-flushed g c = subst (λ (h : Hand). IsFlushed c.finish-writer.result.flushed g.B.ServerName.before (g.W.Write.contents c.finish-writer.result.writer) h.sent) c.close-ordered.ensures.log c.finish-writer.ensures

-- The workers share what lies under the lock, the store, and the number of the last call.
crosses : (g : Over) (κs : Lfts 15) → IsSend (copied 0 g.row.A) → IsSync (copied 0 g.row.A) → Frees g.A.Allocator g.A.Allocator.dealloc_token → IsSync (param 7 g.row.R)
    → IsSync (param 6 (arg-6-6 g.row.A g.row.G g.row.C g.row.I g.row.W g.row.B g.row.L g.row.R g.A.laws g.G.laws g.C.laws g.I.laws g.W.laws g.B.laws g.L.laws g.R.laws g.A.copy g.A.Allocator
    g.A.Allocator-dict g.A.Clone g.A.Clone-dict g.G.Gate g.G.Gate-dict g.C.Connection g.C.Connection-dict g.I.Iterator g.I.Iterator-dict g.W.Write g.W.Write-dict g.B.ServerName g.B.ServerName-dict
    g.L.Ledger g.L.Ledger-dict g.R.Threads g.R.Threads-dict g.R.Wait g.R.Wait-dict g.R.Clock g.R.Clock-dict g.C.Destruct-dict g.I.Destruct-dict g.W.Destruct-dict κs))
crosses g κs send sync frees runtime =
    let shared = λ (ℓ : NamedLft).
    shared_sync ℓ (copied 0 g.row.A) (param 5 g.row.B) (param 6 g.row.L) (param 7 g.row.R) g.A.Allocator g.B.ServerName g.L.Ledger
    send sync frees runtime in
    search (shared, sendable) depth 20

pub serve_beside-flusher-requires-sync-S : goal.serve_beside-flusher-requires-sync-S
serve_beside-flusher-requires-sync-S g c κs within =
    let t = c.type_bounds in crosses g κs (copied_send 0 _ t.send-A) (copied_sync 0 _ t.sync-A) t.frees-A-Allocator (param_sync 7 _ t.sync-R)
