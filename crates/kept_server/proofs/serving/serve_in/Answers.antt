-- The workers share what the server keeps.
use contract.Lifetimes.{Lfts}
use denote.Param.{copied, param}
use denote.Param.Send.{Frees, IsSend, IsSync, copied_send, copied_sync, param_send, sendable}
use Rattle.kept_server.proofs.Sent.{kept_sync}
use Rattle.kept_server.proofs.serving.serve_in.Given.{Over}
use Rattle.kept_server.proofs.serving.serve_in.Lts.{arg-2-4}
use Rattle.kept_server.proofs.serving.serve_in.Goals as goal

crosses : (g : Over) (κs : Lfts 10) → IsSend (param 4 g.row.S) → IsSend (param 5 g.row.T) → IsSend (copied 0 g.row.A) → IsSync (copied 0 g.row.A)
    → Frees g.A.Allocator g.A.Allocator.dealloc_token → IsSend (param 6 g.row.B)
    → IsSync (param 4 (arg-2-4 g.row.A g.row.G g.row.C g.row.I g.row.S g.row.T g.row.B g.row.L g.row.R g.A.laws g.G.laws g.C.laws g.I.laws g.S.laws g.T.laws g.B.laws g.L.laws g.R.laws g.A.copy
    g.A.Allocator g.A.Allocator-dict g.A.Clone g.A.Clone-dict g.G.Gate g.G.Gate-dict g.C.Connection g.C.Connection-dict g.I.Iterator g.I.Iterator-dict g.S.Storage g.S.Storage-dict g.T.Storage
    g.T.Storage-dict g.B.ServerKey g.B.ServerKey-dict g.L.Ledger g.L.Ledger-dict g.R.Threads g.R.Threads-dict g.R.Wait g.R.Wait-dict g.R.Clock g.R.Clock-dict g.C.Destruct-dict g.I.Destruct-dict
    g.S.Destruct-dict g.T.Destruct-dict κs))
crosses g κs first second send sync frees key =
    let kept = kept_sync (param 4 g.row.S) (param 5 g.row.T) (copied 0 g.row.A) (param 6 g.row.B) (param 7 g.row.L) g.S.Storage g.T.Storage g.A.Allocator g.B.ServerKey g.L.Ledger
    first second send sync frees key in
    search (kept, sendable) depth 20

pub serve_by-requires-sync-S : goal.serve_by-requires-sync-S
serve_by-requires-sync-S g c κs within =
    let t = c.type_bounds in crosses g κs (param_send 4 _ t.send-S) (param_send 5 _ t.send-T) (copied_send 0 _ t.send-A) (copied_sync 0 _ t.sync-A) t.frees-A-Allocator (param_send 6 _ t.send-B)
