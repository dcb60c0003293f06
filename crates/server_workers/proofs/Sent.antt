-- What the workers share may cross to other threads.
use denote.RattleType.{RattleType}
use denote.Ref.{NamedLft}
use denote.Param.Send.{Frees, IsSend, IsSync}
use Rattle.std.specs.declared.alloc.Allocator.{Ghosts}
use Rattle.std.specs.declared.sync.ledger.Ledger as ledger
use Rattle.std.proofs.sync.ledger.Book.TheSendSync as Book
use Rattle.block_store.proofs.store.Store.TheSendSync as Store
use Rattle.consistency_server.proofs.Sent.{crosses, ordered_send}
use Rattle.server_workers.specs.declared.call_queue.ServerName as name
use Rattle.server_workers.specs.contracts.locked.Locked as Locked
use Rattle.server_workers.specs.contracts.shared.Shared as Shared
use Rattle.server_workers.proofs.queue_log.QueueLog.TheSendSync as QueueLog

module _ (ℓ : NamedLft) (A B L R : RattleType) (a : Ghosts A.Denot) (b : name.Ghosts B.Denot) (l : ledger.Ghosts L.Denot) (s : IsSend A) (y : IsSync A) (f : Frees a a.dealloc_token)
    (yr : IsSync R) where
  pub locked_send : IsSend (Locked.the_row ℓ A B L R a b l)
  locked_send = let o = ordered_send A a s y f in let q = QueueLog.the_send ℓ A B R a b s y yr f in let k = Book.the_send L l in search crosses depth 60

  pub shared_sync : IsSync (Shared.the_row ℓ A B L R a b l)
  shared_sync = let o = locked_send in let t = Store.the_sync A a s y f in search crosses depth 60
