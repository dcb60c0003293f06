-- What a server keeps may cross to other threads.
use denote.RattleType.{RattleType}
use denote.Param.Send.{Frees, IsSend, IsSync}
use Rattle.std.specs.declared.alloc.Allocator.{Ghosts}
use Rattle.std.specs.declared.sync.ledger.Ledger as ledger
use Rattle.std.proofs.sync.ledger.Book.TheSendSync as Book
use Rattle.logbook.proofs.tokens.Seen.TheSendSync as Seen
use Rattle.logbook.proofs.word.Word.TheSendSync as Word
use Rattle.storage.specs.declared.storage.Storage as storage
use Rattle.record_log.specs.contracts.log.RecordLog as RecordLog
use Rattle.record_log.specs.contracts.record.Record as Record
use Rattle.block_file.specs.contracts.blocks.BlockFile as BlockFile
use Rattle.consistency_server.proofs.Sent.{crosses, ordered_send}
use Rattle.server_workers.specs.contracts.tally.Counter as Counter
use Rattle.kept_server.specs.declared.key.ServerKey as key
use Rattle.kept_server.specs.contracts.blocks.Blocks as Blocks
use Rattle.kept_server.specs.contracts.events.Beginning as Beginning
use Rattle.kept_server.specs.contracts.events.Events as Events
use Rattle.kept_server.specs.contracts.keeper.Keeper as Keeper
use Rattle.kept_server.specs.contracts.receipt.Receipt as Receipt
use Rattle.kept_server.specs.contracts.order.Order as Order
use Rattle.kept_server.specs.contracts.server.KeptServer as KeptServer
use Rattle.kept_server.specs.contracts.state.State as State
use Rattle.kept_server.specs.contracts.waiting.Waiting as Waiting
use Rattle.kept_server.proofs.state.State.TheSendSync as StateSend

module _ (S T A B L : RattleType) (s : storage.Ghosts S.Denot) (t : storage.Ghosts T.Denot) (a : Ghosts A.Denot) (b : key.Ghosts B.Denot) (l : ledger.Ghosts L.Denot) (ss : IsSend S)
    (st : IsSend T) (sa : IsSend A) (ya : IsSync A) (f : Frees a a.dealloc_token) (sb : IsSend B) where
  record_send : IsSend (Record.the_row A a)
  record_send = search crosses depth 60

  beginning_send : IsSend (Beginning.the_row B b)
  beginning_send = search (Seen.the_send, crosses) depth 60

  events_send : IsSend (Events.the_row B b)
  events_send = let g = beginning_send in search (Word.the_send, crosses) depth 60

  waiting_send : IsSend (Waiting.the_row A B a b)
  waiting_send = let r = record_send in let e = events_send in search crosses depth 60

  order_send : IsSend (Order.the_row A B a b)
  order_send = let o = ordered_send A a sa ya f in let w = waiting_send in search crosses depth 60

  log_send : IsSend (RecordLog.the_row S s)
  log_send = search crosses depth 60

  counter_send : IsSend (Counter.the_row L l)
  counter_send = let k = Book.the_send L l in search crosses depth 60

  keeper_send : IsSend (Keeper.the_row S B s b)
  keeper_send = let g = log_send in let e = beginning_send in search crosses depth 60

  receipt_send : IsSend (Receipt.the_row S B s b)
  receipt_send = let e = beginning_send in search crosses depth 60

  state_send : IsSend (State.the_row S B L s b l)
  state_send = let k = keeper_send in let r = receipt_send in let c = counter_send in search (StateSend.the_send, crosses) depth 60

  file_send : IsSend (BlockFile.the_row T A t a)
  file_send = search crosses depth 60

  blocks_send : IsSend (Blocks.the_row T A t a)
  blocks_send = let k = file_send in search crosses depth 60

  pub kept_sync : IsSync (KeptServer.the_row S T A B L s t a b l)
  kept_sync = let o = order_send in let g = state_send in let k = blocks_send in search crosses depth 60
