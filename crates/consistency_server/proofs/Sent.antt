-- The order of calls may cross to another thread, where the texts that it keeps may.
use denote.RattleType.{RattleType}
use denote.Param.Send.{Frees, IsSend, IsSync, sendable}
use Rattle.std.specs.declared.alloc.Allocator.{Ghosts}
use Rattle.std.specs.contracts.snapshot.Snapshot as Snapshot
use Rattle.std.specs.contracts.vec.Vec as Vec
use Rattle.std.proofs.Crossing as owned
use Rattle.std.proofs.CrossingOver as over
use Rattle.std.proofs.MapsCrossing as maps
use Rattle.std.proofs.MapsCrossingOver as maps_over
use Rattle.version_order.specs.contracts.plan.Entries as Entries
use Rattle.update_cert.specs.contracts.change.Change as Change
use Rattle.principals.specs.contracts.table.Listing as Listing
use Rattle.principals.specs.contracts.table.Table as Table
use Rattle.version_order.specs.contracts.plan.Plan as Plan
use Rattle.version_order.specs.contracts.structure.Structure as Structure
use Rattle.version_order.specs.contracts.vector.Vector as Vector
use Rattle.update_cert.specs.contracts.cert.Cert as Cert
use Rattle.pending_list.specs.contracts.reply.PendingItem as Item
use Rattle.consistency_server.specs.contracts.call.Call as Call
use Rattle.consistency_server.specs.contracts.item.SpelledItem as SpelledItem
use Rattle.consistency_server.specs.contracts.payload.Payload as Payload
use Rattle.consistency_server.specs.contracts.placement.Placement as Placement
use Rattle.consistency_server.specs.contracts.server.Ordered as Ordered
use Rattle.consistency_server.specs.contracts.state.State as State
use Rattle.consistency_server.specs.contracts.structures.SpelledStructure as SpelledStructure

pub ruleset crosses = (sendable, owned.crosses, over.crosses, maps.crosses, maps_over.crosses)

module _ (A : RattleType) (a : Ghosts A.Denot) (s : IsSend A) (y : IsSync A) (f : Frees a a.dealloc_token) where
  listing : IsSend (Listing.the_row A a)
  listing = search crosses depth 60

  table : IsSend (Table.the_row A a)
  table = let l = listing in search crosses depth 60

  vector : IsSend (Vector.the_row A a)
  vector = search crosses depth 60

  entries : IsSend (Entries.the_row A a)
  entries = search crosses depth 60

  change : IsSend (Change.the_row A a)
  change = search crosses depth 60

  plan : IsSend (Plan.the_row A a)
  plan = let v = vector in let e = entries in search crosses depth 60

  cert : IsSend (Cert.the_row A a)
  cert = let c = change in search crosses depth 60

  item : IsSend (Item.the_row A a)
  item = let c = cert in let p = plan in search crosses depth 60

  spelled_item : IsSend (SpelledItem.the_row A a)
  spelled_item = let i = item in search crosses depth 60

  payload : IsSend (Payload.the_row A a)
  payload = search crosses depth 60

  placement : IsSend (Placement.the_row A a)
  placement = let i = spelled_item in let p = payload in search crosses depth 60

  structure : IsSend (Structure.the_row A a)
  structure = let p = plan in search crosses depth 60

  spelled_structure : IsSend (SpelledStructure.the_row A a)
  spelled_structure = let v = structure in search crosses depth 60

  state : IsSend (State.the_row A a)
  state = let t = table in let v = vector in let w = spelled_structure in let p = placement in search crosses depth 60

  past : IsSend (Vec.the_row (Snapshot.the_row (Call.the_row A a)) A a)
  past = search crosses depth 60

  pub ordered_send : IsSend (Ordered.the_row A a)
  ordered_send = let t = state in let p = past in search crosses depth 60
