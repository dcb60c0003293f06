-- The place was tested, or is at most the number of structures.
use Rattle.std.proofs.Common.{arith, ap}
use Rattle.std.specs.Prelude.{length}
use Rattle.hostile_server.proofs.lists.put.Goals as goal

pub index_mut-requires : goal.index_mut-requires
index_mut-requires g c = omega (arith, c.is_at.ensures c.if-is_at.true, c.deref-2.ensures.len)

pub insert-requires : goal.insert-requires
insert-requires g c = omega (arith, c.place_of-place.ensures, ap length c.deref.ensures.value)
