use Rattle.std.proofs.Common.{refl}
use Rattle.itable.specs.ITable.{ITable}
use Rattle.itable.proofs.KnownLaws.{keeps_less}
use Rattle.itable.proofs.LoadLaws.{Place, keeps_loaded, is_loaded_in}
use Rattle.itable.proofs.table.ITable.load.Goals as goal

pub invariant_of-self-2 : goal.invariant_of-self-2
invariant_of-self-2 g c =
    let t : ITable = record { principal = c.self.inside.principal; pairs = c.self.inside.pairs.items; unloaded = c.self.inside.unloaded.items } in
    let number = c.number-number.ensures.same in
    let counted : Place c.deref.result.now c.get.result c.count_below-place.result = record { inside = c.count_below-place.ensures.inside; below = c.count_below-place.ensures.below; from = c.count_below-place.ensures.from } in
    let place = rw (c.get.ensures.same, number, c.deref.ensures.value) at counted in
    let at = rw (← c.self.view_is, c.requires.digest) at c.requires.listed in
    let roomy = c.make_room.new.known.items in
    let kept = keeps_less t c.self.inside.known.items roomy c.self.invariant c.make_room.ensures in
    rw (c.in_ok-put_run.ensures.ok, c.pairs.ensures, c.take_listed.ensures, c.set_known.ensures, number, c.requires.digest)
    (keeps_loaded t c.args.chunk.now c.count_below-place.result c.self.invariant.is_table c.number-number.ensures.fits at place roomy kept)

pub returns : goal.returns
returns g c =
    let t : ITable = record { principal = c.self.inside.principal; pairs = c.self.inside.pairs.items; unloaded = c.self.inside.unloaded.items } in
    let number = c.number-number.ensures.same in
    let counted : Place c.deref.result.now c.get.result c.count_below-place.result = record { inside = c.count_below-place.ensures.inside; below = c.count_below-place.ensures.below; from = c.count_below-place.ensures.from } in
    let place = rw (c.get.ensures.same, number, c.deref.ensures.value) at counted in
    let at = rw (← c.self.view_is, c.requires.digest) at c.requires.listed in
    let all = is_loaded_in t c.args.chunk.now c.count_below-place.result c.self.invariant.is_table c.number-number.ensures.fits at place in
    rw (c.in_ok-put_run.ensures.ok, c.pairs.ensures, c.take_listed.ensures, number, ← c.self.view_is)
    (record { principal = refl; unloaded = refl; loaded = all.loaded; digests = all.digests; last = all.last; listed = all.listed; handle = all.handle; err = tt })
