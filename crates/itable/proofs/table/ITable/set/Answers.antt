use Rattle.std.proofs.Common.{◌≡◌, ◌∙◌, true, ap}
use Rattle.itable.specs.declared.chunk.Pair.{Pair}
use Rattle.itable.specs.ITable.{ITable, loaded}
use Rattle.itable.proofs.KnownLaws.{keeps_set}
use Rattle.itable.proofs.TableLaws.{digests_set}
use Rattle.itable.proofs.table.ITable.set.Goals as goal

pub invariant_of-self : goal.invariant_of-self
invariant_of-self g c =
    let t : ITable = record { principal = c.self.inside.principal; pairs = c.self.inside.pairs.items; unloaded = c.self.inside.unloaded.items } in
    let x : Pair = record { i_number = c.args.i_number; digest = c.args.digest } in
    let here : loaded t c.args.i_number ≡ true = ap (λ (u : ITable). loaded u c.args.i_number) c.self.view_is ∙ c.requires.loaded in
    rw c.forget.ensures (keeps_set c.put.result t c.self.inside.known.items x c.put.new.pairs.items (c.get-number.ensures.fits, c.as_bytes-bytes.ensures.fits) here c.self.invariant c.put.ensures.ok c.put.ensures.err)

pub returns-clause-digests : goal.returns-clause-digests
returns-clause-digests g c =
    let t : ITable = record { principal = c.self.inside.principal; pairs = c.self.inside.pairs.items; unloaded = c.self.inside.unloaded.items } in
    let x : Pair = record { i_number = c.args.i_number; digest = c.args.digest } in
    rw (← c.self.view_is) (digests_set c.put.result t x c.put.new.pairs.items c.put.ensures.ok)
