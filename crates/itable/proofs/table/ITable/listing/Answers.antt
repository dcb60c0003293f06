use Rattle.std.specs.Option.{option_map}
use Rattle.std.specs.Vec.{vec_items}
use Rattle.layout.specs.Hash.{hash}
use Rattle.itable.specs.ITable.{text_of_chunk}
use Rattle.std.proofs.Common.{◌≡◌, ◌∙◌, Some, sym, ap}
use Rattle.itable.specs.ITable.{ITable}
use Rattle.itable.proofs.KnownLaws.{keeps_less, keeps_more}
use Rattle.itable.proofs.table.ITable.listing.Goals as goal

pub invariant_of-self-2 : goal.invariant_of-self-2
invariant_of-self-2 g c =
    let t : ITable = record { principal = c.self.inside.principal; pairs = c.self.inside.pairs.items; unloaded = c.self.inside.unloaded.items } in
    let text = c.in-Some-2.text.items in
    let digest = c.digest-digest.ensures.hash ∙ ap hash c.deref-3.ensures.value in
    let is : text_of_chunk t c.args.number ≡ Some text = ap (λ (u : ITable). text_of_chunk u c.args.number) c.self.view_is ∙ sym c.in_ok-text.ensures.text ∙ ap (option_map vec_items) c.in-Some-2.is in
    let roomy = c.make_room.new.known.items in
    let kept = keeps_less t c.self.inside.known.items roomy c.self.invariant c.make_room.ensures in
    rw (c.set_known.ensures, digest) (keeps_more t roomy c.args.number text kept is)
