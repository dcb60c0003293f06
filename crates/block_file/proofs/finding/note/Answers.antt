use Rattle.std.proofs.Common.{refl, sym, ◌∙◌}
use Rattle.std.specs.BTreeMap.{get}
use Rattle.std.specs.Cmp.Lexicographic.{slice_cmp}
use Rattle.std.specs.Ordering.{nat_cmp}
use Rattle.block_file.proofs.Found.{further_known, further_noted}
use Rattle.block_file.proofs.Maps.{set_for, others_for}
use Rattle.block_file.proofs.Options.{at_some, at_none}
use Rattle.block_file.proofs.finding.note.Goals as goal

pub returns-then-is_some-clause-found : goal.returns-then-is_some-clause-found
returns-then-is_some-clause-found g c tells =
    let text = (g.S.Storage.history c.args.storage.now).now.text in
    let found = c.requires.found tells in
    let there = at_some c.in_ok-known.known _ (sym c.is_some.ensures ∙ c.if-is_some.true) c.in_ok-known.ensures.some in
    further_known text c.args.from (get (slice_cmp nat_cmp) c.args.index.now) found c.args.block.0 c.args.block.1 (c.requires.begins tells) there.0.items (there.1 tells found.blocks found.reaches found.index)

pub returns-clause-found : goal.returns-clause-found
returns-clause-found g c tells =
    let text = (g.S.Storage.history c.args.storage.now).now.text in
    let index = c.args.index.now in
    let block = c.args.block in
    let found = c.requires.found tells in
    let none = at_none c.in_ok-known.known _ (sym c.is_some.ensures ∙ c.if-is_some.false) c.in_ok-known.ensures.none in
    further_noted text c.args.from (get (slice_cmp nat_cmp) index) found block.0 block.1 (c.requires.begins tells) (get (slice_cmp nat_cmp) c.set_place.new.index)
    (set_for index c.set_place.new.index block.0 block.0 block.1 block.1 c.in_ok-set_place.ensures.ok refl refl)
    (others_for index c.set_place.new.index block.0 block.0 block.1 c.in_ok-set_place.ensures.ok refl)
    (none tells found.blocks found.reaches found.index)
