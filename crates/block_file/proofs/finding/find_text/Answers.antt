use Rattle.std.proofs.Common.{rules, ◌≡◌, sym}
use Rattle.std.specs.BTreeMap.{get}
use Rattle.std.specs.Cmp.Lexicographic.{slice_cmp}
use Rattle.std.specs.Ordering.{nat_cmp}
use Rattle.layout.specs.Hash.{hash}
use Rattle.block_file.proofs.Found.{read_inside, true_text, none_there}
use Rattle.block_file.proofs.finding.find_text.Goals as goal

pub read_bytes-requires : goal.read_bytes-requires
read_bytes-requires g c tells =
    let text = (g.S.Storage.history c.args.storage.now).now.text in
    let look = get (slice_cmp nat_cmp) c.args.index.now in
    read_inside text c.args.end look (c.requires tells) c.args.wanted.now c.in-Some.place (sym c.in-Some.ensures)

pub returns-then-eq-clause-some : goal.returns-then-eq-clause-some
returns-then-eq-clause-some g c tells blocks reaches index =
    let text = (g.S.Storage.history c.args.storage.now).now.text in
    let look = get (slice_cmp nat_cmp) c.args.index.now in
    let own : hash c.in_ok-text.text.items ≡ c.args.wanted.now = search rules in
    true_text text c.args.end look blocks reaches index c.args.wanted.now c.in-Some.place (sym c.in-Some.ensures) c.in_ok-text.text.items (c.in_ok-text.ensures.bytes tells) own

pub returns-else-eq-clause-none : goal.returns-else-eq-clause-none
returns-else-eq-clause-none g c tells blocks reaches index =
    let text = (g.S.Storage.history c.args.storage.now).now.text in
    let look = get (slice_cmp nat_cmp) c.args.index.now in
    let other : hash c.in_ok-text.text.items ≡ c.args.wanted.now → ⊥ = search rules in
    none_there text c.args.end look blocks reaches index c.args.wanted.now c.in-Some.place (sym c.in-Some.ensures) c.in_ok-text.text.items (c.in_ok-text.ensures.bytes tells) other
