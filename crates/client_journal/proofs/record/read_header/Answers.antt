use Rattle.std.proofs.Common.{rules, ◌≡◌, ℕ, List, length, sym, ◌∙◌, ap}
use Rattle.std.specs.Int.{w32, from_be_bytes}
use Rattle.client_journal.proofs.Headers.{cells, header_so}
use Rattle.client_journal.proofs.record.read_header.Goals as goal

pub returns-in-None-clause-other_kind : goal.returns-in-None-clause-other_kind
returns-in-None-clause-other_kind c = sym c.of.ensures ∙ c.in-None.is

pub returns-in-Some-clause-header : goal.returns-in-Some-clause-header
returns-in-Some-clause-header c =
    let bytes = c.args.bytes.now in
    let size : length bytes ≡ 5 = search rules in
    let number = c.from_be_bytes-size.ensures ∙ ap (λ (l : List ℕ). from_be_bytes w32 l) (cells bytes size) in
    header_so bytes c.in-Some.kind c.from_be_bytes-size.result size c.fits-bytes (sym c.of.ensures ∙ c.in-Some.is) number
