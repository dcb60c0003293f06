use Rattle.std.proofs.Common.{rules, ◌≡◌, List, ℕ, length, ◌∙◌, ap}
use Rattle.std.specs.Int.{w32, from_be_bytes}
use Rattle.record_log.proofs.Headers.{cells, header_so}
use Rattle.record_log.proofs.record.read_header.Goals as goal

pub returns-clause-header : goal.returns-clause-header
returns-clause-header c =
    let bytes = c.args.bytes.now in
    let size : length bytes ≡ 5 = search rules in
    header_so bytes c.from_be_bytes-size.result size c.fits-bytes (c.from_be_bytes-size.ensures ∙ ap (λ (l : List ℕ). from_be_bytes w32 l) (cells bytes size))
