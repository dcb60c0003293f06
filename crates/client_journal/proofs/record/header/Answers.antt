use Rattle.std.proofs.Common.{rules, ◌≡◌, length}
use Rattle.client_journal.specs.Records.{header}
use Rattle.client_journal.proofs.Headers.{four}
use Rattle.client_journal.proofs.record.header.Goals as goal

pub returns : goal.returns
unfolding header
returns c =
    let bytes = c.to_be_bytes.result in
    let size : length bytes ≡ 4 = search rules in
    let cells = four bytes size in
    cc
