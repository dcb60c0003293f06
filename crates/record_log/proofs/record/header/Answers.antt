use Rattle.std.proofs.Common.{rules, ◌≡◌, length}
use Rattle.record_log.specs.Records.{header}
use Rattle.record_log.proofs.Headers.{four}
use Rattle.record_log.proofs.record.header.Goals as goal

pub returns : goal.returns
unfolding header
returns c =
    let bytes = c.to_be_bytes.result in
    let size : length bytes ≡ 4 = search rules in
    let cells = four bytes size in
    cc
