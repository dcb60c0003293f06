use Rattle.itable.proofs.FileLaws.{joined, are_blocks, reads_again, known}
use Rattle.itable.proofs.file.laws_hold.Goals as goal

pub returns : goal.returns
returns c = record {
  joined = joined c.args.file.now;
  whole_blocks = are_blocks c.args.file.now;
  reads = reads_again c.args.file.now;
  known = known c.args.file.now;
}
