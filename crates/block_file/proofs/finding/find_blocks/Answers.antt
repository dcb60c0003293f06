use Rattle.std.proofs.Common.{refl, arith}
use Rattle.std.specs.BTreeMap.{get}
use Rattle.std.specs.Cmp.Lexicographic.{slice_cmp}
use Rattle.std.specs.Ordering.{nat_cmp}
use Rattle.block_file.proofs.Found.{first}
use Rattle.block_file.proofs.Maps.{no_places}
use Rattle.block_file.proofs.finding.find_blocks.Goals as goal

pub loop-index-init : goal.loop-index-init
loop-index-init g c = record {
  inside = omega arith;
  same = refl;
  found = λ tells. first (g.S.Storage.history c.args.storage.now).now.text (get (slice_cmp nat_cmp) c.new-index.result) (no_places c.new-index.result c.new-index.ensures.empty);
  later = omega arith;
}
