use Rattle.std.proofs.Common.{length, refl}
use Rattle.block_file.specs.Blocks.{end_mark}
use Rattle.block_file.proofs.Heads.{laid}
use Rattle.block_file.proofs.head.laid_out.Goals as goal

pub returns : goal.returns
returns g c =
    laid c.new-bytes.result.items c.to_be_bytes.result c.as_bytes.result.now c.args.text.now end_mark c.extend_from_slice.new.self.items c.extend_from_slice-2.new.self.items c.extend_from_slice-3.new.self.items
    c.extend_from_slice-4.new.self.items (length c.args.text.now) c.args.digest.now
    c.new-bytes.ensures.items c.to_be_bytes.ensures c.as_bytes.ensures.same refl
    c.in_ok-extend_from_slice.ensures.items c.in_ok-extend_from_slice-2.ensures.items c.in_ok-extend_from_slice-3.ensures.items c.in_ok-extend_from_slice-4.ensures.items
