use Rattle.std.proofs.Common.{◌≡◌, drop}
use Rattle.client_verify.specs.Laid.{are_blocks_laid}
use Rattle.client_verify.proofs.laid.has_blocks.Given as goal

abbrev pub invariant-loop-place : goal.invariant-loop-place
invariant-loop-place g l =
    are_blocks_laid l.laid l.inode.size l.place (drop l.place l.inode.blocks) ≡ are_blocks_laid l.laid l.inode.size 0 l.inode.blocks
