use Rattle.std.proofs.Common.{◌≡◌, Ok, rules}
use Rattle.itable.specs.Inode.{inode}
use Rattle.itable.specs.InodeLaws.{lawful_inode}
use Rattle.itable.proofs.inode_text.InodeText.read_fields.Goals as goal

pub invariant_of-result : goal.invariant_of-result
invariant_of-result c =
    let read : inode.read c.args.reader.now ≡ Ok (record { kind = c.in_ok-kind.kind; size = c.in_ok-size.size; blocks = c.in_ok-blocks.blocks.now }, c.read_digests.new.reader) = search rules in
    (lawful_inode.takes _ _ _ c.tag.ensures.bytes read).fits
