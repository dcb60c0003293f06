use Rattle.tree_parts.proofs.ReadingLaws.{file_read}
use Rattle.tree_parts.proofs.TakenLaws.{file_read_taken}
use Rattle.tree_parts.proofs.reading.read_file.Goals as goal

pub returns-clause-found : goal.returns-clause-found
returns-clause-found g c = file_read (g.B.Blocks.held c.args.blocks.now) c.args.inode.now c.text_of.result c.text_of.ensures.joined c.text_of.ensures.size

pub returns-clause-taken : goal.returns-clause-taken
returns-clause-taken g c = file_read_taken (g.B.Blocks.held c.args.blocks.now) c.args.digest c.args.inode.now c.text_of.result c.text_of.ensures.fits c.requires.held c.requires.file c.text_of.ensures.sized
