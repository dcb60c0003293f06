use Rattle.client_verify.proofs.LaidLaws.{laid_anywhere}
use Rattle.client_verify.proofs.laid.laid_file_is_laid.Goals as goal

pub returns : goal.returns
returns g few = laid_anywhere g.args.file.now few
