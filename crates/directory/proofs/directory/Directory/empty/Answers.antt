use Rattle.directory.proofs.Linking.{fits_empty}
use Rattle.directory.proofs.directory.Directory.empty.Goals as goal

pub invariant_of-result : goal.invariant_of-result
invariant_of-result g c = fits_empty c.new.result.items c.new.ensures.items
