-- What is synced stays so where nothing is written.
use Rattle.std.proofs.Common.{◌≡◌, Bool, true, sym, subst}
use Rattle.block_file.specs.Blocks.{BlockFile}
use Rattle.kept_server.specs.Synced.{AllSafe}

abbrev pub IfSynced : Bool → Bool → BlockFile → Type 0
IfSynced is_synced tells b = is_synced ≡ true → b.usable ≡ true → tells ≡ true → AllSafe b.file

pub untouched : (is_synced tells : Bool) (old new : BlockFile) → new ≡ record old { faults = new.faults } → IfSynced is_synced tells old → IfSynced is_synced tells new
untouched is_synced tells old new same was = subst (λ (b : BlockFile). IfSynced is_synced tells b) (sym same) was
