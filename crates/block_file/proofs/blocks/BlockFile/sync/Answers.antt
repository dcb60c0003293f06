use Rattle.std.proofs.Common.{subst}
use Rattle.block_file.specs.Blocks.{BlockFile}
use Rattle.block_file.specs.Life.{Call}
use Rattle.block_file.proofs.Kept.{a_sync}
use Rattle.block_file.proofs.blocks.BlockFile.sync.Goals as goal

pub returns-clause-step : goal.returns-clause-step
returns-clause-step g c tells =
    let new = g.S.Storage.history c.sync.new.self in
    subst (λ (b : BlockFile). Call b.file new) c.self.view_is (a_sync (g.S.Storage.history c.self.inside.storage) new (c.in_ok-sync.ensures.ok tells))
