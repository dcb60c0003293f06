use Rattle.block_file.proofs.Kept.{a_sync, at_most_a_sync}
use Rattle.block_file.proofs.blocks.BlockFile.open.Goals as goal

pub returns-in-Ok-clause-step : goal.returns-in-Ok-clause-step
returns-in-Ok-clause-step g c tells = a_sync (g.S.Storage.history c.args.storage) (g.S.Storage.history c.read_blocks.new.storage) (c.in-Ok.ensures.synced tells)

pub returns-in-Err-clause-step_err : goal.returns-in-Err-clause-step_err
returns-in-Err-clause-step_err g c tells = at_most_a_sync (g.S.Storage.history c.args.storage) (g.S.Storage.history c.read_blocks.new.storage) (c.in-Err.ensures.synced_err tells)
