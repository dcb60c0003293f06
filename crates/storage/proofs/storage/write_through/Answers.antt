use Rattle.std.proofs.Common.{◌∙◌}
use Rattle.storage.proofs.Whole.{whole_written}
use Rattle.storage.proofs.storage.write_through.Goals as goal

pub returns-in-Err-clause-err : goal.returns-in-Err-clause-err
returns-in-Err-clause-err g c tells =
    whole_written (g.S.Storage.history c.args.storage.now) (g.S.Storage.history c.sync.new.self) c.args.at c.args.bytes.now (c.requires tells) (c.in-Err.ensures.err ∙ c.in_ok-write_at.ensures.ok tells)
