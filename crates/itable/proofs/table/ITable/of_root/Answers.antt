use Rattle.std.proofs.Common.{[]}
use Rattle.itable.proofs.KnownLaws.{keeps_nothing}
use Rattle.itable.proofs.ListedLaws.{is_table_of}
use Rattle.itable.proofs.RootLaws.{listings_of_root, handle_of_root}
use Rattle.itable.proofs.table.ITable.of_root.Goals as goal

pub invariant_of-result : goal.invariant_of-result
invariant_of-result g c =
    rw (c.principal.ensures.same, c.new.ensures.items, c.new-2.ensures.items, c.into_chunks.ensures.same) (keeps_nothing (record { principal = c.args.root.principal; pairs = []; unloaded = c.args.root.chunks }) (is_table_of c.args.root c.principal.ensures.fits))

pub returns-clause-listed : goal.returns-clause-listed
returns-clause-listed g c = rw (c.principal.ensures.same, c.new.ensures.items, c.into_chunks.ensures.same) (listings_of_root c.args.root c.principal.ensures.fits)

pub returns-clause-handle : goal.returns-clause-handle
returns-clause-handle g c = rw (c.principal.ensures.same, c.new.ensures.items, c.into_chunks.ensures.same) (handle_of_root c.args.root c.principal.ensures.fits)
