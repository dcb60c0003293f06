use Rattle.itable.proofs.RootLaws.{listings_empty}
use Rattle.itable.proofs.KnownLaws.{keeps_empty}
use Rattle.itable.proofs.table.ITable.empty.Goals as goal

pub invariant_of-result : goal.invariant_of-result
invariant_of-result g c =
    rw (c.new.ensures.items, c.new-2.ensures.items, c.new-3.ensures.items) (keeps_empty c.args.principal c.get-number.ensures.fits)

pub returns-clause-listed : goal.returns-clause-listed
returns-clause-listed g c = rw (c.new.ensures.items, c.new-3.ensures.items) (listings_empty c.args.principal)
