use Rattle.std.proofs.Common.{ap, arith, length}
use Rattle.principals.proofs.MarksLaws.{no_marks}
use Rattle.principals.proofs.Users.{first_users, first_fits}
use Rattle.principals.proofs.table.Table.genesis.Goals as goal

pub invariant_of-result : goal.invariant_of-result
invariant_of-result g c = omega (arith, ap length c.new.ensures.items)

pub invariant_of-result-2 : goal.invariant_of-result-2
invariant_of-result-2 g c =
    rw (c.new-2.ensures.items, c.new-3.ensures.items, c.new.ensures.items, c.superuser.ensures) (record {
      listed = first_users c.args.key c.key_invariant.ensures;
      few = omega arith;
      marked = no_marks c.no_marks.result c.no_marks.ensures;
    })

pub returns-clause-fits : goal.returns-clause-fits
returns-clause-fits g c = first_fits c.args.key c.key_invariant.ensures
