use Rattle.std.proofs.Common.{arith, sym, subst}
use Rattle.principals.specs.Kept.{AreUsers}
use Rattle.principals.specs.TableTextLaws.{lawful_users}
use Rattle.principals.proofs.MarksLaws.{no_marks}
use Rattle.principals.proofs.Parts.{some_users, head_off}
use Rattle.principals.proofs.Users.{are_users}
use Rattle.principals.proofs.reading.read_users.Goals as goal

pub remove-superuser-requires : goal.remove-superuser-requires
remove-superuser-requires g c =
    let us = c.in_ok-others.others.items in
    let are = are_users us (lawful_users.takes _ us _ c.read_listings.ensures.bytes c.in_ok-others.ensures.reads).fits in
    omega (arith, some_users us are, c.in_ok-others.others.ok)

pub invariant_of-result : goal.invariant_of-result
invariant_of-result g c =
    let us = c.in_ok-others.others.items in
    let are = are_users us (lawful_users.takes _ us _ c.read_listings.ensures.bytes c.in_ok-others.ensures.reads).fits in
    let all = head_off us c.remove-superuser.new.self.items c.remove-superuser.result (some_users us are) c.remove-superuser.ensures.value c.remove-superuser.ensures.items in
    rw c.new.ensures.items (record {
      listed = subst AreUsers (sym all) are;
      few = omega arith;
      marked = no_marks c.no_marks.result c.no_marks.ensures;
    })
