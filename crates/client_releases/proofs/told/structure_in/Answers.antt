use Rattle.std.proofs.Common.{rules, arith, ◌≡◌, ◌==◌, false}
use Rattle.std.proofs.lemmas.Bool.Decides.{nat_tests}
use Rattle.pending_list.specs.Signed.{signed}
use Rattle.version_order.specs.Structure.{structure}
use Rattle.client_releases.specs.declared.error.ClientError.TheVariants as client
use Rattle.client_releases.proofs.Reading.{own_fault, own_found, other_tested}
use Rattle.client_releases.proofs.told.structure_in.Goals as goal

pub returns-in-Err-clause-damaged : goal.returns-in-Err-clause-damaged
returns-in-Err-clause-damaged g c is =
    own_fault (signed structure) (λ x. x.value.plan.user) c.args.user c.args.text.now c.in-Err.error
    (c.in-Err.ensures.exact (λ memory. let two : c.misread.result ≡ client.Memory = c.misread.ensures.memory memory in cc (two, is)))

pub returns-then-ne-clause-damaged : goal.returns-then-ne-clause-damaged
returns-then-ne-clause-damaged g c _ =
    let other : (c.in-Ok.structure.value.plan.user == c.args.user) ≡ false = grind (arith, nat_tests) in other_tested (signed structure) (λ x. x.value.plan.user) c.args.user c.args.text.now c.in-Ok.structure c.in-Ok.ensures.exact other

pub returns-clause-found : goal.returns-clause-found
returns-clause-found g c =
    let same : c.in-Ok.structure.value.plan.user ≡ c.args.user = search rules in own_found (signed structure) (λ x. x.value.plan.user) c.args.user c.args.text.now c.in-Ok.structure c.in-Ok.ensures.exact same
