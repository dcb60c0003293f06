use Rattle.std.proofs.Common.{Ok, Vec, ap, subst, sym, ℕ}
use Rattle.layout.specs.Types.{Bytes}
use Rattle.client_steps.specs.Steps.{HasSigned}
use Rattle.client_runs.proofs.signing.sign_and_tell.Goals as goal

pub told-requires : goal.told-requires
told-requires g c = rw c.in-Some-Ok.field-0-is at c.in-Some-Ok.ensures.view

pub returns-in_ok-told-in-Some-Ok-clause-signed : goal.returns-in_ok-told-in-Some-Ok-clause-signed
returns-in_ok-told-in-Some-Ok-clause-signed g c =
    let old = c.args.client.now in
    let new = c.sign.new.client in
    let done : HasSigned old (Ok c.in-Some-Ok.text.items) new = rw c.in-Some-Ok.field-0-is at c.in-Some-Ok.ensures.signed in
    subst (λ (t : Bytes). HasSigned old (Ok t) new) (sym (ap (λ (t : Vec ℕ g.row.A.Denot). t.items) c.in_ok-told-in-Some-Ok.ensures.text)) done

pub returns-in-Some-Err-clause-signed : goal.returns-in-Some-Err-clause-signed
returns-in-Some-Err-clause-signed g c = rw c.in-Some-Err.field-0-is at c.in-Some-Err.ensures.signed
