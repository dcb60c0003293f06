-- What is told of an accepted view.
use Rattle.std.proofs.Common.{◌≡◌, Option, Some, None, IsSomeAnd, sym, ◌∙◌}
use Rattle.client_verify.specs.State.{AcceptedView}
use Rattle.client_runs.specs.declared.world.Accepted.{Accepted}
use Rattle.client_runs.specs.Told.{IsAcceptedBy}

-- what is lent of a view, and a copy of that
pub copied : {V X : Type 0} (part : V → X) (view : Option V) (lent copy : X) → copy ≡ lent → IsSomeAnd view (λ v. part v ≡ lent) → IsSomeAnd view (λ v. part v ≡ copy)
copied part (Some v) lent copy same h = h ∙ sym same
copied part None lent copy same h = h

-- what a client lends of its view, and copies of that
pub accepted_by : {A : Type 0} (x : Accepted A) (view : Option AcceptedView)
    → IsSomeAnd view (λ v. v.structures ≡ x.structures.items) → IsSomeAnd view (λ v. v.table ≡ x.table) → IsSomeAnd view (λ v. v.lost ≡ x.lost.items)
    → IsAcceptedBy x view
accepted_by x (Some v) structures table lost = (sym structures, sym table, sym lost)
accepted_by x None structures table lost = structures
