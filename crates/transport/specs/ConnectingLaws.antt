-- Nobody has to believe this file: laws, which are proved.
-- The faults of a transport that connects when it is first wanted.
use Rattle.std.proofs.Common.{arith, ◌≡◌, ◌+◌, ◌<◌, ◌≤◌, ℕ, min, Option, Result, Err, refl, ap, inl, inr}
use Rattle.layout.specs.Types.{Bytes}
use Rattle.leaf_ledger.specs.Device.{last_count, HasRisen}
use Rattle.transport.specs.Asked.{Asked}
use Rattle.transport.specs.Framing.{Standing}
use Rattle.transport.specs.Connecting.{Link, faults_of, link_faults, Joins, Reached}
use Rattle.transport.specs.declared.transport.TransportError.{TransportError}
use Rattle.transport.specs.declared.transport.TransportError.TheVariants.{Fault, Memory}

grows : (a b : ℕ) → a ≤ b → min a last_count ≤ min b last_count
grows a b up = omega arith

joins_few : (joined : Option Standing) (s : Standing) → Joins joined s → faults_of joined ≤ s.faults
joins_few joined s (inl is) = rw is (omega arith)
joins_few joined s (inr new) = rw new.0 (omega arith)

pub never_less : (before : Link) (asked : Asked) (result : Result Bytes TransportError) (now : Link)
    → Reached asked result before now → link_faults before ≤ link_faults now
never_less before asked result now (inl did) =
    let few = joins_few before.joined did.first did.joins in
    let more = did.exchanged.later in
    let total = ap faults_of did.joined in
    let same = did.refused in
    grows (before.refused + faults_of before.joined) (now.refused + faults_of now.joined)
    (omega (arith, few, more, total, same))
never_less before asked result now (inr did) =
    let none = ap faults_of did.apart in
    let still = ap faults_of did.still in
    let more = did.later in
    grows (before.refused + faults_of before.joined) (now.refused + faults_of now.joined)
    (omega (arith, none, still, more))

capped : (a b : ℕ) → (b < last_count → a < b) → HasRisen (min a last_count) (min b last_count)
capped a b up below = let h = up (omega (arith, below)) in omega (arith, below, h)

abbrev unanswered : TransportError → Result Bytes TransportError
unanswered e = Err e

no_fault : {X : Type 0} → unanswered Fault ≡ unanswered Memory → X
no_fault is = absurd cc

pub fault_rises : (before : Link) (asked : Asked) (now : Link)
    → Reached asked (Err Fault) before now → HasRisen (link_faults before) (link_faults now)
fault_rises before asked now (inl did) =
    let few = joins_few before.joined did.first did.joins in
    let total = ap faults_of did.joined in
    let same = did.refused in
    capped (before.refused + faults_of before.joined) (now.refused + faults_of now.joined)
    (λ below. let up = did.exchanged.rose refl (omega (arith, below, total)) in omega (arith, few, up, total, same))
fault_rises before asked now (inr did) =
    let none = ap faults_of did.apart in
    let still = ap faults_of did.still in
    capped (before.refused + faults_of before.joined) (now.refused + faults_of now.joined)
    (λ below. elim did.why [
      | inl rose ↦ (let up = rose.1 (omega (arith, below, still)) in omega (arith, none, still, up))
      | inr memory ↦ no_fault memory
    ])
