use Rattle.std.proofs.Common.{◌≡◌, ℕ, List, [], inl, inr, ◌∙◌, arith}
use Rattle.std.proofs.lemmas.List.{get_or-set_same, get_or-set_other, length-set}
use Rattle.std.proofs.lemmas.Bool.{cases_lt}
use Rattle.sha256_lanes.proofs.hashing.digests_of.Goals as goal

pub lanes-preserved : goal.lanes-preserved
lanes-preserved c =
    let digests : List (List ℕ) = c.lanes.digests in
    let number : ℕ = c.lanes.number in (
      length-set digests number c.digest_of.result ∙ c.lanes.invariant.0,
      λ i lt. elim (cases_lt i number) [
        | inl below ↦ get_or-set_other digests number i c.digest_of.result [] (omega arith) ∙ c.lanes.invariant.1 i below
        | inr last ↦ let same : number ≡ i = omega arith in
            rw (← same) (get_or-set_same digests number c.digest_of.result [] (omega arith) ∙ c.digest_of.ensures)
      ],
    )
