use Rattle.std.proofs.Common.{◌≡◌, ℕ, ◌+◌, ◌*◌, List, inl, inr, sym, ◌∙◌, arith}
use Rattle.std.proofs.lemmas.List.{get_or-set_same, get_or-set_other, length-set}
use Rattle.std.proofs.lemmas.Bool.{cases_lt}
use Rattle.sha256_lanes.proofs.Places.{word_in_part}
use Rattle.sha256_lanes.proofs.loading.words_at.Goals as goal

pub lanes-preserved : goal.lanes-preserved
lanes-preserved c =
    let words : List ℕ = c.lanes.words in
    let i : ℕ = c.lanes.i in (
      length-set words i c.word_in.result ∙ c.lanes.invariant.0,
      λ k lt. elim (cases_lt k i) [
        | inl below ↦ get_or-set_other words i k c.word_in.result 0 (omega arith) ∙ c.lanes.invariant.1 k below
        | inr last ↦ let same : i ≡ k = omega arith in
            rw (← same)
            (get_or-set_same words i c.word_in.result 0 (omega arith) ∙ c.word_in.ensures
            ∙ sym (word_in_part c.args.text.now (c.args.first + c.args.stride * i) 64 (4 * c.args.place) (omega arith)))
      ],
    )
