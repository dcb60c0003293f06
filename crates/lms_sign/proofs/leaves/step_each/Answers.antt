use Rattle.std.proofs.Common.{ℕ, ◌+◌, ◌*◌, List, [], slice_index, slice_index_or, ap, ◌∙◌, arith}
use Rattle.std.proofs.lemmas.List.{get_or-replicate}
use Rattle.sha2.specs.Sha256.{sha256}
use Rattle.sha256_lanes.specs.Lanes.{short_text}
use Rattle.lms_sign.proofs.Grouped.{short_step}
use Rattle.lms_sign.proofs.leaves.step_each.Goals as goal

pub returns : goal.returns
returns c i lt =
    let id : List ℕ = c.args.id.now in
    let leaf : ℕ = slice_index c.args.leaves i in
    let mark : ℕ = c.args.chain * 256 + c.args.number in
    let value : List ℕ = slice_index_or c.args.value.now i [] in
    c.hash_short.ensures i lt
    ∙ ap (λ m. sha256 (short_text id leaf m value)) (get_or-replicate 8 i _ 0 lt)
    ∙ short_step id value leaf c.args.chain c.args.number _ (omega arith) (omega arith) (omega arith)
