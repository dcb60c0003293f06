use Rattle.std.proofs.Common.{◌≡◌, ℕ, ◌+◌, ◌-◌, ◌*◌, ◌<◌, ◌++◌, List, [], length, take, drop, slice_index_or, sym, ap, ◌∙◌, inl, inr, arith}
use Rattle.std.proofs.lemmas.List.{take_at}
use Rattle.std.proofs.lemmas.Bool.{cases_lt}
use Rattle.lms_sign.specs.OneTime.{key_of}
use Rattle.lms_sign.proofs.Drawn.{all_drawn}
use Rattle.lms_sign.proofs.private_key.drawn_keys.Goals as goal

pub loop-group-preserved : goal.loop-group-preserved
loop-group-preserved g c =
    let at : ℕ = c.loop-group.group in
    let was : List (List ℕ) = c.loop-group.keys.items in
    let new : List (List ℕ) = c.put_group.new.keys in
    let written : take c.loop-group.keys.len (new ++ drop (length new) was) ≡ new = take_at new (drop (length new) was) c.loop-group.keys.len (omega arith) in
    record {
      size = c.loop-group.invariant.size;
      keys = λ leaf below.
          ap (λ (l : List (List ℕ)). slice_index_or l leaf []) written
          ∙ elim (cases_lt leaf (8 * at)) [
            | inl before ↦ c.put_group.ensures.before leaf before
                ∙ ap (λ (l : List (List ℕ)). slice_index_or l leaf []) c.deref_mut.ensures.value
                ∙ c.loop-group.invariant.keys leaf before
            | inr last ↦ let same : 8 * at + (leaf - 8 * at) ≡ leaf = omega arith in
                ap (λ n. slice_index_or new n []) (sym same) ∙ c.put_group.ensures.group (leaf - 8 * at) (omega arith)
                ∙ c.leaf_keys-values.ensures (leaf - 8 * at) (omega arith) ∙ ap (key_of c.args.seed.now c.args.id.now) (omega arith)
          ];
    }

pub returns-clause-keys : goal.returns-clause-keys
returns-clause-keys g c =
    all_drawn c.args.seed.now c.args.id.now c.loop-group.keys.items (omega arith) (λ leaf below. let lt : leaf < 8 * c.loop-group.group = omega arith in c.loop-group.invariant.keys leaf lt)
