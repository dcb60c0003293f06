use Rattle.std.proofs.Common.{◌≡◌, ℕ, ◌+◌, ◌*◌, ◌++◌, List, [], length, take, drop, slice_index_or, ap, ◌∙◌, inl, inr, arith}
use Rattle.std.proofs.lemmas.List.{get_or_read, take_at}
use Rattle.std.proofs.lemmas.Bool.{cases_lt}
use Rattle.lms_sign.proofs.private_key.grouped_keys.Goals as goal

pub loop-group-preserved : goal.loop-group-preserved
loop-group-preserved g c =
    let at : ℕ = c.loop-group.group in
    let groups : List (List (List ℕ)) = c.args.groups.now in
    let was : List (List ℕ) = c.loop-group.keys.items in
    let new : List (List ℕ) = c.put_group.new.keys in
    let written : take c.loop-group.keys.len (new ++ drop (length new) was) ≡ new = take_at new (drop (length new) was) c.loop-group.keys.len (omega arith) in
    let read : c.index-groups-group.result ≡ slice_index_or groups at [] = get_or_read groups at c.index-groups-group.result (omega arith) c.index-groups-group.is [] in
    record {
      size = c.loop-group.invariant.size;
      keys = λ group i below lt.
          ap (λ (l : List (List ℕ)). slice_index_or l (8 * group + i) []) written
          ∙ elim (cases_lt group at) [
            | inl before ↦ c.put_group.ensures.before (8 * group + i) (omega arith)
                ∙ ap (λ (l : List (List ℕ)). slice_index_or l (8 * group + i) []) c.deref_mut.ensures.value
                ∙ c.loop-group.invariant.keys group i before lt
            | inr last ↦ let same : at ≡ group = omega arith in
                rw (← same) (c.put_group.ensures.group i lt ∙ ap (λ (l : List (List ℕ)). slice_index_or l i []) read)
          ];
    }
