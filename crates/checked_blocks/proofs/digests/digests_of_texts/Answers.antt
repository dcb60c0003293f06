use Rattle.std.proofs.Common.{◌≡◌, ℕ, List, [], ◌++◌, length, map, sym, ap, ◌∙◌, subst, append_assoc, append-nil}
use Rattle.std.proofs.lemmas.List.{map-append, nil_from_length}
use Rattle.std.specs.Slice.Iter.{chunks_rest}
use Rattle.std.specs.Vec.{vec_items}
use Rattle.layout.specs.Hash.{hash}
use Rattle.checked_blocks.proofs.digests.digests_of_texts.Goals as goal

pub loop-group-preserved : goal.loop-group-preserved
loop-group-preserved g c =
    let steps = c.in-Some.ensures.steps in
    let after = chunks_rest c.next.new.self in
    let group = c.in-Some.group.now in
    let was = c.loop-group.digests.items in
    let next = ap (λ ts. map hash (map vec_items ts)) steps.1.0 ∙ ap (map hash) (map-append vec_items group after) ∙ map-append hash (map vec_items group) (map vec_items after) in
    record {
      size = steps.0 ∙ c.loop-group.invariant.size;
      so_far = ap (λ (d : List (List ℕ)). d ++ map hash (map vec_items after)) c.in_ok-push_digests.ensures
          ∙ append_assoc was (map hash (map vec_items group)) (map hash (map vec_items after))
          ∙ ap (λ (d : List (List ℕ)). was ++ d) (sym next)
          ∙ c.loop-group.invariant.so_far;
    }

pub returns : goal.returns
returns g c =
    let rest = chunks_rest c.loop-group.group-iterator in
    let none = ap (λ ts. map hash (map vec_items ts)) (nil_from_length rest c.in-None.ensures.steps.1.0) in
    let all = map hash (map vec_items c.args.texts.now) in
    sym (append-nil c.loop-group.digests.items) ∙ subst (λ (ds : List (List ℕ)). c.loop-group.digests.items ++ ds ≡ all) none c.loop-group.invariant.so_far
