use Rattle.std.proofs.Common.{◌≡◌, ℕ, List, ◌++◌, ◌∷◌, [], length, min, map, sym, ap, ◌∙◌, subst}
use Rattle.std.proofs.lemmas.List.{append-nil}
use Rattle.std.specs.Slice.Iter.{chunks_rest}
use Rattle.layout.specs.Hash.{hash}
use Rattle.itable.specs.File.{blocks_of}
use Rattle.itable.proofs.Blocks.{no_block, next_block, one_on}
use Rattle.itable.proofs.file.push_each.Goals as goal

pub loop-block-preserved : goal.loop-block-preserved
loop-block-preserved g c =
    let steps = c.in-Some.ensures.steps in
    let left = chunks_rest c.loop-block.block-iterator in
    let after = chunks_rest c.next.new.self in
    let block = c.in-Some.block.now in
    let all = c.args.digests.now.items ++ map hash (blocks_of c.args.bytes.now) in
    let size = steps.1.1 ∙ ap (λ (n : ℕ). min n (length left)) c.loop-block.invariant.size in
    let next = next_block left block after steps.1.0 size steps.1.2 in
    record {
      size = steps.0 ∙ c.loop-block.invariant.size;
      so_far = one_on c.loop-block.digests.items _ (hash block) (map hash (blocks_of after)) all (c.in_ok-push.ensures.items ∙ ap (λ (d : List ℕ). c.loop-block.digests.items ++ d ∷ []) c.digest.ensures.hash)
          (subst (λ (bs : List (List ℕ)). c.loop-block.digests.items ++ map hash bs ≡ all) next c.loop-block.invariant.so_far);
    }

pub returns : goal.returns
returns g c =
    let none = no_block (chunks_rest c.loop-block.block-iterator) c.in-None.ensures.steps.1.0 in
    let all = c.args.digests.now.items ++ map hash (blocks_of c.args.bytes.now) in
    sym (append-nil c.loop-block.digests.items) ∙ subst (λ (bs : List (List ℕ)). c.loop-block.digests.items ++ map hash bs ≡ all) none c.loop-block.invariant.so_far
