use Rattle.std.proofs.Common.{◌≡◌, ℕ, List, ◌++◌, ◌∷◌, [], length, min, map, sym, ap, ◌∙◌, subst}
use Rattle.std.proofs.lemmas.List.{append-nil, map_push}
use Rattle.std.specs.Slice.Iter.{chunks_rest}
use Rattle.std.specs.Vec.{vec_items}
use Rattle.itable.specs.File.{blocks_of}
use Rattle.itable.proofs.Blocks.{no_block, next_block, one_on}
use Rattle.itable.proofs.FileLaws.{joined}
use Rattle.itable.proofs.file.blocks_of.Goals as goal

pub loop-block-preserved : goal.loop-block-preserved
loop-block-preserved g c =
    let steps = c.in-Some.ensures.steps in
    let left = chunks_rest c.loop-block.block-iterator in
    let after = chunks_rest c.next.new.self in
    let block = c.in-Some.block.now in
    let all = blocks_of c.args.bytes.now in
    let done = map vec_items c.loop-block.blocks.items in
    let size = steps.1.1 ∙ ap (λ (n : ℕ). min n (length left)) c.loop-block.invariant.size in
    let next = next_block left block after steps.1.0 size steps.1.2 in
    let more = ap (map vec_items) c.in_ok-push.ensures.items ∙ map_push vec_items c.loop-block.blocks.items c.in_ok-from_slice.field-0 ∙ ap (λ (b : List ℕ). done ++ b ∷ []) c.in_ok-from_slice.ensures.items in
    record {
      size = steps.0 ∙ c.loop-block.invariant.size;
      so_far = one_on done _ block (blocks_of after) all more (subst (λ (bs : List (List ℕ)). done ++ bs ≡ all) next c.loop-block.invariant.so_far);
    }

pub returns-clause-blocks : goal.returns-clause-blocks
returns-clause-blocks g c =
    let none = no_block (chunks_rest c.loop-block.block-iterator) c.in-None.ensures.steps.1.0 in
    let all = blocks_of c.args.bytes.now in
    let done = map vec_items c.loop-block.blocks.items in
    sym (append-nil done) ∙ subst (λ (bs : List (List ℕ)). done ++ bs ≡ all) none c.loop-block.invariant.so_far

-- ---- one after another they are the text

pub returns-clause-joined : goal.returns-clause-joined
returns-clause-joined g c = joined c.args.bytes.now

pub returns-in_err-from_slice-clause-joined : goal.returns-in_err-from_slice-clause-joined
returns-in_err-from_slice-clause-joined g c = joined c.args.bytes.now

pub returns-in_err-push-clause-joined : goal.returns-in_err-push-clause-joined
returns-in_err-push-clause-joined g c = joined c.args.bytes.now
