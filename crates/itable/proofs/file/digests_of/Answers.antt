use Rattle.std.proofs.Common.{◌≡◌, ℕ, ◌+◌, List, ◌++◌, [], length, length-append, min, map, sym, ap, ◌∙◌, subst, inl, inr, append_assoc, arith}
use Rattle.std.proofs.lemmas.Bool.{cases_lt}
use Rattle.std.proofs.lemmas.List.{append-nil, map-append, nil_from_length}
use Rattle.std.specs.Slice.Iter.{chunks_rest}
use Rattle.layout.specs.Hash.{hash}
use Rattle.itable.specs.File.{blocks_of, pieces}
use Rattle.itable.proofs.Blocks.{no_block, blocks_after}
use Rattle.itable.proofs.file.digests_of.Goals as goal

-- the blocks of a piece, and of what stands after it
split : (left piece after : List ℕ) → left ≡ piece ++ after → length piece ≡ min 32768 (length left) → blocks_of left ≡ blocks_of piece ++ blocks_of after
unfolding pieces
split left piece after whole is =
    let all : length left ≡ length piece + length after = ap length whole ∙ length-append piece after in
    ap blocks_of whole
    ∙ elim (cases_lt (length piece) 32768) [
      | inl short ↦
          let none : after ≡ [] = nil_from_length after (omega arith) in
          rw none (ap blocks_of (append-nil piece) ∙ sym (append-nil (blocks_of piece)))
      | inr full ↦ blocks_after 8 piece after (omega arith)
    ]

pub loop-piece-preserved : goal.loop-piece-preserved
loop-piece-preserved g c =
    let steps = c.in-Some.ensures.steps in
    let left = chunks_rest c.loop-piece.piece-iterator in
    let after = chunks_rest c.next.new.self in
    let piece = c.in-Some.piece.now in
    let all = map hash (blocks_of c.args.bytes.now) in
    let was = c.loop-piece.digests.items in
    let size = steps.1.1 ∙ ap (λ (n : ℕ). min n (length left)) c.loop-piece.invariant.size in
    let next = split left piece after steps.1.0 size in
    record {
      size = steps.0 ∙ c.loop-piece.invariant.size;
      so_far = ap (λ (d : List (List ℕ)). d ++ map hash (blocks_of after)) c.in_ok-push_blocks.ensures
          ∙ append_assoc was (map hash (blocks_of piece)) (map hash (blocks_of after))
          ∙ ap (λ (d : List (List ℕ)). was ++ d) (sym (map-append hash (blocks_of piece) (blocks_of after)) ∙ ap (map hash) (sym next))
          ∙ c.loop-piece.invariant.so_far;
    }

pub returns : goal.returns
returns g c =
    let none = no_block (chunks_rest c.loop-piece.piece-iterator) c.in-None.ensures.steps.1.0 in
    let all = map hash (blocks_of c.args.bytes.now) in
    sym (append-nil c.loop-piece.digests.items) ∙ subst (λ (bs : List (List ℕ)). c.loop-piece.digests.items ++ map hash bs ≡ all) none c.loop-piece.invariant.so_far
