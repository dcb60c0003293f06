use Rattle.std.proofs.Common.{◌≡◌, ℕ, ◌+◌, ◌*◌, List, ◌++◌, ◌∷◌, [], take, drop, map, sym, ap, ◌∙◌, subst, arith}
use Rattle.std.proofs.lemmas.List.{append-nil, drop-drop, length-drop, length-take-le, take-append-drop}
use Rattle.layout.specs.Hash.{hash}
use Rattle.itable.specs.File.{blocks_of}
use Rattle.itable.proofs.Blocks.{no_block, next_block, one_on}
use Rattle.itable.proofs.file.push_eight.Goals as goal

pub loop-number-preserved : goal.loop-number-preserved
unfolding hash
loop-number-preserved g c =
    let bytes : List ℕ = c.args.bytes.now in
    let number : ℕ = c.loop-number.number in
    let left : List ℕ = drop (4096 * number) bytes in
    let block : List ℕ = take 4096 left in
    let after : List ℕ = drop (4096 * (number + 1)) bytes in
    let rest : drop 4096 left ≡ after = drop-drop 4096 (4096 * number) bytes ∙ ap (λ n. drop n bytes) (omega arith) in
    let cut : left ≡ block ++ after = sym (take-append-drop 4096 left) ∙ ap (λ (l : List ℕ). block ++ l) rest in
    let long = length-drop (4096 * number) bytes in
    let next = next_block left block after cut (omega (arith, long, length-take-le 4096 left (omega (arith, long)))) (omega (arith, long)) in
    let all = c.args.digests.now.items ++ map hash (blocks_of bytes) in
    one_on c.loop-number.digests.items _ (hash block) (map hash (blocks_of after)) all
    (c.in_ok-push.ensures.items ∙ ap (λ (d : List ℕ). c.loop-number.digests.items ++ d ∷ []) (c.from_bytes.ensures ∙ c.digests_of_whole-all.ensures number (omega arith)))
    (subst (λ (bs : List (List ℕ)). c.loop-number.digests.items ++ map hash bs ≡ all) next c.loop-number.invariant)

pub returns : goal.returns
returns g c =
    let bytes : List ℕ = c.args.bytes.now in
    let all = c.args.digests.now.items ++ map hash (blocks_of bytes) in
    let none = no_block (drop (4096 * c.loop-number.number) bytes) (omega (arith, length-drop (4096 * c.loop-number.number) bytes)) in
    sym (append-nil c.loop-number.digests.items) ∙ subst (λ (bs : List (List ℕ)). c.loop-number.digests.items ++ map hash bs ≡ all) none c.loop-number.invariant
