use Rattle.std.proofs.Common.{◌≡◌, ℕ, List, [], ◌*◌, slice_index_or, take, sym, ap, ◌∙◌, arith}
use Rattle.std.proofs.lemmas.List.{get_or_read, take_all}
use Rattle.lms_sign.specs.Hashing.{joined}
use Rattle.lms_sign.proofs.Drawn.{keys_grown}
use Rattle.lms_sign.proofs.Joining.{joined_none}
use Rattle.lms_sign.proofs.private_key.put_keys.Goals as goal

pub loop-leaf-init : goal.loop-leaf-init
loop-leaf-init c = sym (joined_none [] (λ leaf. slice_index_or c.args.keys.now leaf []))

pub loop-leaf-preserved : goal.loop-leaf-preserved
loop-leaf-preserved c =
    let leaf : ℕ = c.loop-leaf.leaf in
    let piece : ℕ → List ℕ = λ n. slice_index_or c.args.keys.now n [] in
    let is : c.as_bytes.result.now ≡ piece leaf = c.as_bytes.ensures.same ∙ get_or_read c.args.keys.now leaf _ (omega arith) c.index-keys-leaf.is [] in
    keys_grown c.loop-leaf.out c.put.new.out c.as_bytes.result.now piece leaf c.put.ensures c.as_bytes.ensures.size c.loop-leaf.invariant is

pub returns : goal.returns
returns c =
    let all : c.loop-leaf.leaf ≡ 1024 = omega arith in
    sym (take_all 32768 c.loop-leaf.out (omega arith)) ∙ ap (λ (n : ℕ). take (32 * n) c.loop-leaf.out) (sym all) ∙ c.loop-leaf.invariant
    ∙ ap (λ (n : ℕ). joined n (λ leaf. slice_index_or c.args.keys.now leaf [])) all
