use Rattle.std.proofs.Common.{◌≡◌, ◌+◌, ◌*◌, ◌/◌, ◌++◌, ℕ, List, [], get_or, take, refl, sym, ap, ◌∙◌, arith, add-one}
use Rattle.std.proofs.lemmas.List.{get_or_read}
use Rattle.lms_sign.specs.Hashing.{joined}
use Rattle.lms_sign.specs.Tree.{ancestor, sibling}
use Rattle.lms_sign.proofs.Joining.{joined_none, joined_grown}
use Rattle.lms_sign.proofs.tree.put_path.Goals as goal

abbrev other_at : List (List ℕ) → ℕ → ℕ → List ℕ
other_at nodes leaf height = get_or nodes (sibling (ancestor (1024 + leaf) height)) []

pub loop-height-init : goal.loop-height-init
unfolding ancestor
loop-height-init c = record {
  small = omega arith;
  number = refl;
  path = sym (joined_none (take 2188 c.args.signature.now) (other_at c.args.nodes.now c.args.leaf));
}

pub loop-height-preserved : goal.loop-height-preserved
unfolding ancestor
loop-height-preserved c =
    let height = c.loop-height.height in
    let other : c.as_bytes.result.now ≡ other_at c.args.nodes.now c.args.leaf height =
    c.as_bytes.ensures.same ∙ get_or_read c.args.nodes.now _ _ (omega arith) c.index-nodes-sibling.is []
    ∙ ap (λ (n : ℕ). get_or c.args.nodes.now n []) (c.sibling.ensures.value ∙ ap sibling c.loop-height.invariant.number) in
    record {
      small = omega arith;
      number = rw add-one (ap (λ (n : ℕ). n / 2) c.loop-height.invariant.number);
      path = joined_grown c.loop-height.signature c.put.new.out (take 2188 c.args.signature.now) c.as_bytes.result.now (other_at c.args.nodes.now c.args.leaf) 2188 height c.put.ensures c.as_bytes.ensures.size c.loop-height.invariant.path other;
    }

pub returns : goal.returns
returns c =
    let all : c.loop-height.height ≡ 10 = omega arith in
    ap (λ (n : ℕ). take (2188 + 32 * n) c.loop-height.signature) (sym all) ∙ c.loop-height.invariant.path ∙ ap (λ (n : ℕ). take 2188 c.args.signature.now ++ joined n (other_at c.args.nodes.now c.args.leaf)) all
