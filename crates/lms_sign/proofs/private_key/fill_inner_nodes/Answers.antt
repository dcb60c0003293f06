use Rattle.std.proofs.Common.{◌≡◌, ◌≢◌, ℕ, ◌+◌, ◌-◌, ◌*◌, ◌≤◌, [], length-set, get_or, ap, ◌∙◌, List, arith}
use Rattle.std.proofs.lemmas.List.{get_or-set_other, get_or_read}
use Rattle.lms_sign.specs.Tree.{inner_node}
use Rattle.lms_sign.proofs.Filling.{inner_more}
use Rattle.lms_sign.proofs.private_key.fill_inner_nodes.Goals as goal

pub loop-number-preserved : goal.loop-number-preserved
loop-number-preserved c =
    let nodes = c.loop-number.nodes in
    let at = c.loop-number.number - 1 in
    let low : 1 ≤ at = omega arith in
    let next : at + 1 ≡ c.loop-number.number = omega arith in
    let left : c.index-nodes-below.result ≡ get_or nodes (2 * at) [] = get_or_read nodes (2 * at) _ (omega arith) c.index-nodes-below.is [] in
    let right : c.index-nodes-below-in-loop-number.result ≡ get_or nodes (2 * at + 1) [] = get_or_read nodes (2 * at + 1) _ (omega arith) c.index-nodes-below-in-loop-number.is [] in
    let made : c.inner_node.result ≡ inner_node c.args.id.now at (get_or nodes (2 * at) []) (get_or nodes (2 * at + 1) []) =
    c.inner_node.ensures ∙ ap (λ (l : List ℕ). inner_node c.args.id.now at l c.index-nodes-below-in-loop-number.result) left ∙ ap (inner_node c.args.id.now at (get_or nodes (2 * at) [])) right in
    record {
      size = omega (arith, length-set nodes at c.inner_node.result);
      low = low;
      leaves = λ number le. let ne : number ≢ at = omega arith in get_or-set_other nodes at number c.inner_node.result [] ne ∙ c.loop-number.invariant.leaves number le;
      inner = inner_more c.args.id.now nodes c.inner_node.result at (omega arith) low made (λ number le lt. c.loop-number.invariant.inner number (omega arith) lt);
    }
