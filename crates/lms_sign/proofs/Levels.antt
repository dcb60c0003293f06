-- The nodes of a tree, level by level.
use Rattle.std.proofs.Common.{◌≡◌, ℕ, zero, suc, ◌+◌, ◌-◌, ◌*◌, ◌/◌, ◌%◌, ◌^◌, ◌<◌, ◌≤◌, Bool, true, false, cond, nat_eq, List, [], get_or, refl, sym, ap, ◌∙◌, arith}
use Rattle.std.proofs.lemmas.Bool.{eqb-true, eqb-false}
use Rattle.std.proofs.Math.Nat.{pow-suc, one-le-pow, mul-le-mul_left}
use Rattle.std.proofs.lemmas.Nat.{pow-add}
use Rattle.lms_sign.specs.Secret.{Secret}
use Rattle.lms_sign.specs.Tree.{leaf_node, inner_node, node, ancestor, sibling, parent, climbed}
use Rattle.lms_sign.specs.Nodes.{IsTree}

-- a level is as wide as two of the one above it
wider : (width height : ℕ) → width * 2 ^ suc height ≡ 1024 → (2 * width) * 2 ^ height ≡ 1024
wider width height is = let power : 2 ^ suc height ≡ 2 ^ height * 2 = pow-suc 2 height in omega (arith, ap (λ n. width * n) power)

width_positive : (width power : ℕ) → (2 * width) * power ≡ 1024 → 1 ≤ width
width_positive zero power is = absurd (omega arith)
width_positive (suc width) power is = omega arith

-- a level below another has from 1 to 512 nodes
width_bounds : (width height : ℕ) → (2 * width) * 2 ^ height ≡ 1024 → (1 ≤ width) × (width ≤ 512)
width_bounds width height is =
    let power : 1 ≤ 2 ^ height = one-le-pow height 2 (omega arith) in
    (width_positive width (2 ^ height) is, omega (arith, mul-le-mul_left (2 * width) power))

-- the numbers of the nodes above a leaf's
pub ancestor_within : (number height width : ℕ) → 1024 ≤ number → number < 2048 → width * 2 ^ height ≡ 1024 → (width ≤ ancestor number height) × (ancestor number height < 2 * width)
unfolding ancestor
ancestor_within number zero width low high is = let all : width ≡ 1024 = omega arith in (omega arith, omega arith)
ancestor_within number (suc height) width low high is =
    let below = ancestor_within number height (2 * width) low high (wider width height is) in (omega (arith, below.0), omega (arith, below.1))

-- what is kept at a number is the node with this number
pub node_at : (secret : Secret) (nodes : List (List ℕ)) → IsTree secret.id secret.leaf_keys nodes → (height number width : ℕ) → width * 2 ^ height ≡ 1024 → width ≤ number → number < 2 * width → get_or nodes number [] ≡ node secret height number
unfolding node
node_at secret nodes tree zero number width is low high =
    let all : width ≡ 1024 = omega arith in
    let same : 1024 + (number - 1024) ≡ number = omega arith in
    ap (λ n. get_or nodes n []) (sym same) ∙ tree.leaves (number - 1024) (omega arith) ∙ ap (λ n. leaf_node secret.id n (get_or secret.leaf_keys (number - 1024) [])) same
node_at secret nodes tree (suc height) number width is low high =
    let twice = wider width height is in
    let bounds = width_bounds width height twice in
    tree.inner number (omega (arith, bounds.0)) (omega (arith, bounds.1))
    ∙ ap (λ (l : List ℕ). inner_node secret.id number l (get_or nodes (2 * number + 1) [])) (node_at secret nodes tree height (2 * number) (2 * width) twice (omega arith) (omega arith))
    ∙ ap (inner_node secret.id number (node secret height (2 * number))) (node_at secret nodes tree height (2 * number + 1) (2 * width) twice (omega arith) (omega arith))

-- the root
pub root_at : (secret : Secret) (nodes : List (List ℕ)) → IsTree secret.id secret.leaf_keys nodes → get_or nodes 1 [] ≡ node secret 10 1
root_at secret nodes tree = node_at secret nodes tree 10 1 1 refl (omega arith) (omega arith)

-- the width of each level below the root
pub level_width : (height : ℕ) → height < 10 → 2 ^ (9 - height) * 2 ^ suc height ≡ 1024
level_width height lt =
    let all : (9 - height) + suc height ≡ 10 = omega arith in
    sym (pow-add 2 (9 - height) (suc height)) ∙ ap (λ n. 2 ^ n) all

sibling_cases : (number width : ℕ) → 2 * width ≤ number → number < 2 * (2 * width) → (left : Bool) → nat_eq (number % 2) 0 ≡ left → (2 * width ≤ cond left (number + 1) (number - 1)) × (cond left (number + 1) (number - 1) < 2 * (2 * width))
sibling_cases number width low high true is = let even : number % 2 ≡ 0 = eqb-true _ _ is in (omega arith, omega arith)
sibling_cases number width low high false is = let odd : ¬ (number % 2 ≡ 0) = eqb-false _ _ is in (omega arith, omega arith)

sibling_within : (number width : ℕ) → 2 * width ≤ number → number < 2 * (2 * width) → (2 * width ≤ sibling number) × (sibling number < 2 * (2 * width))
unfolding sibling
sibling_within number width low high = sibling_cases number width low high (nat_eq (number % 2) 0) refl

-- a node of the path of a leaf
pub path_at : (secret : Secret) (nodes : List (List ℕ)) → IsTree secret.id secret.leaf_keys nodes → (leaf height : ℕ) → leaf < 1024 → height < 10 → get_or nodes (sibling (ancestor (1024 + leaf) height)) [] ≡ node secret height (sibling (ancestor (1024 + leaf) height))
path_at secret nodes tree leaf height small lt =
    let above : 2 ^ (9 - height) * 2 ^ suc height ≡ 1024 = level_width height lt in
    let width : (2 * 2 ^ (9 - height)) * 2 ^ height ≡ 1024 = wider (2 ^ (9 - height)) height above in
    let within = ancestor_within (1024 + leaf) height (2 * 2 ^ (9 - height)) (omega arith) (omega arith) width in
    let other = sibling_within (ancestor (1024 + leaf) height) (2 ^ (9 - height)) within.0 within.1 in
    node_at secret nodes tree height (sibling (ancestor (1024 + leaf) height)) (2 * 2 ^ (9 - height)) width other.0 other.1

-- one step up from a node and its sibling, where it is the left one and where it is the right one
parent_cases : (secret : Secret) (height number : ℕ) (left : Bool) → nat_eq (number % 2) 0 ≡ left
    → cond left (inner_node secret.id (number / 2) (node secret height number) (node secret height (cond left (number + 1) (number - 1)))) (inner_node secret.id (number / 2) (node secret height (cond left (number + 1) (number - 1))) (node secret height number))
    ≡ inner_node secret.id (number / 2) (node secret height (2 * (number / 2))) (node secret height (2 * (number / 2) + 1))
parent_cases secret height number true is =
    let even : number % 2 ≡ 0 = eqb-true _ _ is in
    let this : number ≡ 2 * (number / 2) = omega arith in
    let other : number + 1 ≡ 2 * (number / 2) + 1 = omega arith in
    ap (λ n. inner_node secret.id (number / 2) (node secret height n) (node secret height (number + 1))) this
    ∙ ap (λ n. inner_node secret.id (number / 2) (node secret height (2 * (number / 2))) (node secret height n)) other
parent_cases secret height number false is =
    let odd : ¬ (number % 2 ≡ 0) = eqb-false _ _ is in
    let this : number ≡ 2 * (number / 2) + 1 = omega arith in
    let other : number - 1 ≡ 2 * (number / 2) = omega arith in
    ap (λ n. inner_node secret.id (number / 2) (node secret height n) (node secret height number)) other
    ∙ ap (λ n. inner_node secret.id (number / 2) (node secret height (2 * (number / 2))) (node secret height n)) this

parent_is : (secret : Secret) (height number : ℕ) → parent secret.id number (node secret height (sibling number)) (node secret height number) ≡ node secret (suc height) (number / 2)
unfolding parent sibling node
parent_is secret height number = parent_cases secret height number (nat_eq (number % 2) 0) refl

-- the way up from a leaf's node by the siblings
pub climbed_is : (secret : Secret) (number height : ℕ) → climbed secret.id number (λ k. node secret k (sibling (ancestor number k))) (node secret 0 number) height ≡ node secret height (ancestor number height)
unfolding climbed ancestor
climbed_is secret number zero = refl
climbed_is secret number (suc height) =
    let at = ancestor number height in
    ap (parent secret.id at (node secret height (sibling at))) (climbed_is secret number height) ∙ parent_is secret height at
