-- Filling the places of a tree's nodes.
use Rattle.std.proofs.Common.{subst, ◌≡◌, ◌≢◌, ℕ, ◌+◌, ◌*◌, ◌<◌, ◌≤◌, List, [], length, get_or, set, sym, ap, ◌∙◌, inl, inr, arith}
use Rattle.std.proofs.lemmas.Bool.{cases_eq}
use Rattle.std.proofs.lemmas.List.{get_or-set_same, get_or-set_other}
use Rattle.lms_sign.specs.Tree.{inner_node}

-- the node with this number is made of the two below it
abbrev pub IsInner : List ℕ → List (List ℕ) → ℕ → Type 0
IsInner id nodes number = get_or nodes number [] ≡ inner_node id number (get_or nodes (2 * number) []) (get_or nodes (2 * number + 1) [])

-- a write leaves what is said of nodes above it
inner_kept : (id : List ℕ) (nodes : List (List ℕ)) (value : List ℕ) (at number : ℕ) → number ≢ at → 2 * number ≢ at → 2 * number + 1 ≢ at → get_or nodes number [] ≡ inner_node id number (get_or nodes (2 * number) []) (get_or nodes (2 * number + 1) []) → IsInner id (set nodes at value) number
inner_kept id nodes value at number here left right is =
    get_or-set_other nodes at number value [] here ∙ is
    ∙ ap (λ (l : List ℕ). inner_node id number l (get_or nodes (2 * number + 1) [])) (sym (get_or-set_other nodes at (2 * number) value [] left))
    ∙ ap (inner_node id number (get_or (set nodes at value) (2 * number) [])) (sym (get_or-set_other nodes at (2 * number + 1) value [] right))

inner_here : (id : List ℕ) (nodes : List (List ℕ)) (value : List ℕ) (at : ℕ) → at < length nodes → 1 ≤ at → value ≡ inner_node id at (get_or nodes (2 * at) []) (get_or nodes (2 * at + 1) []) → IsInner id (set nodes at value) at
inner_here id nodes value at long low is =
    let left : 2 * at ≢ at = omega arith in
    let right : 2 * at + 1 ≢ at = omega arith in
    get_or-set_same nodes at value [] long ∙ is
    ∙ ap (λ (l : List ℕ). inner_node id at l (get_or nodes (2 * at + 1) [])) (sym (get_or-set_other nodes at (2 * at) value [] left))
    ∙ ap (inner_node id at (get_or (set nodes at value) (2 * at) [])) (sym (get_or-set_other nodes at (2 * at + 1) value [] right))

-- one inner node more, downwards
pub inner_more : (id : List ℕ) (nodes : List (List ℕ)) (value : List ℕ) (at : ℕ) → at < length nodes → 1 ≤ at → value ≡ inner_node id at (get_or nodes (2 * at) []) (get_or nodes (2 * at + 1) [])
    → ((number : ℕ) → at + 1 ≤ number → number < 1024 → IsInner id nodes number) → (number : ℕ) → at ≤ number → number < 1024 → IsInner id (set nodes at value) number
inner_more id nodes value at long low is above number le lt =
    elim (cases_eq number at) [
      | inl same ↦ subst (IsInner id (set nodes at value)) (sym same) (inner_here id nodes value at long low is)
      | inr other ↦ inner_kept id nodes value at number other (omega arith) (omega arith) (above number (omega arith) lt)
    ]

-- one value more after a place
pub filled_more : (nodes : List (List ℕ)) (value : List ℕ) (piece : ℕ → List ℕ) (from count at : ℕ) → from + count ≡ at → at < length nodes → value ≡ piece count
    → ((k : ℕ) → k < count → get_or nodes (from + k) [] ≡ piece k) → (k : ℕ) → k < count + 1 → get_or (set nodes at value) (from + k) [] ≡ piece k
filled_more nodes value piece from count at place long is before k lt =
    elim (cases_eq k count) [
      | inl same ↦ let here : from + k ≡ at = omega arith in ap (λ n. get_or (set nodes at value) n []) here ∙ get_or-set_same nodes at value [] long ∙ is ∙ ap piece (sym same)
      | inr other ↦ let ne : from + k ≢ at = omega arith in get_or-set_other nodes at (from + k) value [] ne ∙ before k (omega arith)
    ]
