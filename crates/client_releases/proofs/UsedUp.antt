-- Leaves that can be used.
use Rattle.std.proofs.Common.{◌≡◌, ℕ, zero, suc, ◌<◌, ◌≤◌, Bool, true, false, List, [], slice_index_or, inl, inr, sym, subst, ◌∙◌, arith}
use Rattle.std.specs.Prelude.{◌⊎◌, ◌↔◌}
use Rattle.std.specs.Str.{bytes_eq}
use Rattle.std.proofs.lemmas.Bool.{cases_Bool, cases_lt, true≢false}
use Rattle.std.proofs.lemmas.Slice.Eq.{bytes_eq-Decides}
use Rattle.lms_sign.specs.OneTime.{key_of}
use Rattle.lms_sign.specs.Secret.{HasLeaf, Secret, drawn_from}
use Rattle.lms_sign.proofs.Drawn.{drawn_has}
use Rattle.leaf_ledger.specs.Ledger.{IsFull, IsLeastFree, LedgerState, is_used}
use Rattle.leaf_ledger.proofs.Lives.{not_full}
use Rattle.leaf_ledger.proofs.Marked.{one_least}
use Rattle.client_releases.specs.Releasing.{IsUsedUp}

-- the least free leaf tells
pub by_least : (secret : Secret) (ledger : LedgerState) (leaf : ℕ) (can : Bool) → IsLeastFree ledger.file.now.text leaf → ((can ≡ true) ↔ HasLeaf secret leaf) → (can ≡ false) ↔ IsUsedUp secret ledger
by_least secret ledger leaf can least told = (
  λ not other is has.
      let same = one_least ledger.file.now.text other leaf is least in
      true≢false (sym (told.1 (subst (λ n. HasLeaf secret n) same has)) ∙ not),
  λ none. elim (cases_Bool can) [
    | inl can ↦ absurd (none leaf least (told.0 can))
    | inr not ↦ not
  ],
)

-- none is free
pub by_none : (secret : Secret) (ledger : LedgerState) → IsFull ledger.file.now.text → IsUsedUp secret ledger
by_none secret ledger full leaf least has = not_full ledger.file.now.text leaf least full

-- where a leaf can be used, the least free one can sign
pub can_sign : (secret : Secret) (ledger : LedgerState) (leaf : ℕ) → IsLeastFree ledger.file.now.text leaf → (IsUsedUp secret ledger → ⊥) → HasLeaf secret leaf
can_sign secret ledger leaf least some =
    let made = key_of secret.seed secret.id leaf in
    let kept = slice_index_or secret.leaf_keys leaf [] in
    let same = bytes_eq-Decides kept made in
    elim (cases_Bool (bytes_eq kept made)) [
      | inl is ↦ same.0 is
      | inr not ↦ absurd (some ((by_least secret ledger leaf (bytes_eq kept made) least (same.0, same.1)).0 not))
    ]

-- all of so many leaves are used, or one is the least free
least_or_none : (file : List ℕ) (count : ℕ) → count ≤ 1024 → ((i : ℕ) → i < count → is_used file i ≡ true) ⊎ ((leaf : ℕ) × IsLeastFree file leaf)
least_or_none file zero few = inl (λ i lt. absurd (omega arith))
least_or_none file (suc count) few =
    elim (least_or_none file count (omega arith)) [
      | inl used ↦ elim (cases_Bool (is_used file count)) [
        | inl here ↦ inl (λ i lt. elim (cases_lt i count) [
          | inl before ↦ used i before
          | inr last ↦ let same : count ≡ i = omega arith in subst (λ n. is_used file n ≡ true) same here
        ])
        | inr free ↦ inr (count, record { below = omega arith; free = free; least = used })
      ]
      | inr found ↦ inr found
    ]

-- a key that was drawn is used up where its ledger is full
pub drawn_is_used_up : (seed id : List ℕ) (ledger : LedgerState) → IsUsedUp (drawn_from seed id) ledger ↔ IsFull ledger.file.now.text
drawn_is_used_up seed id ledger = (
  λ none. elim (least_or_none ledger.file.now.text 1024 (omega arith)) [
    | inl used ↦ used
    | inr found ↦ absurd (none found.0 found.1 (drawn_has seed id found.0 found.1.below))
  ],
  by_none (drawn_from seed id) ledger,
)
