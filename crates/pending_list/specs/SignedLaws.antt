-- Nobody has to believe this file: laws, which are proved.
-- Signed texts: what is read is spelled so, what fits and is spelled so is read, and how long it is at most.
use Rattle.std.specs.Prelude.{refl, ℕ, ◌+◌}
use Rattle.layout.specs.Format.{Format, pair, Lawful}
use Rattle.layout.specs.Laws.{lawful_mapped, lawful_followed, lawful_raw}
use Rattle.layout.specs.Sizes.{AtMost, at_most_mapped, at_most_pair, at_most_raw}
use Rattle.pending_list.specs.Signed.{signature, signed}

pub lawful_signed : {V : Type 0} (f : Format V) → Lawful f → Lawful (signed f)
lawful_signed f law = lawful_mapped _ _ (pair f signature) (λ s. refl) (λ p fits. refl) (lawful_followed f (λ _. signature) law (λ _. lawful_raw 2508))

pub at_most_signed : {V : Type 0} (f : Format V) (m : ℕ) → AtMost f m → AtMost (signed f) (m + 2508)
at_most_signed f m few = at_most_mapped _ _ _ (m + 2508) (at_most_pair f signature m 2508 few (at_most_raw 2508))
