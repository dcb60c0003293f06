-- One moment more, after those that there were.
use Rattle.std.proofs.Common.{◌≡◌, List, [], ◌∷◌, ◌++◌, refl, ◌∙◌, ap}
use Rattle.std.specs.declared.snapshot.Snapshot.{Snapshot}
use Rattle.leaf_ledger.specs.Device.{History}
use Rattle.leaf_ledger.specs.Followed.{after_moment, followed}
use Rattle.leaf_ledger.specs.declared.moment.Moment.{Moment}

module _ {A : Type 0} where
  followed_push : (h : History) (moments : List (Snapshot (Moment A))) (s : Snapshot (Moment A)) → followed h (moments ++ s ∷ []) ≡ after_moment s.value.written s.value.text.items (followed h moments)
  followed_push h [] s = refl
  followed_push h (x ∷ moments) s = followed_push (after_moment x.value.written x.value.text.items h) moments s

  pub one_more : (h : History) (moments roomy new : List (Snapshot (Moment A))) (s : Snapshot (Moment A)) (moment : Moment A) → roomy ≡ moments → new ≡ roomy ++ s ∷ [] → s.value ≡ moment → followed h new ≡ after_moment moment.written moment.text.items (followed h moments)
  one_more h moments roomy new s moment same is seen =
      ap (followed h) (is ∙ ap (λ (l : List (Snapshot (Moment A))). l ++ s ∷ []) same)
      ∙ followed_push h moments s
      ∙ ap (λ (m : Moment A). after_moment m.written m.text.items (followed h moments)) seen
