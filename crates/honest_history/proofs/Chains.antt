-- Operations in the order of their places: each vector follows from that of the one before it.
use Rattle.std.proofs.Common.{◌≡◌, ℕ, ◌<◌, ◌≤◌, List, [], ◌∷◌, ◌++◌, reverse, Bool, true, refl, sym, ap, ◌∙◌, subst, inl, inr, arith}
use Rattle.std.specs.Prelude.{◌⊎◌, nat_lt, not}
use Rattle.std.specs.List.{filter}
use Rattle.std.proofs.lemmas.Bool.{lt-ltb, le-ltb, cases_lt, and_parts, and_from}
use Rattle.version_order.specs.declared.vector.Component.{Component}
use Rattle.principals.specs.Table.{Table}
use Rattle.pending_list.specs.Reply.{PendingItem}
use Rattle.reply_rules.specs.Rules.{each_has_next_vector, next_vector, same_vector}
use Rattle.reply_rules.proofs.SameVector.{same_vector_self}
use Rattle.agreement.proofs.Members.{In}
use Rattle.honest_history.proofs.Members.{filter_all, filter_none, reverse_cons}
use Rattle.honest_history.proofs.Pairs.{Pairwise}
use Rattle.honest_history.proofs.Tabled.{Follows, latest_vector}
use Rattle.honest_history.proofs.Timeline.{place, vector_in}

-- the vector of the last of these, and this one where there are none
abbrev pub end : List Component → List PendingItem → List Component
end v [] = v
end v (i ∷ is) = end i.plan.vector is

end_last : (v : List Component) (is : List PendingItem) (i : PendingItem) → end v (is ++ i ∷ []) ≡ i.plan.vector
end_last v [] i = refl
end_last v (j ∷ js) i = end_last j.plan.vector js i

follow_last : (b : Table) (v : List Component) (is : List PendingItem) (i : PendingItem) → each_has_next_vector b v is ≡ true → i.plan.vector ≡ next_vector b i (end v is) → each_has_next_vector b v (is ++ i ∷ []) ≡ true
follow_last b v [] i h e = and_from _ true (subst (λ (w : List Component). same_vector i.plan.vector w ≡ true) e (same_vector_self i.plan.vector)) refl
follow_last b v (j ∷ js) i h e =
    let p = and_parts (same_vector j.plan.vector (next_vector b j v)) (each_has_next_vector b j.plan.vector js) h in
    and_from _ _ p.0 (follow_last b j.plan.vector js i p.1 e)

abbrev pub beyond : ℕ → PendingItem → Bool
beyond d i = nat_lt d (place i)

-- d is the depth of an item of this vector, or of none
abbrev pub StartsAt : List PendingItem → ℕ → List Component → Type 0
StartsAt is d v = ((k : PendingItem) × In k is × (place k ≡ d) × (vector_in k ≡ v)) ⊎ ((d ≡ 0) × (v ≡ []))

abbrev pub Descending : List PendingItem → Type 0
Descending is = Pairwise (λ i j. place j < place i) is

none_beyond : (d : ℕ) (i : PendingItem) (is : List PendingItem) → Descending (i ∷ is) → place i ≤ d → filter (beyond d) (i ∷ is) ≡ []
none_beyond d i is p l =
    filter_none (beyond d) (i ∷ is) (λ j h. elim h [
      | inl e ↦ (let m = ap place e in le-ltb d (place j) (omega arith))
      | inr k ↦ (let m = p.0 j k in le-ltb d (place j) (omega arith))
    ])

ends_at : (is : List PendingItem) (d : ℕ) (v : List Component) → Descending is → ((i : PendingItem) → In i is → 0 < place i) → StartsAt is d v → end v (reverse (filter (beyond d) is)) ≡ latest_vector is
ends_at [] d v p pos (inl k) = absurd k.1
ends_at [] d v p pos (inr e) = e.1
ends_at (i ∷ is) d v p pos s =
    elim (cases_lt d (place i)) [
      | inl l ↦ rw (lt-ltb d (place i) l, reverse_cons i (filter (beyond d) is)) (end_last v (reverse (filter (beyond d) is)) i)
      | inr l ↦ rw (none_beyond d i is p l) (elim s [
        | inl k ↦ elim k.1 [
          | inl e ↦ sym k.3 ∙ ap vector_in e
          | inr m ↦ absurd (let a = p.0 k.0 m in let q = k.2 in omega arith)
        ]
        | inr e ↦ absurd (let a = pos i (inl refl) in let q = e.0 in omega arith)
      ])
    ]

pub follows_above : (b : Table) (is : List PendingItem) (d : ℕ) (v : List Component) → Follows b is → Descending is → ((i : PendingItem) → In i is → 0 < place i) → StartsAt is d v → each_has_next_vector b v (reverse (filter (beyond d) is)) ≡ true
follows_above b [] d v f p pos s = refl
follows_above b (i ∷ is) d v f p pos s =
    elim (cases_lt d (place i)) [
      | inl l ↦ (
          let below : StartsAt is d v =
          elim s [
            | inl k ↦ elim k.1 [ inl e ↦ absurd (let m = ap place e in let q = k.2 in omega arith) | inr m ↦ inl (k.0, m, k.2, k.3) ]
            | inr e ↦ inr e
          ]
          in
          rw (lt-ltb d (place i) l, reverse_cons i (filter (beyond d) is))
          (follow_last b v (reverse (filter (beyond d) is)) i (follows_above b is d v f.1 p.1 (λ j h. pos j (inr h)) below)
          (f.0 ∙ ap (next_vector b i) (sym (ends_at is d v p.1 (λ j h. pos j (inr h)) below)))))
      | inr l ↦ rw (none_beyond d i is p l) refl
    ]

-- a descending list is what is beyond a depth, and then the others
pub cut : (d : ℕ) (is : List PendingItem) → Descending is → filter (beyond d) is ++ filter (λ i. not (beyond d i)) is ≡ is
cut d [] p = refl
cut d (i ∷ is) p =
    elim (cases_lt d (place i)) [
      | inl l ↦ rw (lt-ltb d (place i) l) (ap (λ l. i ∷ l) (cut d is p.1))
      | inr l ↦ rw (none_beyond d i is p l) (filter_all (λ i. not (beyond d i)) (i ∷ is) (λ j h. elim h [
        | inl e ↦ (let m = ap place e in ap not (le-ltb d (place j) (omega arith)))
        | inr k ↦ (let m = p.0 j k in ap not (le-ltb d (place j) (omega arith)))
      ]))
    ]
