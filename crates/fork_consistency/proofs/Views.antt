-- The accepted views of a run are a run of accepted views.
use Rattle.std.proofs.Common.{◌≡◌, Bool, true, false, ◌==◌, List, [], ◌∷◌, ◌++◌, map, find, Option, Some, None, Ok, refl, sym, ap, ◌∙◌, subst, inl, inr, if◌then◌else◌, option_map, option_to_list}
use Rattle.std.specs.Prelude.{◌⊎◌}
use Rattle.std.proofs.lemmas.Bool.{eqb-true}
use Rattle.layout.specs.Types.{Bytes, User}
use Rattle.version_order.specs.Structure.{Structure}
use Rattle.client_releases.specs.declared.phase.Phase.{Phase}
use Rattle.client_releases.specs.declared.phase.Phase.TheVariants as phase
use Rattle.agreement.specs.Runs.{View, last_signed, user_of}
use Rattle.agreement.proofs.Members.{In, in-append, in-left, in-map, in-right, map-in}
use Rattle.release_runs.proofs.Stories.{OfCert, OfStructure, Release, last_in}
use Rattle.release_runs.specs.Steps as low
use Rattle.client_verify.specs.State.{Ready}
use Rattle.client_steps.specs.Steps.{Call, Client, Closed, IsSound, IsStep, Open, Opens, Owner, Signs}
use Rattle.client_runs.specs.Runs.{Event, IsRun, Keys, client_of, owner}
use Rattle.client_runs.specs.Released.{accepted_by, in_hand, released, tried_view, view_over, views, where_signed}
use Rattle.fork_consistency.proofs.Holds.{Holds, IsTriedOver, Tries, is_over, signed_in, structures}
use Rattle.fork_consistency.proofs.Judging.{value_of}
use Rattle.client_runs.proofs.Lowering.{with_ready}
use Rattle.fork_consistency.proofs.Moves.{holds_at, signed_of}

-- ---- over which views

module _ (o : Owner) (older : List Event) where
  tried_is_over : (story : List Release) (tried : Option Release) (x : View) → Tries o story older tried (Some x) → IsTriedOver o story older x
  tried_is_over story None x t = t
  tried_is_over story (Some (OfCert n c q)) x t = absurd t
  tried_is_over story (Some (OfStructure n z q)) x t = t.0

  the_tried : (f : Phase) (v : Option View) (x : View) → In x (where_signed f v) → v ≡ Some x
  the_tried phase.Idle v x i = absurd i
  the_tried phase.Declared v x i = absurd i
  the_tried phase.Signed None x i = absurd i
  the_tried phase.Signed (Some y) x (inl e) = ap Some (sym e)
  the_tried phase.Signed (Some y) x (inr i) = absurd i
  the_tried phase.Failed v x i = absurd i

  module _ (texts : List Bytes) (signed : List Structure) (view : Option View) where
    -- a view is accepted over which the declared operation was tried
    pub over : (before : Client) (call : Call) (after : Client) → (h : Holds o older before texts signed view) → IsStep o before call after → IsSound after → (x : View) → In x (accepted_by call before after view) → IsTriedOver o h.story older x
    over (Closed p) (Opens (Ok u)) (Open s) h is sound x i =
        tried_is_over h.story h.tried x (subst (λ (v : Option View). Tries o h.story older h.tried v) (the_tried s.phase view x i) h.tries)
    over (Closed p) (Opens (Ok u)) (Closed q) h is sound x i = absurd is
    over (Closed p) (Signs (Ok text)) after h is sound x i = absurd is
    over (Open s) (Opens (Ok u)) after h is sound x i = absurd is
    over (Open s) (Signs (Ok text)) (Closed q) h is sound x i = absurd is
    over (Open s) (Signs (Ok text)) (Open new) h is sound x i =
        with_ready s (IsTriedOver o h.story older x) is.ready
        (λ y ready. at y ready (subst (λ (a : Option Ready). In x (option_to_list (option_map (view_over s) a))) ready i))
      where
        at : (y : Ready) → s.accepted ≡ Some y → In x (view_over s y ∷ []) → IsTriedOver o h.story older x
        at y ready (inl e) = subst (λ (v : View). IsTriedOver o h.story older v) (sym e) (is_over o older texts signed view s h new sound y ready)
        at y ready (inr none) = absurd none
    over before call after h is sound x i = absurd i

-- at most one view is accepted
pub one_at_most : (call : Call) (before after : Client) (view : Option View) → (accepted_by call before after view ≡ []) ⊎ ((x : View) × (accepted_by call before after view ≡ x ∷ []))
one_at_most (Signs (Ok text)) before after view = go (in_hand before)
  where
    go : (v : Option View) → (option_to_list v ≡ []) ⊎ ((x : View) × (option_to_list v ≡ x ∷ []))
    go None = inl refl
    go (Some x) = inr (x, refl)
one_at_most (Opens (Ok u)) before (Closed p) view = inl refl
one_at_most (Opens (Ok u)) before (Open s) view = go s.phase view
  where
    go : (f : Phase) (v : Option View) → (where_signed f v ≡ []) ⊎ ((x : View) × (where_signed f v ≡ x ∷ []))
    go phase.Signed None = inl refl
    go phase.Signed (Some x) = inr (x, refl)
    go other v = inl refl
one_at_most call before after view = inl refl

-- ---- the structure that was signed last

abbrev pub first_of : List Structure → Option Structure
first_of [] = None
first_of (z ∷ zs) = Some z

pub first_in : (o : low.Owner) (story : List Release) → first_of (structures story) ≡ option_map value_of (last_in o story)
first_in o [] = refl
first_in o (OfCert n c q ∷ older) = first_in o older
first_in o (OfStructure n z q ∷ older) = refl

module _ (u : User) (vs : List View) (rest : List Structure) (ih : last_signed u vs ≡ first_of rest) where
  -- after views of this user, or of another
  after_these : (xs : List View) (w : User) → ((x : View) → In x xs → user_of x ≡ w) → (b : Bool) → (w == u) ≡ b → last_signed u (xs ++ vs) ≡ first_of (if b then map signed_in xs ++ rest else rest)
  after_these [] w each true e = ih
  after_these [] w each false e = ih
  after_these (x ∷ xs) w each b e = go b (user_of x == u) (ap (λ v. v == u) (each x (inl refl)) ∙ e) (after_these xs w (λ y i. each y (inr i)) b e)
    where
      go : (b c : Bool) → c ≡ b → last_signed u (xs ++ vs) ≡ first_of (if b then map signed_in xs ++ rest else rest)
          → option_map signed_in (if c then Some x else find (λ (y : View). user_of y == u) (xs ++ vs)) ≡ first_of (if b then signed_in x ∷ (map signed_in xs ++ rest) else rest)
      go true true same more = refl
      go false false same more = more
      go true false same more = absurd (cc same)
      go false true same more = absurd (cc same)

module _ (keys : Keys) where
  pub over_here : (e : Event) (older : List Event) → (is : IsRun keys (e ∷ older)) → (x : View) → In x (accepted_by e.call (client_of e.user older) e.after (tried_view e.user older))
      → IsTriedOver (owner keys e.user) (holds_at keys e.user older is.2).story older x
  over_here e older is x i =
      over (owner keys e.user) older (released e.user older) (signed_of e.user older) (tried_view e.user older) (client_of e.user older) e.call e.after (holds_at keys e.user older is.2) is.0 is.1 x i

  pub last_view : (u : User) (run : List Event) → IsRun keys run → last_signed u (views run) ≡ first_of (signed_of u run)
  last_view u [] is = refl
  last_view u (e ∷ older) is = go (e.user == u) refl (last_view u older is.2)
    where
      go : (b : Bool) → (e.user == u) ≡ b → last_signed u (views older) ≡ first_of (signed_of u older)
          → last_signed u (views (e ∷ older)) ≡ first_of (if b then map signed_in (accepted_by e.call (client_of u older) e.after (tried_view u older)) ++ signed_of u older else signed_of u older)
      go true same ih =
          subst (λ (v : User). last_signed u (views (e ∷ older)) ≡ first_of (map signed_in (accepted_by e.call (client_of v older) e.after (tried_view v older)) ++ signed_of u older)) (eqb-true e.user u same)
          (after_these u (views older) (signed_of u older) ih (accepted_by e.call (client_of e.user older) e.after (tried_view e.user older)) e.user (λ x i. (over_here e older is x i).user) true same)
      go false other ih =
          after_these u (views older) (signed_of u older) ih (accepted_by e.call (client_of e.user older) e.after (tried_view e.user older)) e.user (λ x i. (over_here e older is x i).user) false other

  -- ---- structures of accepted views

  pub in_views : (u : User) (run : List Event) (z : Structure) → In z (signed_of u run) → In z (map signed_in (views run))
  in_views u [] z i = absurd i
  in_views u (e ∷ older) z i = go (e.user == u) refl i (in_views u older z)
    where
      older_in : In z (map signed_in (views older)) → In z (map signed_in (views (e ∷ older)))
      older_in j =
          let (x, k, same) = in-map signed_in (views older) z j in
          subst (λ (y : Structure). In y (map signed_in (views (e ∷ older)))) (sym same)
          (map-in signed_in (views (e ∷ older)) x (in-right x (accepted_by e.call (client_of e.user older) e.after (tried_view e.user older)) (views older) k))

      here_in : (w : User) → e.user ≡ w → In z (map signed_in (accepted_by e.call (client_of w older) e.after (tried_view w older))) → In z (map signed_in (views (e ∷ older)))
      here_in w is j =
          let (x, k, same) = in-map signed_in (accepted_by e.call (client_of w older) e.after (tried_view w older)) z j in
          subst (λ (y : Structure). In y (map signed_in (views (e ∷ older)))) (sym same)
          (map-in signed_in (views (e ∷ older)) x
          (in-left x (accepted_by e.call (client_of e.user older) e.after (tried_view e.user older)) (views older)
          (subst (λ (v : User). In x (accepted_by e.call (client_of v older) e.after (tried_view v older))) (sym is) k)))

      go : (b : Bool) → (e.user == u) ≡ b → In z (if b then map signed_in (accepted_by e.call (client_of u older) e.after (tried_view u older)) ++ signed_of u older else signed_of u older)
          → (In z (signed_of u older) → In z (map signed_in (views older))) → In z (map signed_in (views (e ∷ older)))
      go true same i ih =
          elim (in-append z (map signed_in (accepted_by e.call (client_of u older) e.after (tried_view u older))) (signed_of u older) i) [
            | inl j ↦ here_in u (eqb-true e.user u same) j
            | inr j ↦ older_in (ih j)
          ]
      go false other i ih = older_in (ih i)
