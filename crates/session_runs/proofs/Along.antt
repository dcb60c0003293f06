-- What the steps of one user's client tell of the view that it accepted last, along a run.
use Rattle.std.proofs.Common.{◌≡◌, ℕ, Bool, true, false, ◌==◌, List, [], ◌∷◌, ◌++◌, find, Option, Some, None, Ok, IfSome, IsSome, IsSomeAnd, option_to_list, refl, sym, ap, ◌∙◌, subst, inl, inr, if◌then◌else◌}
use Rattle.std.proofs.lemmas.Bool.{eq-eqb, eqb-true}
use Rattle.std.specs.List.{Contains}
use Rattle.layout.specs.Types.{User}
use Rattle.client_tree.specs.declared.questions.Question.{Question}
use Rattle.client_verify.specs.State.{AcceptedView}
use Rattle.agreement.specs.Runs.{View, user_of}
use Rattle.agreement.proofs.Members.{In, in-right, in_contains}
use Rattle.client_steps.specs.Steps.{AreSteps, Call, Client, Opens, Owner, Sees, Signs, StepTaken, first}
use Rattle.client_runs.specs.OfUsers.{step_in, steps_of}
use Rattle.client_runs.specs.Released.{accepted_by, in_hand, tried_view, views}
use Rattle.client_runs.specs.Runs.{Event, IsRun, Keys, client_of, owner}
use Rattle.fork_consistency.specs.Shown.{EachTells, answered, last_view, view_told}
use Rattle.fork_consistency.proofs.Lists.{found_in}
use Rattle.fork_consistency.proofs.Moves.{holds_at}
use Rattle.session_runs.proofs.Accepted.{accepted_is_own}
use Rattle.session_runs.proofs.Declared.{IsDeclaredIn, hand_declared}

-- a call that accepts no view
abbrev pub AcceptsNone : Call → Type 0
AcceptsNone (Signs (Ok text)) = ⊥
AcceptsNone (Opens (Ok x)) = ⊥
AcceptsNone other = Unit {0}

-- a call that signs
abbrev pub IsSigned : Call → Type 0
IsSigned (Signs (Ok text)) = Unit {0}
IsSigned other = ⊥

accepts_none : (call : Call) (before after : Client) (tried : Option View) → AcceptsNone call → accepted_by call before after tried ≡ []
accepts_none (Signs (Ok text)) before after tried none = absurd none
accepts_none (Opens (Ok x)) before after tried none = absurd none
accepts_none other before after tried none = refl

module _ (answers : View → Question → Sees → Type 0) (tells : View → AcceptedView → Type 0) (accepted : List View) (u : User) where
  -- the view is an accepted one of the user's
  pub record IsOf (x : View) : Type 0 where
    pub among : Contains accepted x
    pub user : user_of x ≡ u

  -- a step, with the view that was accepted last before it and after it
  pub record Step (last : Option View) (before : Client) (s : StepTaken) (next : Option View) : Type 0 where
    pub answer : IfSome (answered s.call before) (λ (q, answer). IsSomeAnd last (λ x. answers x q answer))
    pub view : IfSome (view_told s.after) (λ v. IsSomeAnd next (λ x. tells x v))
    pub own : (x : View) → next ≡ Some x → IsOf x
    pub hand : IsSigned s.call → IsSome (in_hand before) → next ≡ in_hand before
    pub same : AcceptsNone s.call → next ≡ last
    pub declared : IfSome (in_hand before) (IsDeclaredIn before)

  -- steps, one after another
  abbrev pub Along : Option View → Client → List StepTaken → Option View → Client → Type 0
  Along last before [] next after = (next ≡ last) × (after ≡ before)
  Along last before (s ∷ later) next after = (mid : Option View) × Step last before s mid × Along mid s.after later next after

  pub one_more : (last : Option View) (before : Client) (steps : List StepTaken) (mid : Option View) (after : Client) (s : StepTaken) (next : Option View)
      → Along last before steps mid after → Step mid after s next → Along last before (steps ++ s ∷ []) next s.after
  one_more last before [] mid after s next along step =
      let at_view = subst (λ (l : Option View). Step l after s next) along.0 step in
      (next, subst (λ (c : Client). Step last c s next) along.1 at_view, (refl, refl))
  one_more last before (x ∷ steps) mid after s next (m, one, more) step = (m, one, one_more m x.after steps mid after s next more step)

  -- the first steps, and the others
  pub in_two : (last : Option View) (before : Client) (earlier later : List StepTaken) (next : Option View) (after : Client) → Along last before (earlier ++ later) next after
      → (mid : Option View) × (c : Client) × Along last before earlier mid c × Along mid c later next after
  in_two last before [] later next after along = (last, before, (refl, refl), along)
  in_two last before (s ∷ earlier) later next after (m, one, more) =
      let (mid, c, first_part, rest) = in_two m s.after earlier later next after more in
      (mid, c, (m, one, first_part), rest)

  -- an open client's view is told of the view that was accepted last, which is the user's
  abbrev pub Has : Option View → Client → Type 0
  Has last c = IfSome (view_told c) (λ v. IsSomeAnd last (λ x. tells x v)) × ((x : View) → last ≡ Some x → IsOf x)

  pub has_along : (last : Option View) (before : Client) (steps : List StepTaken) (next : Option View) (after : Client) → Has last before → Along last before steps next after → Has next after
  has_along last before [] next after has along = subst (Has next) (sym along.1) (subst (λ (l : Option View). Has l before) (sym along.0) has)
  has_along last before (s ∷ later) next after has (mid, one, more) = has_along mid s.after later next after (one.view, one.own) more

  -- they lead to where the steps lead
  pub same_end : (o : Owner) (last : Option View) (before : Client) (steps : List StepTaken) (next : Option View) (c after : Client) → Along last before steps next c → AreSteps o before steps after → c ≡ after
  same_end o last before [] next c after along is = along.1 ∙ sym is
  same_end o last before (s ∷ later) next c after (m, one, more) is = same_end o m s.after later next c after more is.2

found_other : (u w : User) (xs ys : List View) → ((x : View) → In x xs → user_of x ≡ w) → (w == u) ≡ false → find (λ x. user_of x == u) (xs ++ ys) ≡ find (λ x. user_of x == u) ys
found_other u w [] ys each other = refl
found_other u w (x ∷ xs) ys each other = rw (ap (λ (n : ℕ). n == u) (each x (inl refl)) ∙ other) (found_other u w xs ys (λ y i. each y (inr i)) other)

-- the view in hand is the last one, once it is signed over
hand_first : (u : User) (call : Call) (before after : Client) (tried : Option View) (vs : List View) → IsSigned call → IsSome (in_hand before) → ((x : View) → In x (accepted_by call before after tried) → user_of x ≡ u)
    → find (λ x. user_of x == u) (accepted_by call before after tried ++ vs) ≡ in_hand before
hand_first u (Signs (Ok text)) before after tried vs signs some own = go (in_hand before) some own
  where
    go : (o : Option View) → IsSome o → ((x : View) → In x (option_to_list o) → user_of x ≡ u) → find (λ x. user_of x == u) (option_to_list o ++ vs) ≡ o
    go None some own = absurd (cc some)
    go (Some x) some own = rw (eq-eqb (user_of x) u (own x (inl refl))) refl
hand_first u call before after tried vs signs some own = absurd signs

-- ---- a user's part of a run

module _ (answers : View → Question → Sees → Type 0) (tells : View → AcceptedView → Type 0) (accepted : List View) (u : User) (keys : Keys) where
  own_view : (run : List Event) → ((x : View) → In x (views run) → In x accepted) → (x : View) → last_view u run ≡ Some x → IsOf answers tells accepted u x
  own_view run inside x is =
      let found = found_in (λ (y : View). user_of y == u) (views run) x is in
      record { among = in_contains x accepted (inside x found.0); user = eqb-true (user_of x) u found.1 }

  pub along_run : (run : List Event) → IsRun keys run → EachTells answers tells run → ((x : View) → In x (views run) → In x accepted)
      → Along answers tells accepted u None first (steps_of u run) (last_view u run) (client_of u run)
  along_run [] is told inside = (refl, refl)
  along_run (e ∷ older) is told inside = go (e.user == u) refl (along_run older is.2 told.1 earlier)
    where
      mine : List View
      mine = accepted_by e.call (client_of e.user older) e.after (tried_view e.user older)

      earlier : (x : View) → In x (views older) → In x accepted
      earlier x i = inside x (in-right x mine (views older) i)

      own_of : e.user ≡ u → (x : View) → In x (accepted_by e.call (client_of u older) e.after (tried_view u older)) → user_of x ≡ u
      own_of at x i = accepted_is_own keys e older is x (subst (λ (v : User). In x (accepted_by e.call (client_of v older) e.after (tried_view v older))) (sym at) i) ∙ at

      -- the user's own step
      step : e.user ≡ u → Step answers tells accepted u (last_view u older) (client_of u older) (step_in e) (last_view u (e ∷ older))
      step at = record {
        answer = subst (λ (v : User). IfSome (answered e.call (client_of v older)) (λ (q, answer). IsSomeAnd (last_view v older) (λ x. answers x q answer))) at told.0.answer;
        view = subst (λ (v : User). IfSome (view_told e.after) (λ w. IsSomeAnd (last_view v (e ∷ older)) (λ x. tells x w))) at told.0.view;
        own = own_view (e ∷ older) inside;
        hand = λ signs some. subst (λ (v : User). find (λ x. user_of x == u) (accepted_by e.call (client_of v older) e.after (tried_view v older) ++ views older) ≡ in_hand (client_of u older)) (sym at)
            (hand_first u e.call (client_of u older) e.after (tried_view u older) (views older) signs some (λ x i. own_of at x i));
        declared = hand_declared (owner keys u) older (tried_view u older) (client_of u older) (holds_at keys u older is.2).own;
        same = λ none. ap (λ (l : List View). find (λ x. user_of x == u) (l ++ views older)) (accepts_none e.call (client_of e.user older) e.after (tried_view e.user older) none);
      }

      go : (b : Bool) → (e.user == u) ≡ b → Along answers tells accepted u None first (steps_of u older) (last_view u older) (client_of u older)
          → Along answers tells accepted u None first (if b then steps_of u older ++ step_in e ∷ [] else steps_of u older) (last_view u (e ∷ older)) (if b then e.after else client_of u older)
      go true same along =
          one_more answers tells accepted u None first (steps_of u older) (last_view u older) (client_of u older) (step_in e) (last_view u (e ∷ older)) along (step (eqb-true e.user u same))
      go false same along =
          let at : last_view u (e ∷ older) ≡ last_view u older = found_other u e.user mine (views older) (λ x i. accepted_is_own keys e older is x i) same in
          subst (λ (l : Option View). Along answers tells accepted u None first (steps_of u older) l (client_of u older)) (sym at) along
