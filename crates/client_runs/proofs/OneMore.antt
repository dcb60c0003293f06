-- A step more of a run that is carried out.
use Rattle.std.proofs.Common.{◌≡◌, ◌≢◌, ℕ, Bool, true, false, ◌==◌, if◌then◌else◌, List, [], ◌∷◌, ◌++◌, ◌⊎◌, reverse, refl, sym, ap, ◌∙◌, subst, inl, inr}
use Rattle.std.proofs.lemmas.Bool.{eqb-true, eqb-false}
use Rattle.std.proofs.lemmas.List.{reverse-append}
use Rattle.layout.specs.Types.{User}
use Rattle.client_runs.specs.declared.world.Answer.{Answer}
use Rattle.client_runs.specs.declared.world.Answer.TheVariants as answer
use Rattle.client_runs.specs.declared.world.WorldStep.{WorldStep}
use Rattle.client_steps.specs.Steps.{Client, IsStep, Owner}
use Rattle.client_runs.specs.Runs.{Event, IsRun, client_of, owner}
use Rattle.client_runs.specs.Carried.{ComesOf, IsEventOf, IsTaken, Keep, script_keys}
use Rattle.client_runs.specs.NotTaken.{CantBeTaken}
use Rattle.client_runs.specs.Clients.{client_at}

-- The steps so far with their answers are a run, after which each user's client is the one in memory.
pub record StandsSoFar {A : Type 0} (steps : List (WorldStep A)) (answers : List (Answer A)) (now : List Client) : Type 0 where
  pub events : List Event
  pub is_run : IsRun script_keys events
  pub kept : Keep (reverse steps) (reverse answers) events
  pub clients : (u : User) → client_of u events ≡ client_at now u

module _ {A : Type 0} (t : WorldStep A) (before after : Client) where
  abbrev o : Owner
  o = owner script_keys t.user

  -- what an answer keeps: nothing, where the step can't be taken; or a step with its event
  abbrev Kept : Answer A → Type 0
  Kept a =
      ((after ≡ before) × CantBeTaken o before t.act
      × ((steps : List (WorldStep A)) (answers : List (Answer A)) (events : List Event) → CantBeTaken o (client_of t.user events) t.act → Keep steps answers events → Keep (t ∷ steps) (a ∷ answers) events))
      ⊎ (IsTaken o before t.act a after
      × ((steps : List (WorldStep A)) (answers : List (Answer A)) (e : Event) (events : List Event) → IsEventOf t a e → Keep steps answers events → Keep (t ∷ steps) (a ∷ answers) (e ∷ events)))

  kept : (a : Answer A) → ComesOf o before t.act a after → Kept a
  kept answer.NotTaken h = inl (h.0, h.1, λ steps answers events cant k. (cant, k))
  kept (answer.Opened how text) h = inr (h, λ steps answers e events is k. (is, k))
  kept (answer.Refused error) h = inr (h, λ steps answers e events is k. (is, k))
  kept answer.Closed h = inr (h, λ steps answers e events is k. (is, k))
  kept answer.Gained h = inr (h, λ steps answers e events is k. (is, k))
  kept (answer.Begun r) h = inr (h, λ steps answers e events is k. (is, k))
  kept (answer.Asks r) h = inr (h, λ steps answers e events is k. (is, k))
  kept (answer.Signed r) h = inr (h, λ steps answers e events is k. (is, k))
  kept answer.Committed h = inr (h, λ steps answers e events is k. (is, k))
  kept (answer.Sees r) h = inr (h, λ steps answers e events is k. (is, k))
  kept answer.Cached h = inr (h, λ steps answers e events is k. (is, k))
  kept answer.Crashed h = inr (h, λ steps answers e events is k. (is, k))
  kept (answer.Served status) h = inr (h, λ steps answers e events is k. (is, k))

module _ {A : Type 0} (t : WorldStep A) (a : Answer A) (clients new : List Client) (others : (u : ℕ) → u ≢ t.user → client_at new u ≡ client_at clients u) where
  -- the client of another user is as before
  other_client : (u : User) (older : List Event) → client_of u older ≡ client_at clients u → (u ≡ t.user → client_at new u ≡ client_at clients u) → client_of u older ≡ client_at new u
  other_client u older is same =
      elim (u == t.user) as (λ b. (u == t.user) ≡ b → client_of u older ≡ client_at new u) [
        | true ↦ (λ eq. is ∙ sym (same (eqb-true u t.user eq)))
        | false ↦ (λ eq. is ∙ sym (others u (eqb-false u t.user eq)))
      ] refl

  module _ (e : Event) (user : e.user ≡ t.user) (at : e.after ≡ client_at new t.user) where
    next_client : (u : User) (older : List Event) → client_of u older ≡ client_at clients u → client_of u (e ∷ older) ≡ client_at new u
    next_client u older is = go (e.user == u) refl
      where
        go : (b : Bool) → (e.user == u) ≡ b → (if b then e.after else client_of u older) ≡ client_at new u
        go true eq = at ∙ ap (λ n. client_at new n) (sym user ∙ eqb-true e.user u eq)
        go false eq = is ∙ sym (others u (λ w. eqb-false e.user u eq (user ∙ sym w)))

-- ---- the steps with one more

last_first : {X : Type 0} (xs : List X) (x : X) → reverse (xs ++ x ∷ []) ≡ x ∷ reverse xs
last_first xs x = reverse-append xs (x ∷ [])

module _ {A : Type 0} (steps : List (WorldStep A)) (answers : List (Answer A)) (t : WorldStep A) (a : Answer A) (events : List Event) where
  keep_more : Keep (t ∷ reverse steps) (a ∷ reverse answers) events → Keep (reverse (steps ++ t ∷ [])) (reverse (answers ++ a ∷ [])) events
  keep_more k =
      subst (λ (ss : List (WorldStep A)). Keep ss (reverse (answers ++ a ∷ [])) events) (sym (last_first steps t))
      (subst (λ (as' : List (Answer A)). Keep (t ∷ reverse steps) as' events) (sym (last_first answers a)) k)

module _ {A : Type 0} (steps : List (WorldStep A)) (answers : List (Answer A)) (t : WorldStep A) (a : Answer A) (clients new : List Client)
    (others : (u : ℕ) → u ≢ t.user → client_at new u ≡ client_at clients u) (h : StandsSoFar steps answers clients) where
  abbrev o_of : Owner
  o_of = owner script_keys t.user

  not_taken : client_at new t.user ≡ client_at clients t.user → CantBeTaken o_of (client_at clients t.user) t.act
      → ((ss : List (WorldStep A)) (as' : List (Answer A)) (es : List Event) → CantBeTaken o_of (client_of t.user es) t.act → Keep ss as' es → Keep (t ∷ ss) (a ∷ as') es)
      → StandsSoFar (steps ++ t ∷ []) (answers ++ a ∷ []) new
  not_taken same cant keeps = record {
    events = h.events;
    is_run = h.is_run;
    kept = keep_more steps answers t a h.events (keeps (reverse steps) (reverse answers) h.events (subst (λ (c : Client). CantBeTaken o_of c t.act) (sym (h.clients t.user)) cant) h.kept);
    clients = λ u. other_client t a clients new others u h.events (h.clients u) (λ w. ap (λ n. client_at new n) w ∙ same ∙ ap (λ n. client_at clients n) (sym w));
  }

  taken : IsTaken o_of (client_at clients t.user) t.act a (client_at new t.user)
      → ((ss : List (WorldStep A)) (as' : List (Answer A)) (e : Event) (es : List Event) → IsEventOf t a e → Keep ss as' es → Keep (t ∷ ss) (a ∷ as') (e ∷ es))
      → StandsSoFar (steps ++ t ∷ []) (answers ++ a ∷ []) new
  taken is keeps =
      let e : Event = record { user = t.user; call = is.call; after = client_at new t.user } in
      record {
        events = e ∷ h.events;
        is_run = (subst (λ (c : Client). IsStep o_of c is.call (client_at new t.user)) (sym (h.clients t.user)) is.step, is.sound, h.is_run);
        kept = keep_more steps answers t a (e ∷ h.events) (keeps (reverse steps) (reverse answers) e h.events (record { user = refl; call = is.is_call; told = is.told }) h.kept);
        clients = λ u. next_client t a clients new others e refl refl u h.events (h.clients u);
      }

  pub more : ComesOf o_of (client_at clients t.user) t.act a (client_at new t.user) → StandsSoFar (steps ++ t ∷ []) (answers ++ a ∷ []) new
  more comes = go (kept t (client_at clients t.user) (client_at new t.user) a comes)
    where
      go : Kept t (client_at clients t.user) (client_at new t.user) a → StandsSoFar (steps ++ t ∷ []) (answers ++ a ∷ []) new
      go (inl k) = not_taken k.0 k.1 k.2
      go (inr k) = taken k.0 k.1
