-- An honest run, step by step.
use Rattle.std.proofs.Common.{◌≡◌, ◌≢◌, ℕ, ◌<◌, ◌≤◌, ◌+◌, take, get_or, length, Bool, true, false, ◌==◌, if◌then◌else◌, List, [], ◌∷◌, ◌++◌, map, Option, Some, None, option_and_then, reverse, refl, sym, ap, subst, ◌∙◌}
use Rattle.std.specs.Prelude.{option_to_list}
use Rattle.std.proofs.lemmas.Bool.{eqb-true, eqb-false}
use Rattle.std.proofs.lemmas.List.{reverse-append, take_all, take_more}
use Rattle.layout.specs.Types.{User}
use Rattle.client_tree.specs.Held.{Block, keeping_all}
use Rattle.client_steps.specs.Steps.{StepTaken, first}
use Rattle.client_runs.specs.declared.world.Answer.{Answer}
use Rattle.client_runs.specs.Runs.{Event, client_of}
use Rattle.client_runs.specs.Clients.{client_at}
use Rattle.consistency_server.specs.Answers.{Call}
use Rattle.honest_runs.specs.declared.step.HonestStep.{HonestStep}
use Rattle.honest_runs.specs.declared.town.Town.{Town}
use Rattle.honest_runs.specs.HonestRuns.{Exchange, HonestEvent, carried_out, events}
use Rattle.honest_runs.specs.Served.{AreServed, Keep, exchanges}
use Rattle.honest_runs.specs.Town.{Happens, IsCarriedOut, StandsSoFar, client_after}
use Rattle.honest_runs.proofs.Events.{events_with, with_exchange, with_step}

pub none_yet : {A : Type 0} (answers : List (Answer A)) (town : Town A) → answers ≡ [] → ((u : ℕ) → client_at town.clients u ≡ first) → town.store ≡ [] → town.server ≡ [] → town.exchanges.items ≡ []
    → StandsSoFar [] answers town
none_yet {A} answers town none firsts blocks calls exchanged =
    let stands : StandsSoFar [] [] town = record { run = []; is_run = tt; kept = tt; leads = record { clients = λ u. sym (firsts u); calls = sym calls; blocks = sym blocks; answers = sym exchanged } } in
    subst (λ (given : List (Answer A)). StandsSoFar [] given town) (sym none) stands

pub served : {A : Type 0} (steps : List (HonestStep A)) (answers : List (Answer A)) (town : Town A) → StandsSoFar steps answers town → AreServed steps answers
served steps answers town s = record { run = s.run; is_run = s.is_run; kept = s.kept }

-- ---- one step more

last_first : {X : Type 0} (xs : List X) (x : X) → reverse (xs ++ x ∷ []) ≡ x ∷ reverse xs
last_first xs x = reverse-append xs (x ∷ [])

module _ {A : Type 0} (t : HonestStep A) (old new : Town A) (others : (v : ℕ) → v ≢ t.user → client_at new.clients v ≡ client_at old.clients v) where
  -- each user's client is the one in memory still
  next_client : (s : Option StepTaken) (older : List Event) → client_at new.clients t.user ≡ client_after (client_at old.clients t.user) s
      → ((u : User) → client_of u older ≡ client_at old.clients u) → (u : User) → client_of u (events_with t.user s older) ≡ client_at new.clients u
  next_client None older after same u =
      elim (u == t.user) as (λ b. (u == t.user) ≡ b → client_of u older ≡ client_at new.clients u) [
        | true ↦ (λ eq. same u ∙ ap (λ (v : User). client_at old.clients v) (eqb-true u t.user eq) ∙ sym after ∙ ap (λ (v : User). client_at new.clients v) (sym (eqb-true u t.user eq)))
        | false ↦ (λ eq. same u ∙ sym (others u (eqb-false u t.user eq)))
      ] refl
  next_client (Some s) older after same u = go (t.user == u) refl
    where
      go : (b : Bool) → (t.user == u) ≡ b → (if b then s.after else client_of u older) ≡ client_at new.clients u
      go true eq = sym after ∙ ap (λ (v : User). client_at new.clients v) (eqb-true t.user u eq)
      go false eq = same u ∙ sym (others u (λ w. eqb-false t.user u eq (sym w)))

module _ {A : Type 0} (steps : List (HonestStep A)) (answers : List (Answer A)) (t : HonestStep A) (a : Answer A) (old new : Town A) (s : StandsSoFar steps answers old) (out : IsCarriedOut t a old new) where
  abbrev h : Happens t a out.call old (record new { exchanges = old.exchanges })
  h = out.happens

  abbrev e : HonestEvent
  e = h.event

  keep_more : Keep (reverse (steps ++ t ∷ [])) (reverse (answers ++ a ∷ [])) (e ∷ s.run)
  keep_more =
      subst (λ (ss : List (HonestStep A)). Keep ss (reverse (answers ++ a ∷ [])) (e ∷ s.run)) (sym (last_first steps t))
      (subst (λ (as' : List (Answer A)). Keep (t ∷ reverse steps) as' (e ∷ s.run)) (sym (last_first answers a)) (h.is_event s.run s.leads, s.kept))

  clients_then : (u : User) → client_of u (events (e ∷ s.run)) ≡ client_at new.clients u
  clients_then u =
      ap (λ (es : List Event). client_of u es) (with_step e s.run ∙ ap (λ (v : User). events_with v e.step (events s.run)) (h.is_event s.run s.leads).user)
      ∙ next_client t old new h.others e.step (events s.run) h.client s.leads.clients u

  answers_then : exchanges (e ∷ s.run) ≡ new.exchanges.items
  answers_then =
      reverse-append (e.exchange ∷ []) (map (λ h. h.exchange) s.run)
      ∙ ap (λ (xs : List (Option Exchange)). xs ++ e.exchange ∷ []) s.leads.answers
      ∙ ap (λ (x : Option Exchange). old.exchanges.items ++ x ∷ []) h.call
      ∙ sym out.kept

  more : StandsSoFar (steps ++ t ∷ []) (answers ++ a ∷ []) new
  more = record {
    run = e ∷ s.run;
    is_run = (h.is_step s.run s.leads, s.is_run);
    kept = keep_more;
    leads = record {
      clients = clients_then;
      calls = with_exchange e s.run ∙ ap (λ (c : List Call). option_to_list (option_and_then carried_out e.exchange) ++ c) s.leads.calls ∙ sym h.calls;
      blocks = ap (λ (b : List Block). keeping_all b e.put) s.leads.blocks ∙ sym h.stored;
      answers = answers_then;
    };
  }

-- the first steps, with the next one, and the answers with its answer
pub step_more : {A : Type 0} (xs : List (HonestStep A)) (i : ℕ) (t : HonestStep A) → i < length xs → t ≡ get_or xs i t
    → (answers after : List (Answer A)) (a : Answer A) (old new : Town A) → after ≡ answers ++ a ∷ []
    → StandsSoFar (take i xs) answers old → IsCarriedOut t a old new → StandsSoFar (take (i + 1) xs) after new
step_more {A} xs i t within is answers after a old new pushed stands out =
    let next : take (i + 1) xs ≡ take i xs ++ t ∷ [] = take_more xs i t within ∙ ap (λ (s : HonestStep A). take i xs ++ s ∷ []) (sym is) in
    subst (λ (given : List (Answer A)). StandsSoFar (take (i + 1) xs) given new) (sym pushed)
    (subst (λ (done : List (HonestStep A)). StandsSoFar done (answers ++ a ∷ []) new) (sym next) (more (take i xs) answers t a old new stands out))

-- the first steps are all of them
pub all_steps : {A : Type 0} (xs : List (HonestStep A)) (i : ℕ) (answers : List (Answer A)) (town : Town A) → length xs ≤ i
    → StandsSoFar (take i xs) answers town → StandsSoFar xs answers town
all_steps {A} xs i answers town past stands = subst (λ (done : List (HonestStep A)). StandsSoFar done answers town) (take_all i xs past) stands
