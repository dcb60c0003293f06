-- The deeds of a client are steps of it, and lives are runs.
use Rattle.std.proofs.Common.{◌≡◌, List, [], ◌∷◌, sym, ap, subst}
use Rattle.std.specs.List.{flat_map}
use Rattle.client_steps.specs.Steps.{AreSteps, Client, FromOpen, IsSound, Open, Owner, StepTaken, first}
use Rattle.client_steps.proofs.Joins.{steps_join}
use Rattle.client_verify.specs.State.{State}
use Rattle.client_runs.specs.Runs.{client_of, owner}
use Rattle.client_runs.proofs.OfUsers.{steps_are_runs}
use Rattle.file_session.specs.Calls.{Call, step_of}
use Rattle.file_session.specs.Calls as session
use Rattle.file_session.specs.Order.{Calls, LacksLeaves, LacksNumbers, LacksPlan, Move, Sends}
use Rattle.file_session.specs.Went.{Answering, At, Moves}
use Rattle.session_runs.specs.Lives.{Carries, Deed, IsCut, IsLife, Leads, LivesAreRuns, Reads, Takes, steps_by, steps_in}

-- what a session's call is to its client
pub call_steps : (s : State) (call : Call) (new : State) → session.Leads s call new → FromOpen s (step_of call) (Open new) × IsSound (Open new)
unfolding session.Leads
call_steps s call new h = (h.0, h.1)

module _ {T : Type 0} (answers : Answering T) (o : Owner) where
  -- the client stays while the transport is asked
  stays : (a mid : At T) (c : Client) (steps : List StepTaken) → mid.client ≡ a.client → AreSteps o (Open mid.client) steps c → AreSteps o (Open a.client) steps c
  stays a mid c steps same is = subst (λ (s : State). AreSteps o (Open s) steps c) same is

  -- the calls of moves are steps
  pub moves_are_steps : (a : At T) (ms : List Move) (b : At T) → (run : Moves answers a ms b) → AreSteps o (Open a.client) (steps_in answers a ms b run) (Open b.client)
  moves_are_steps a [] b run = ap (λ (p : At T). Open p.client) run
  moves_are_steps a (Calls call ∷ ms) b (mid, one, more) =
      let is = call_steps a.client call mid.client one.0 in
      (is.0, is.1, moves_are_steps mid ms b more)
  moves_are_steps a (Sends r x ∷ ms) b (mid, one, more) = stays a mid (Open b.client) (steps_in answers mid ms b more) one.1 (moves_are_steps mid ms b more)
  moves_are_steps a (LacksLeaves ∷ ms) b (mid, one, more) = stays a mid (Open b.client) (steps_in answers mid ms b more) one.0 (moves_are_steps mid ms b more)
  moves_are_steps a (LacksPlan ∷ ms) b (mid, one, more) = stays a mid (Open b.client) (steps_in answers mid ms b more) one.0 (moves_are_steps mid ms b more)
  moves_are_steps a (LacksNumbers ∷ ms) b (mid, one, more) = stays a mid (Open b.client) (steps_in answers mid ms b more) one.0 (moves_are_steps mid ms b more)

  -- by other names of the clients before and after them
  named : (a b before after : Client) (steps : List StepTaken) → before ≡ a → after ≡ b → AreSteps o a steps b → AreSteps o before steps after
  named a b before after steps at_a at_b is = rw (at_a, at_b) is

  -- so are deeds
  pub deed_is_steps : (before : Client) (d : Deed answers) (after : Client) → Leads answers o before d after → AreSteps o before (steps_by answers d) after
  deed_is_steps before (Carries c) after is = named (Open c.before) (Open c.after) before after (steps_by answers (Carries c)) is.0 is.1 (moves_are_steps _ c.ran.moves _ c.ran.run)
  deed_is_steps before (Reads c) after is = named (Open c.before) (Open c.after) before after (steps_by answers (Reads c)) is.0 is.1 (moves_are_steps _ c.told.moves _ c.told.run)
  deed_is_steps before (IsCut c) after is = named (Open c.before) (Open c.reached.client) before after (steps_by answers (IsCut c)) is.0 is.1 (moves_are_steps _ c.moves c.reached c.run)
  deed_is_steps before (Takes s) after is = (is.0, is.1, is.2)

  -- and lives
  pub life_is_steps : (before : Client) (deeds : List (Deed answers)) (after : Client) → IsLife answers o before deeds after → AreSteps o before (flat_map (steps_by answers) deeds) after
  life_is_steps before [] after is = is
  life_is_steps before (d ∷ later) after (mid, one, more) =
      steps_join o before mid after (steps_by answers d) (flat_map (steps_by answers) later) (deed_is_steps before d mid one) (life_is_steps mid later after more)

pub lives_are_runs : {T : Type 0} (answers : Answering T) → LivesAreRuns answers
lives_are_runs answers keys lives run are =
    steps_are_runs keys run
    (λ u. subst (λ (steps : List StepTaken). AreSteps (owner keys u) first steps (client_of u run)) (sym (are.steps u))
    (life_is_steps answers (owner keys u) first (lives u) (client_of u run) (are.lived u)))
