-- Runs are fork consistent.
use Rattle.std.proofs.Common.{Bool, List, Result, Ok, Err, IfOk, reverse, subst}
use Rattle.fork_consistency.specs.Premises.{AreKeys, AreKeysOf, PinnedIsKey, Premises, PremisesOf, everybody}
use Rattle.client_runs.specs.Carried.{AreCarriedOut, script_keys}
use Rattle.client_runs.specs.Released.{views}
use Rattle.client_runs.specs.Runs.{Event, IsRun, Keys}
use Rattle.client_runs.specs.declared.world.Answer.{Answer}
use Rattle.client_runs.specs.declared.world.WorldStep.{WorldStep}
use Rattle.fork_consistency.proofs.Agreed.{agreed, agreed_by_plans, all_released, are_accepted, ended, growing, numbered}
use Rattle.fork_consistency.proofs.ScriptKeys.{script_keys_are}
use Rattle.fork_consistency.specs.ForkConsistent.{AreForkConsistent, AtEachMoment, HaveLines, IsForkConsistent, StandWhereStolen}
use Rattle.fork_consistency.specs.OwnParts.{IsOutside, StolenPremises}
use Rattle.fork_consistency.proofs.OwnParts.{own_keys_stand, own_parts, super_of}
use Rattle.fork_consistency.proofs.Signed.{are_signed, changes_have_causes, groups_stand, users_stand}
use Rattle.layout.specs.Types.{User}
use Rattle.fork_consistency.proofs.Genuine.{IsGenuineRun, genuine_run}
use Rattle.fork_consistency.proofs.Growing.{lines_stay, only_grow}
use Rattle.fork_consistency.proofs.LaidFiles.{name_laid_files}
use Rattle.fork_consistency.proofs.OneWorld.{one_part, one_world}
use Rattle.fork_consistency.proofs.Premises.{is_before, premises_before}
use Rattle.fork_consistency.proofs.RunWorlds.{are_worlds_in, can_be_read, can_read}
use Rattle.fork_consistency.proofs.SameEvents.{same_events}
use Rattle.fork_consistency.proofs.Shown.{show_trees, show_worlds}
use Rattle.fork_consistency.proofs.ByCertificates.{by_certificates, super_honest}

have_lines : (keys : Keys) (run : List Event) → IsRun keys run → PinnedIsKey keys → IsGenuineRun keys run → HaveLines keys run
have_lines keys run is is_key p = record {
  shown = show_worlds keys run is is_key p;
  readings = can_be_read keys run is is_key p;
  one_world = one_world keys run is is_key p;
  laid = name_laid_files keys run is is_key p;
  numbered = numbered keys run is is_key p;
  ended = ended keys run is is_key p;
  released = all_released keys run is is_key p;
  listed = λ reads agrees. (are_worlds_in keys run is is_key p reads agrees).listed;
  growing = only_grow (views run) (are_accepted keys run is is_key p) (growing keys run is is_key p);
  staying = lines_stay run (are_accepted keys run is is_key p);
  planned = agreed_by_plans keys run is is_key p;
  agreed = agreed keys run is is_key p;
}

pub consistent_genuine : (keys : Keys) (run : List Event) → IsRun keys run → PinnedIsKey keys → IsGenuineRun keys run → AreForkConsistent keys run
consistent_genuine keys run is is_key p = record {
  lines = have_lines keys run is is_key p;
  accepted = are_accepted keys run is is_key p;
  signed = are_signed keys run is;
  users = users_stand keys run is;
  groups = groups_stand keys run is;
  causes = changes_have_causes keys run is;
  worlds = are_worlds_in keys run is is_key p;
  tables = by_certificates keys run is (super_honest keys run is_key p);
}

pub consistent : (keys : Keys) (run : List Event) → IsRun keys run → AreKeys keys → Premises keys run → AreForkConsistent keys run
consistent keys run is keys_are p = consistent_genuine keys run is keys_are.pinned (genuine_run keys run is keys_are p)

-- as they were at each moment
pub at_each : (keys : Keys) (run : List Event) → IsRun keys run → AreKeys keys → Premises keys run → AtEachMoment (AreForkConsistent keys) run
at_each keys run is keys_are p later older at =
    let whole = subst (IsRun keys) at is in
    consistent keys older (is_before keys later older whole) keys_are (premises_before keys everybody later older whole (subst (Premises keys) at p))

-- where keys are stolen
pub stands : (stolen : User → Bool) (keys : Keys) (run : List Event) → IsRun keys run → AreKeysOf (IsOutside stolen) keys → StolenPremises stolen keys run → StandWhereStolen stolen keys run
stands stolen keys run is keys_are others = record {
  tables = by_certificates keys run is (super_of stolen keys run is keys_are others);
  keys_are = own_keys_stand stolen keys run is keys_are others;
  parts = own_parts stolen keys run is keys_are others;
  readings = can_read keys run;
  one_part = one_part keys run is others.1.no_collision keys_are.pinned;
  shown = show_trees keys run is others.1.no_collision;
  signed = are_signed keys run is;
  users = users_stand keys run is;
  groups = groups_stand keys run is;
  causes = changes_have_causes keys run is;
}

pub stands_at_each : (stolen : User → Bool) (keys : Keys) (run : List Event) → IsRun keys run → AreKeysOf (IsOutside stolen) keys → StolenPremises stolen keys run → AtEachMoment (StandWhereStolen stolen keys) run
stands_at_each stolen keys run is keys_are others later older at =
    let whole = subst (IsRun keys) at is in
    stands stolen keys older (is_before keys later older whole) keys_are (others.0, premises_before keys (IsOutside stolen) later older whole (subst (PremisesOf (IsOutside stolen) keys) at others.1))

-- steps that were carried out
pub carried : {A : Type 0} (steps : List (WorldStep A)) (answers : List (Answer A)) → AreCarriedOut steps answers → IsForkConsistent steps answers
carried steps answers c = record {
  events = c.events;
  is_run = c.is_run;
  kept = c.kept;
  told = λ others are kept. same_events script_keys (reverse steps) (reverse answers) c.events others c.is_run are c.kept kept;
  leaves = c.leaves;
  certificates = c.certificates;
  structures = c.structures;
  consistent = λ p. consistent script_keys c.events c.is_run (script_keys_are everybody) p;
  consistent_at_each_moment = λ p. at_each script_keys c.events c.is_run (script_keys_are everybody) p;
  where_stolen = λ set p. stands set script_keys c.events c.is_run (script_keys_are (IsOutside set)) p;
  where_stolen_at_each_moment = λ set p. stands_at_each set script_keys c.events c.is_run (script_keys_are (IsOutside set)) p;
}

-- so is what a call answers with them
pub carried_ok : {A W E : Type 0} (steps : List (WorldStep A)) (answers_of : W → List (Answer A)) (r : Result W E) → IfOk r (λ w. AreCarriedOut steps (answers_of w)) → IfOk r (λ w. IsForkConsistent steps (answers_of w))
carried_ok steps answers_of (Ok w) is = carried steps (answers_of w) is
carried_ok steps answers_of (Err e) is = tt
