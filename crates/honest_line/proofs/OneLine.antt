-- Over each honest run all stand in one line.
use Rattle.std.proofs.Common.{ℕ, ◌+◌, ◌*◌, ◌==◌, Bool, true, false, if◌then◌else◌, List, [], ◌∷◌, replicate, Result, Ok, Err, IfOk}
use Rattle.std.specs.List.{All}
use Rattle.std.proofs.lemmas.List.{length-replicate}
use Rattle.std.proofs.lemmas.List.Elements.{All-cons, All-nil}
use Rattle.layout.specs.Types.{User}
use Rattle.lms_sign.specs.Secret.{Secret}
use Rattle.lms_sign.proofs.Drawn.{drawn_has}
use Rattle.client_releases.specs.Releasing.{no_secret}
use Rattle.agreement.specs.Lines.{IsBeginning, line}
use Rattle.agreement.proofs.Members.{to_all}
use Rattle.client_runs.specs.declared.world.Answer.{Answer}
use Rattle.client_runs.specs.Carried.{script_key, script_keys}
use Rattle.client_runs.specs.Released.{views}
use Rattle.client_runs.specs.Runs.{Keys, pinned}
use Rattle.client_runs.proofs.Once.{certificates_once, leaves_once, structures_once}
use Rattle.fork_consistency.proofs.Consistent.{consistent_genuine}
use Rattle.fork_consistency.proofs.ScriptKeys.{pinned_fits}
use Rattle.honest_history.specs.Placed.{placed}
use Rattle.honest_runs.specs.declared.step.HonestStep.{HonestStep}
use Rattle.honest_runs.specs.HonestRuns.{HonestEvent, IsHonestRun, events, history}
use Rattle.honest_runs.specs.Served.{AreServed}
use Rattle.honest_runs.proofs.Events.{are_runs}
use Rattle.honest_line.specs.OneLine.{AreOnOneLine, AreSigningKeys, EachHonestRun, IsOneLine, IsSecret}
use Rattle.honest_line.proofs.GoingOn.{all_lead_on}
use Rattle.honest_line.proofs.Line.{apart, line_of, promised}
use Rattle.honest_line.proofs.Naming.{IsAssumed, premises}
use Rattle.honest_line.proofs.Next.{each_can_go_on}

on_one_line : (keys : Keys) (run : List HonestEvent) → IsHonestRun keys run → IsAssumed keys run → AreOnOneLine keys run
on_one_line keys run is p =
    let steps = promised keys run is p in
    record {
      unbroken = steps.0;
      statuses = steps.1;
      next = each_can_go_on keys run is p;
      lead_on = all_lead_on keys run is steps.0;
      lines = to_all (λ x. IsBeginning (line (views (events run)) x) (placed (pinned keys) (history run))) (views (events run)) (line_of keys run is p);
      consistent = consistent_genuine keys (events run) (are_runs keys run is) p.true_keys.pinned (premises keys run is (apart keys run is p) p.true_keys);
    }

pub each_honest_run : EachHonestRun
each_honest_run keys run is are p = on_one_line keys run is (record {
  no_collision = p.no_collision;
  true_keys = record { pinned = are.pinned; added = p.added };
  signers = λ u n small. (let secret = are.each u n no_secret small in (secret.identifier, secret.leaves));
})

-- ---- steps that are carried out

script_secret : (u : User) (n : ℕ) → IsSecret (script_key u n)
script_secret u n = record {
  identifier = length-replicate {A = ℕ} 16 (u + 64 * n);
  leaves = drawn_has (replicate 32 u) (replicate 16 (u + 64 * n));
}

script_keys_sign : AreSigningKeys script_keys
script_keys_sign = record {
  pinned = pinned_fits;
  each = λ u. all_of u (u == 0);
}
  where
    one : (u : User) (n : ℕ) (later : List Secret) → All IsSecret later → All IsSecret (script_key u n ∷ later)
    one u n later all = All-cons IsSecret (script_key u n) later (script_secret u n) all

    all_of : (u : User) (b : Bool) → All IsSecret (if b then script_key u 0 ∷ [] else script_key u 0 ∷ script_key u 1 ∷ script_key u 2 ∷ script_key u 3 ∷ [])
    all_of u true = one u 0 [] (All-nil IsSecret)
    all_of u false = one u 0 (script_key u 1 ∷ script_key u 2 ∷ script_key u 3 ∷ []) (one u 1 (script_key u 2 ∷ script_key u 3 ∷ []) (one u 2 (script_key u 3 ∷ []) (one u 3 [] (All-nil IsSecret))))

carried : {A : Type 0} (steps : List (HonestStep A)) (answers : List (Answer A)) → AreServed steps answers → IsOneLine steps answers
carried steps answers c =
    let run = are_runs script_keys c.run c.is_run in
    record {
      run = c.run;
      is_run = c.is_run;
      kept = c.kept;
      leaves = λ u. leaves_once script_keys (events c.run) u run;
      certificates = λ u. certificates_once script_keys (events c.run) u run;
      structures = λ u. structures_once script_keys (events c.run) u run;
      one_line = each_honest_run script_keys c.run c.is_run script_keys_sign;
    }

-- so is what a call answers with them
pub carried_ok : {A W E : Type 0} (steps : List (HonestStep A)) (answers_of : W → List (Answer A)) (r : Result W E) → IfOk r (λ w. AreServed steps (answers_of w)) → IfOk r (λ w. IsOneLine steps (answers_of w))
carried_ok steps answers_of (Ok w) is = carried steps (answers_of w) is
carried_ok steps answers_of (Err e) is = tt
