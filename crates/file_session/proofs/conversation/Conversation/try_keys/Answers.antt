use Rattle.std.proofs.Common.{◌≡◌, ◌≢◌, ◌<◌, ℕ, ◌+◌, ◌-◌, true, false, [], ap, arith, refl, sym, ◌∙◌}
use Rattle.file_session.specs.Order.{hearing, trying}
use Rattle.file_session.specs.Tries.{is_to_try}
use Rattle.file_session.proofs.Runs.{went_none}
use Rattle.file_session.proofs.Tries.{left_out, same_leaves, tries_all, tries_among, tries_no_more, tries_on}
use Rattle.file_session.proofs.Turns.{went_to}
use Rattle.file_session.proofs.conversation.Conversation.try_keys.Goals as goal

pub loop-key-init : goal.loop-key-init
loop-key-init g c = record {
  went = went_to (ap trying (tries_all c.args.self.now.client _ _ c.declared_by-signer.ensures c.key_count-key.ensures)) (went_none _);
  declared = c.requires;
  secrets = refl;
  leaves = λ n few. refl;
}

pub returns-in-Some-clause-went : goal.returns-in-Some-clause-went
returns-in-Some-clause-went g c =
    let i = c.loop-key.invariant in
    let s = c.args.self.now.client in
    let signer = c.declared_by-signer.result in
    let n = c.loop-key.key - 1 in
    let next : c.loop-key.key ≡ n + 1 = omega arith in
    let low : n < c.loop-key.key = omega arith in
    let does : is_to_try s signer n ≡ true = sym (same_leaves s c.loop-key.self.client signer n (i.leaves n low)) ∙ (sym c.is_to_try.ensures ∙ c.if-is_to_try.true) in
    let e = c.in-Some.ensures in
    went_to (ap (hearing []) (sym e.same))
    (tries_no_more s signer n c.update_by.result (λ is. e.another (e.same ∙ is)) does (went_to (ap (λ (k : ℕ). trying (tries_among s signer k)) next) i.went) c.update_by.ensures.went)

pub loop-key-preserved-in_default : goal.loop-key-preserved-in_default
loop-key-preserved-in_default g c =
    let i = c.loop-key.invariant in
    let e = c.update_by.ensures in
    let s = c.args.self.now.client in
    let signer = c.declared_by-signer.result in
    let n = c.loop-key.key - 1 in
    let next : c.loop-key.key ≡ n + 1 = omega arith in
    let low : n < c.loop-key.key = omega arith in
    let does : is_to_try s signer n ≡ true = sym (same_leaves s c.loop-key.self.client signer n (i.leaves n low)) ∙ (sym c.is_to_try.ensures ∙ c.if-is_to_try.true) in
    let declined = c.unless_declined.ensures.none c.in_default.is in
    record {
      went = tries_on s signer n c.update_by.result declined does (went_to (ap (λ (k : ℕ). trying (tries_among s signer k)) next) i.went) e.went;
      declared = e.declined declined;
      secrets = e.secrets ∙ i.secrets;
      leaves = λ k few.
          let other : k ≢ n = λ same. omega (arith, few, same) in
          e.others k other ∙ i.leaves k (omega (arith, few));
    }

pub loop-key-preserved : goal.loop-key-preserved
loop-key-preserved g c =
    let i = c.loop-key.invariant in
    let s = c.args.self.now.client in
    let signer = c.declared_by-signer.result in
    let n = c.loop-key.key - 1 in
    let next : c.loop-key.key ≡ n + 1 = omega arith in
    let low : n < c.loop-key.key = omega arith in
    let not : is_to_try s signer n ≡ false = sym (same_leaves s c.loop-key.self.client signer n (i.leaves n low)) ∙ (sym c.is_to_try.ensures ∙ c.if-is_to_try.false) in
    record {
      went = left_out s signer n not (went_to (ap (λ (k : ℕ). trying (tries_among s signer k)) next) i.went);
      declared = i.declared;
      secrets = i.secrets;
      leaves = λ k few. i.leaves k (omega (arith, few));
    }
